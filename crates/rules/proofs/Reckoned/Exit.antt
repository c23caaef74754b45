-- Exit, and the reckoning: what it says is there after an exit is what the tables hold.
use Prim.Native.Nat.{ℕ, zero, suc, ◌+◌, ◌-◌, ◌%◌, ◌≤◌, ◌<◌, min}
use native.Mathlib.Omega.{arith}
use native.Mathlib.Decide.{dec_lt, ℕ_discrete}
use mathlib.Core.Path.{◌≡◌, refl, sym, ap, ap₂, subst, ◌∙◌}
use mathlib.Core.Logic.{◌⊎◌, inl, inr, ⊎_elim}
use mathlib.Core.Bool.{Bool, true, false, cond, not, ◌&&◌, ◌||◌, and-false}
use mathlib.Core.List.{List, [], ◌∷◌, ◌++◌, map, map-map, append_assoc, append-nil}
use lib.ListN.{length, get_or, take, length-append}
use lib.Seq.{length-take-le, take_all, take-append-le}
use lib.Dec.{eqb, ltb, lit<}
use borrow.Author.Tests.{eqb-true, eq-eqb, ne_eqb, ltb-false, le-ltb, lt-ltb}
use Rattle.ledger.specs.Ledger.{Ledger, Link, Message, Monitor, mail, ties, with_mail, with_ties, Ties}
use Rattle.ledger.specs.Lists.{those, by_slot}
use Rattle.ledger.specs.Reckon
use Rattle.ledger.specs.Reckon.{end_links, end_monitors, linked, notice, sent, worn_by, telling}
use Rattle.ledger.specs.Room.{datas_left, mails_left, messages_left}
use Rattle.pools.specs.Pool.{Exact, occurs}
use Rattle.pools.specs.Lists.{keep}
use Rattle.pools.specs.Slot.{id_of, unused}
use Rattle.pools.proofs.BoolLaws.{split, true_false}
use Rattle.pools.proofs.PoolLaws.{lowest-first, lowest-same}
use Rattle.pools.proofs.ListLaws.{keep-same_on}
use Rattle.pools.proofs.ExactLaws.{exact_used}
use Rattle.pools.proofs.SlotLaws.{slot_of_id}
use Rattle.records.specs.Header.{packed}
use Rattle.records.specs.Records.{exit_bytes}
use Rattle.tables.specs.declared.Caps.{Caps}
use Rattle.tables.specs.Columns.{AGE, LINK-ONE, LINK-TWO, MONITOR-AGE, STATE, WATCHED, WATCHER}
use Rattle.tables.specs.Limits.{ACTOR-FACTOR, MONITOR-FACTOR}
use Rattle.tables.specs.State.{State, at}
use Rattle.rules.specs.Terms.{actor_id, alive, joins, monitor_id}
use Rattle.rules.specs.Aged.{is_worn, monitor_pool}
use Rattle.rules.specs.Agrees.{Agrees, actor_at, link_at, monitor_at}
use Rattle.rules.specs.Actions.{has_room, post}
use Rattle.rules.specs.Calls.{Told, cut_link, cut_links, cut_monitor, cut_monitors, link_of, missed, noticed, tell, tie, told, unwatch}
use Rattle.rules.specs.Good.{Going, Good}
use Rattle.rules.proofs.Reckoned.Ledger.{alive_slot, boxes-count, datas-count, room_none, slot_map, those-map}
use Rattle.rules.proofs.Lists.Ties
use Rattle.rules.proofs.Lists.Ties.{used_inside, below}
use Rattle.rules.proofs.Ends.Steps.{Told-of}
use Rattle.rules.proofs.Frames.Wrote.{wrote_none}
use Rattle.rules.proofs.Frames.Actions.{room_still, wrote_tie}
use Rattle.rules.proofs.Reckoned.Pools.{pool_ends}
use Rattle.rules.proofs.Frames.Pools.{use_ends}
use Rattle.rules.proofs.Reckoned.Ties.{bond_joins, bond_used, eye_used, linked-once, linked-same, untie_agrees, unwatch_agrees, up_id}
use Rattle.rules.proofs.Reckoned.Messages.{post_agrees}
use Rattle.rules.proofs.Lists.Notices.{map_rows, rows, rows_no, rows-past, rows_same, rows_yes, slot_rows, those-all, those_then, upto, upto-less, upto-more, upto_no, upto_yes}
use Rattle.rules.proofs.Kept.Exit.{Cut, Unseen, cut_none, cut_link_no, cut_link_yes, cut_links_cuts, cut_monitor_no, cut_monitor_yes, cut_monitors_cuts, going_fine, link_found, tell_lost, tell-sent, unseen_next, unseen_none, unseen_one, untied, watcher_there}
use Rattle.rules.proofs.Kept.Clauses.{link_ends, monitor-ends}

-- ---- the reckoning in the midst of an end
-- the tables hold it with these links and monitors, and the first of the notices: all of them, or as many as there was room for
pub record Along (k : Caps) (l : Ledger) (ns : List Message) (x : Ties) (t : Told) : Type 0 where
  pub agrees : Agrees k (with_ties (sent (take t.sent ns) l) x) t.state
  pub count : t.sent + t.lost ≡ length ns
  pub full : (t.lost ≡ 0 → ⊥) → has_room k t.state ≡ false

-- before the first
begin_along : (k : Caps) (l : Ledger) (s : State) → Agrees k l s → Along k l [] l.ties (told 0 0 s)
begin_along k l s r = record { agrees = rw append-nil r; count = omega arith; full = λ h. absurd (h refl) }

-- the same notices, links and monitors, otherwise said
along_same : {k : Caps} {l : Ledger} {ns ms : List Message} {x y : Ties} {t : Told} → ns ≡ ms → x ≡ y → Along k l ns x t → Along k l ms y t
along_same {k} {l} {ns} {ms} {x} {y} {t} e f r = subst (λ (n : List Message). Along k l n y t) e (subst (λ (z : Ties). Along k l ns z t) f r)

-- one more of a list of which all were sent
take_more : (b ns : List Message) (m : Message) (n : ℕ) → n ≡ length ns → (b ++ take n ns) ++ (m ∷ []) ≡ b ++ take (n + 1) (ns ++ (m ∷ []))
take_more b ns m n e =
    let v : take n ns ≡ ns = take_all n ns (omega arith) in
    let w : take (n + 1) (ns ++ (m ∷ [])) ≡ ns ++ (m ∷ []) = take_all (n + 1) (ns ++ (m ∷ [])) (omega (arith, length-append ns (m ∷ []))) in
    rw (v, w) (append_assoc b ns (m ∷ []))

-- ---- a notice
module _ (k : Caps) (l : Ledger) (ns : List Message) (x : Ties) (t : Told) (a b me reason monitor : ℕ) (w : Going k a me t.state) (there : alive (t.state STATE) b ≡ true) (r : Along k l ns x t) where
  -- it is sent
  told-sent : has_room k t.state ≡ true → Along k l (ns ++ (notice me reason monitor (actor_id t.state b) ∷ [])) x (noticed k t b me reason monitor)
  told-sent y =
      let s = t.state in
      let m = notice me reason monitor (actor_id s b) in
      let z : t.lost ≡ 0 = elim (ℕ_discrete t.lost 0) [ yes z ↦ z | no z ↦ true_false (has_room k s) y (r.full z) ] in
      let n : t.sent ≡ length ns = omega (arith, r.count) in
      record {
        agrees = subst (λ (bs : List Message). Agrees k (with_ties (with_mail l (mail bs l.mail.hands)) x)
            (post k s b me (packed 4 1 0) (exit_bytes me reason monitor))) (take_more l.mail.boxes ns m t.sent n)
            (post_agrees k s (with_ties (sent (take t.sent ns) l) x) b w.good r.agrees there me (packed 4 1 0) (exit_bytes me reason monitor) y (going_fine w reason monitor) m refl);
        count = omega (arith, r.count, length-append ns (m ∷ []));
        full = λ h. absurd (h z);
      }

  -- it is lost
  told_lost : has_room k t.state ≡ false → Along k l (ns ++ (notice me reason monitor (actor_id t.state b) ∷ [])) x (missed t)
  told_lost y =
      let m = notice me reason monitor (actor_id t.state b) in
      record {
        agrees = subst (λ (ms : List Message). Agrees k (with_ties (sent ms l) x) t.state) (sym (take-append-le t.sent ns (m ∷ []) (omega (arith, r.count)))) r.agrees;
        count = omega (arith, r.count, length-append ns (m ∷ []));
        full = λ h. y;
      }

  -- either
  tell_along : Along k l (ns ++ (notice me reason monitor (actor_id t.state b) ∷ [])) x (tell k t b me reason monitor)
  tell_along =
      split (has_room k t.state) (λ y. rw (tell-sent k t b me reason monitor y) (told-sent y)) (λ y. rw (tell_lost k t b me reason monitor y) (told_lost y))

-- ---- how many are sent
-- as many as there are, and as there is room for
along_sent : (k : Caps) (l : Ledger) (ns : List Message) (x : Ties) (t : Told) → Good k t.state → Along k l ns x t → t.sent ≡ min (length ns) (messages_left l)
along_sent k l ns x t g r =
    let c = with_ties (sent (take t.sent ns) l) x in
    let n : length (take t.sent ns) ≡ t.sent = length-take-le t.sent ns (omega (arith, r.count)) in
    let b : length (l.mail.boxes ++ take t.sent ns) ≡ length l.mail.boxes + t.sent = length-append l.mail.boxes (take t.sent ns) ∙ ap (λ (x : ℕ). length l.mail.boxes + x) n in
    let x = boxes-count k t.state g c r.agrees in
    let y = datas-count k t.state g c r.agrees in
    elim (ℕ_discrete t.lost 0) [
      | yes z ↦ omega (arith, r.count, x, y, b)
      | no z ↦ ⊎_elim (λ f. omega (arith, r.count, x, y, b, f)) (λ f. omega (arith, r.count, x, y, b, f)) (either (mails_left c) (datas_left c) (room_none k t.state g c r.agrees (r.full z)))
    ]
  where
    -- the lesser of two is 0 where one of them is
    either : (a b : ℕ) → min a b ≡ 0 → (a ≡ 0) ⊎ (b ≡ 0)
    either a b e = elim (ℕ_discrete a 0) [ yes z ↦ inl z | no z ↦ inr (omega arith) ]

-- the first n are those for which there is room
take_room : (n r : ℕ) (l : List Message) → n ≡ min (length l) r → take n l ≡ take r l
take_room n r l e =
    elim (dec_lt r (length l)) [
      | yes h ↦ let q : n ≡ r = omega arith in rw q
      | no h ↦ take_all n l (omega arith) ∙ sym (take_all r l (omega arith))
    ]

-- THE LAW of a step with notices: they are the reckoning's, and as many of them are sent
pub along_told : (k : Caps) (notes : ℕ → ℕ → Ledger → List Message) (f : ℕ → Ledger → Ledger) (me reason : ℕ) (l : Ledger) (ns : List Message) (x : Ties) (t : Told) → Good k t.state →
    Along k l ns x t → ns ≡ notes me reason l → Agrees k (f me (sent (take t.sent ns) l)) t.state → Told-of k (telling notes f) me reason l t
along_told k notes f me reason l ns x t g z n r =
    let room = messages_left l in
    let e : take t.sent ns ≡ take room (notes me reason l) = take_room t.sent room ns (along_sent k l ns x t g z) ∙ ap (take room) n in
    record {
      agrees = subst (λ (ms : List Message). Agrees k (f me (sent ms l)) t.state) e r;
      sent = sym (length-take-le t.sent ns (omega (arith, z.count))) ∙ ap (length {A = Message}) e;
      due = z.count ∙ ap (length {A = Message}) n;
    }

-- ---- the links of slot a
-- there is one with slot c
abbrev pub linked_to : Caps → State → ℕ → ℕ → Bool
linked_to k s a c = ltb (link_of k s (suc a) (suc c)) k.links

-- the notices to its partners below n
abbrev pub link_notes : Caps → State → ℕ → ℕ → ℕ → ℕ → List Message
link_notes k s a me reason n = rows (linked_to k s a) (λ c. notice me reason 0 (actor_id s c)) n

-- a link of the reckoning is one with a partner below n
abbrev pub link_gone : Caps → State → ℕ → ℕ → ℕ → Link → Bool
link_gone k s a me n x = upto (λ c. linked_to k s a c && Reckon.between me (actor_id s c) x) n

-- without the links that pass
abbrev pub unlinked_from : Ties → (Link → Bool) → Ties
unlinked_from x p = ties (those (λ y. not (p y)) x.links) x.monitors x.worn

-- a link with slot b ends on both sides
untie_along : (k : Caps) (l : Ledger) (ns : List Message) (x : Ties) (t : Told) (a b me : ℕ) → Going k a me t.state → alive (t.state STATE) b ≡ true →
    link_of k t.state (suc a) (suc b) < k.links → Along k l ns x t →
    Along k l ns (unlinked_from x (Reckon.between me (actor_id t.state b))) (told t.sent t.lost (tie t.state (link_of k t.state (suc a) (suc b)) 0 0))
unfolding end_links
untie_along k l ns x t a b me w there m r =
    let s = t.state in
    let e = link_of k s (suc a) (suc b) in
    let c = with_ties (sent (take t.sent ns) l) x in
    record {
      agrees = untie_agrees k c s w.good r.agrees e (Reckon.between me (actor_id s b)) m (λ d u n.
          subst (λ (i : ℕ). Reckon.between i (actor_id s b) (link_at s d) ≡ eqb d e) w.id (linked-once k c s w.good r.agrees a b w.there there m d u n));
      count = r.count;
      full = λ h. room_still k (wrote_tie (wrote_none s) e 0 0) refl refl ∙ r.full h;
    }

module _ (k : Caps) (l : Ledger) (s : State) (a me reason : ℕ) where
  -- one more
  link_along : (b : ℕ) (t : Told) → Cut k a me b s t.state → Along k l (link_notes k s a me reason b) (unlinked_from l.ties (link_gone k s a me b)) t →
      Along k l (link_notes k s a me reason (suc b)) (unlinked_from l.ties (link_gone k s a me (suc b))) (cut_link k a me reason b t)
  link_along b t w r =
      let u = t.state in
      let e = link_of k u (suc a) (suc b) in
      let g = w.going.good in
      let ns = link_notes k s a me reason b in
      let x = unlinked_from l.ties (link_gone k s a me b) in
      let f : Link → ℕ → Bool = λ x c. linked_to k s a c && Reckon.between me (actor_id s c) x in
      let same : ltb (link_of k u (suc a) (suc b)) k.links ≡ linked_to k s a b =
      ap (λ (x : ℕ). ltb x k.links) (lowest-same (joins (s LINK-ONE) (s LINK-TWO) (suc a) (suc b)) (joins (u LINK-ONE) (u LINK-TWO) (suc a) (suc b)) k.links (λ e l. w.joined b e l ∙ rw (le-ltb b b (omega arith)))) in
      let id : actor_id u b ≡ actor_id s b = ap (λ (c : List ℕ). id_of ACTOR-FACTOR (get_or c b 0) b) (w.wrote.cols AGE refl) in
      split (ltb (link_of k u (suc a) (suc b)) k.links)
      (λ y. let o = link_found k u a b g y in
      let lk : linked_to k s a b ≡ true = sym same ∙ y in
      let c = untied k s u a me b e w o.0 o.1 in
      let i : actor_id (tie u e 0 0) b ≡ actor_id s b = ap (λ (c : List ℕ). id_of ACTOR-FACTOR (get_or c b 0) b) ((wrote_tie (wrote_none u) e 0 0).cols AGE refl) ∙ id in
      rw (cut_link_yes k a me reason b t y)
      (along_same (ap (λ (i : ℕ). ns ++ (notice me reason 0 i ∷ [])) i ∙ sym (rows_yes (linked_to k s a) (λ c. notice me reason 0 (actor_id s c)) b lk))
      (ap (λ (ls : List Link). ties ls l.ties.monitors l.ties.worn) (those_then (link_gone k s a me b) (Reckon.between me (actor_id u b)) l.ties.links)
      ∙ ap (unlinked_from l.ties) (ap (λ (i : ℕ). λ (x : Link). link_gone k s a me b x || Reckon.between me i x) id ∙ upto-more f b (linked_to k s a b) (Reckon.between me (actor_id s b)) (λ x. refl) lk))
      (tell_along k l ns (unlinked_from x (Reckon.between me (actor_id u b))) (told t.sent t.lost (tie u e 0 0)) a b me reason 0 c.going
      (rw ((wrote_tie (wrote_none u) e 0 0).cols STATE refl) o.2) (untie_along k l ns x t a b me w.going o.2 o.0 r))))
      (λ y. let lk : linked_to k s a b ≡ false = sym same ∙ y in
      rw (cut_link_no k a me reason b t y)
      (along_same (sym (rows_no (linked_to k s a) (λ c. notice me reason 0 (actor_id s c)) b lk))
      (ap (unlinked_from l.ties) (upto-less f b (linked_to k s a b) (Reckon.between me (actor_id s b)) (λ x. refl) lk)) r))

  -- all below n
  pub links_along : (n : ℕ) → Going k a me s → Agrees k l s → Along k l (link_notes k s a me reason n) (unlinked_from l.ties (link_gone k s a me n)) (cut_links k a me reason n (told 0 0 s))
  unfolding rows upto cut_links
  links_along zero w r = rw (those-all l.ties.links) (begin_along k l s r)
  links_along (suc n) w r = link_along n (cut_links k a me reason n (told 0 0 s)) (cut_links_cuts k s (told 0 0 s) a me reason n (cut_none k s a me w)) (links_along n w r)

-- ---- the monitors on slot a
-- monitor i is on it
abbrev pub seen_by : State → ℕ → ℕ → Bool
seen_by s a i = eqb (at s WATCHED i) (suc a)

-- the notices to its watchers by monitors below n
abbrev pub eye_notes : State → ℕ → ℕ → ℕ → ℕ → List Message
eye_notes s a me reason n = rows (seen_by s a) (λ i. notice me reason (monitor_id s i) (actor_id s (at s WATCHER i - 1))) n

-- a monitor of the reckoning is one on it, below n
abbrev pub eye_gone : State → ℕ → ℕ → Monitor → Bool
eye_gone s a n m = upto (λ i. seen_by s a i && eqb m.id (monitor_id s i)) n

-- without the monitors that pass; worn slots may be listed in another order
abbrev pub unseen_in : Ties → (Monitor → Bool) → List ℕ → Ties
unseen_in x q worn = ties x.links (those (λ m. not (q m)) x.monitors) worn

-- the same with some list of them
abbrev pub Unseeing : Caps → Ledger → List Message → (Monitor → Bool) → Told → Type 0
Unseeing k l ns q t = (worn : List ℕ) × Along k l ns (unseen_in l.ties q worn) t

-- monitor i ends on both sides
unwatch_along : (k : Caps) (l : Ledger) (ns : List Message) (q : Monitor → Bool) (t : Told) (i : ℕ) → Good k t.state → i < k.monitors → Unseeing k l ns q t →
    Unseeing k l ns (λ m. q m || eqb m.id (monitor_id t.state i)) (told t.sent t.lost (unwatch t.state i))
unfolding end_monitors
unwatch_along k l ns q t i g m r =
    let s = t.state in
    let c = with_ties (sent (take t.sent ns) l) (unseen_in l.ties q r.0) in
    let ws = r.0 ++ worn_by MONITOR-FACTOR (map (λ m. m.id) (those (λ m. eqb m.id (monitor_id s i)) c.ties.monitors)) in (
      ws,
      record {
        agrees = subst (λ (x : List Monitor). Agrees k (with_ties c (ties c.ties.links x ws)) (unwatch s i)) (those_then q (λ m. eqb m.id (monitor_id s i)) l.ties.monitors) (unwatch_agrees k c s i g r.1.agrees m);
        count = r.1.count;
        full = λ h. room_still k (use_ends monitor_pool s i).wrote refl refl ∙ r.1.full h;
      },
    )

module _ (k : Caps) (l : Ledger) (s : State) (a me reason : ℕ) where
  -- one more
  monitor_along : (i : ℕ) (t : Told) → i < k.monitors → Unseen k a me i s t.state → Unseeing k l (eye_notes s a me reason i) (eye_gone s a i) t →
      Unseeing k l (eye_notes s a me reason (suc i)) (eye_gone s a (suc i)) (cut_monitor k a me reason i t)
  monitor_along i t m w r =
      let u = t.state in
      let g = w.going.good in
      let es = eye_notes s a me reason i in
      let f : Monitor → ℕ → Bool = λ x i. seen_by s a i && eqb x.id (monitor_id s i) in
      let n = unseen_next k s u a me i w in
      let same : eqb (at u WATCHED i) (suc a) ≡ seen_by s a i = ap (λ (x : ℕ). eqb x (suc a)) n.0 in
      let id : monitor_id u i ≡ monitor_id s i = ap (λ (c : List ℕ). id_of MONITOR-FACTOR (get_or c i 0) i) (w.wrote.cols MONITOR-AGE refl) in
      split (eqb (at u WATCHED i) (suc a))
      (λ y. let o = watcher_there k u a i g m (eqb-true (at u WATCHED i) (suc a) y) in
      let sn : seen_by s a i ≡ true = sym same ∙ y in
      let x = use_ends monitor_pool u i in
      let c = unseen_one k s u a me i w m sn in
      let who : actor_id (unwatch u i) (at u WATCHER i - 1) ≡ actor_id s (at s WATCHER i - 1) = ap₂ (λ (c : List ℕ) (v : ℕ). id_of ACTOR-FACTOR (get_or c (v - 1) 0) (v - 1)) (x.wrote.cols AGE refl ∙ w.wrote.cols AGE refl) n.1 in
      let z = unwatch_along k l es (eye_gone s a i) t i g m r in
      rw (cut_monitor_yes k a me reason i t y) (
        z.0,
        along_same
            (ap₂ (λ (i : ℕ) (j : ℕ). es ++ (notice me reason i j ∷ [])) id who ∙ sym (rows_yes (seen_by s a) (λ i. notice me reason (monitor_id s i) (actor_id s (at s WATCHER i - 1))) i sn))
            (ap (λ (q : Monitor → Bool). unseen_in l.ties q z.0) (ap (λ (j : ℕ). λ (x : Monitor). eye_gone s a i x || eqb x.id j) id ∙ upto-more f i (seen_by s a i) (λ x. eqb x.id (monitor_id s i)) (λ x. refl) sn))
            (tell_along k l es (unseen_in l.ties (λ m. eye_gone s a i m || eqb m.id (monitor_id u i)) z.0) (told t.sent t.lost (unwatch u i)) a (at u WATCHER i - 1) me reason (monitor_id u i) c.going
            (rw (x.wrote.cols STATE refl) o.1) z.1),
      ))
      (λ y. let sn : seen_by s a i ≡ false = sym same ∙ y in
      rw (cut_monitor_no k a me reason i t y) (
        r.0,
        along_same (sym (rows_no (seen_by s a) (λ i. notice me reason (monitor_id s i) (actor_id s (at s WATCHER i - 1))) i sn))
            (ap (λ (q : Monitor → Bool). unseen_in l.ties q r.0) (upto-less f i (seen_by s a i) (λ x. eqb x.id (monitor_id s i)) (λ x. refl) sn)) r.1,
      ))

  -- all below n
  pub monitors_along : (n : ℕ) → n ≤ k.monitors → Going k a me s → Agrees k l s → Unseeing k l (eye_notes s a me reason n) (eye_gone s a n) (cut_monitors k a me reason n (told 0 0 s))
  unfolding rows upto cut_monitors
  monitors_along zero h w r = (l.ties.worn, rw (those-all l.ties.monitors) (begin_along k l s r))
  monitors_along (suc n) h w r =
      monitor_along n (cut_monitors k a me reason n (told 0 0 s)) (omega arith) (cut_monitors_cuts k s (told 0 0 s) a me reason n (omega arith) (unseen_none k s a me w)) (monitors_along n (omega arith) w r)

-- ---- the reckoning's notices
-- by ascending slot, of the things in a list of slots that pass: those of the slots that do
by_slots : {A : Type 0} (F n : ℕ) (thing : ℕ → A) (things : List A) (id : A → ℕ) (tell : A → Message) (p : A → Bool) (used q : ℕ → Bool) (es : List ℕ) →
    things ≡ map thing es → Exact es used → ((e : ℕ) → 0 < occurs e es → (p (thing e) ≡ q e) × (id (thing e) % F ≡ e)) →
    ((e : ℕ) → q e ≡ true → (used e ≡ true) × (e < n)) → n ≤ F → map tell (by_slot (λ x. id x % F) F (those p things)) ≡ rows q (λ e. tell (thing e)) n
by_slots {A} F n thing things id tell p used q es are all here there few =
    let f : ℕ → Message = λ e. tell (thing e) in
    ap (λ (x : List A). map tell (by_slot (λ x. id x % F) F x))
    (ap (those p) are ∙ those-map p thing es ∙ ap (map thing) (keep-same_on (λ e. p (thing e)) q es (λ e o. (here e o).0)))
    ∙ ap (map tell) (slot_map (λ x. id x % F) thing F (keep q es))
    ∙ map-map tell thing (by_slot (λ e. id (thing e) % F) F (keep q es))
    ∙ ap (map f) (slot_rows (λ e. id (thing e) % F) used q es all (λ e o. (here e o).1) F)
    ∙ map_rows f (λ e. used e && q e) (λ e. e) F
    ∙ rows_same (λ e. used e && q e) q f f F (λ e h. split (q e) (λ y. rw (y, (there e y).0)) (λ y. rw y (and-false (used e)))) (λ e h. refl)
    ∙ rows-past q f n F few (λ e h. split (q e) (λ y. absurd (omega (arith, (there e y).1))) (λ y. y))

-- tests that say the same of the things in a list of slots leave the same
stay_same : {A : Type 0} (thing : ℕ → A) (things : List A) (es : List ℕ) (p q : A → Bool) → things ≡ map thing es →
    ((e : ℕ) → 0 < occurs e es → p (thing e) ≡ q (thing e)) → those (λ x. not (p x)) things ≡ those (λ x. not (q x)) things
stay_same thing things es p q are same =
    rw are (those-map (λ x. not (p x)) thing es ∙ ap (map thing) (keep-same_on (λ e. not (p (thing e))) (λ e. not (q (thing e))) es (λ e o. ap not (same e o)))
    ∙ sym (those-map (λ x. not (q x)) thing es))

module _ (k : Caps) (s : State) (l : Ledger) (g : Good k s) (r : Agrees k l s) (a reason : ℕ) (there : alive (s STATE) a ≡ true) where
  -- "links removed by ascending partner slot, each partner sent a notice"
  pub link_notices : map (λ x. notice (actor_id s a) reason 0 x.id) (by_slot (λ x. x.id % ACTOR-FACTOR) ACTOR-FACTOR
      (those (λ x. linked l (actor_id s a) x.id) l.people.live)) ≡ link_notes k s a (actor_id s a) reason k.actors
  link_notices =
      by_slots ACTOR-FACTOR k.actors (actor_at s) l.people.live (λ x. x.id) (λ x. notice (actor_id s a) reason 0 x.id)
      (λ x. linked l (actor_id s a) x.id)
      (alive (s STATE)) (linked_to k s a) r.people.pool.slots r.people.pool.are r.people.pool.all_slots
      (λ e o. let used = exact_used (alive (s STATE)) r.people.pool.slots e r.people.pool.all_slots o in
      (linked-same k l s g r a e there used, slot_of_id ACTOR-FACTOR (at s AGE e) e (omega (arith, alive_slot k s g e used, g.range.few_actors))))
      (λ c q. let live = (link_found k s a c g q).2 in (live, alive_slot k s g c live)) g.range.few_actors

  -- the target of a monitor is the actor on both sides, or on neither
  pub target_same : (e : ℕ) → 0 < occurs e r.monitors.slots → eqb (actor_id s (at s WATCHED e - 1)) (actor_id s a) ≡ seen_by s a e
  target_same e o =
      let c = eye_used k l s s g r e o in
      let h = monitor-ends g e c.1 c.0 in
      up_id k l s g r (at s WATCHED e) a h.two h.two_lives there

  -- "monitors on the actor removed by ascending monitor slot, each watcher sent a notice"
  pub eye_notices : map (λ m. notice (actor_id s a) reason m.id m.watcher)
      (by_slot (λ m. m.id % MONITOR-FACTOR) MONITOR-FACTOR (those (λ m. eqb m.target (actor_id s a)) l.ties.monitors)) ≡
      eye_notes s a (actor_id s a) reason k.monitors
  eye_notices =
      by_slots MONITOR-FACTOR k.monitors (monitor_at s) l.ties.monitors (λ m. m.id) (λ m. notice (actor_id s a) reason m.id m.watcher)
      (λ m. eqb m.target (actor_id s a))
      (λ i. not (unused (s WATCHER) i)) (seen_by s a) r.monitors.slots r.monitors.are r.monitors.all_slots
      (λ e o. (target_same e o, slot_of_id MONITOR-FACTOR (at s MONITOR-AGE e) e (omega (arith, (eye_used k l s s g r e o).1, g.range.few_monitors))))
      (λ i q. let e = eqb-true (at s WATCHED i) (suc a) q in
      let m : i < k.monitors = omega (arith, used_inside (s WATCHED) i (λ z. omega arith), g.sized.words WATCHED (lit< tt)) in
      (rw (ne_eqb (at s WATCHER i) 0 (watcher_there k s a i g m e).0), m)) g.range.few_monitors

-- ---- the links and the monitors that are left
module _ (k : Caps) (s : State) (l : Ledger) (g : Good k s) (r : Agrees k l s) (a : ℕ) (there : alive (s STATE) a ≡ true) where
  -- a link that has slot a at one end goes with its partner at the other
  gone_with : (e c : ℕ) → e < k.links → (at s LINK-ONE e ≡ 0 → ⊥) → alive (s STATE) c ≡ true → joins (s LINK-ONE) (s LINK-TWO) (suc a) (suc c) e ≡ true → link_gone k s a (actor_id s a) k.actors (link_at s e) ≡ true
  gone_with e c m n live j =
      let i = link_of k s (suc a) (suc c) in
      let found : linked_to k s a c ≡ true = split (ltb i k.links) (λ q. q)
      (λ q. true_false (joins (s LINK-ONE) (s LINK-TWO) (suc a) (suc c) e) j (lowest-first (joins (s LINK-ONE) (s LINK-TWO) (suc a) (suc c)) k.links e (omega (arith, ltb-false i k.links q)))) in
      upto_yes (λ d. linked_to k s a d && Reckon.between (actor_id s a) (actor_id s d) (link_at s e)) c k.actors (alive_slot k s g c live)
      (rw found (bond_joins k l s g r a c e there live n m ∙ j))

  -- a link goes exactly where the actor is at one of its ends
  link_goes : (e : ℕ) → 0 < occurs e r.links.bonds → link_gone k s a (actor_id s a) k.actors (link_at s e) ≡ eqb (actor_id s (at s LINK-ONE e - 1)) (actor_id s a) || eqb (actor_id s (at s LINK-TWO e - 1)) (actor_id s a)
  unfolding joins
  link_goes e o =
      let u = bond_used k l s g r e o in
      let h = link_ends g e u.1 u.0 in
      let one : suc (at s LINK-ONE e - 1) ≡ at s LINK-ONE e = omega (arith, h.one) in
      let two : suc (at s LINK-TWO e - 1) ≡ at s LINK-TWO e = omega (arith, h.two) in
      rw (up_id k l s g r (at s LINK-ONE e) a h.one h.one_lives there, up_id k l s g r (at s LINK-TWO e) a h.two h.two_lives there)
      (split (eqb (at s LINK-ONE e) (suc a))
      (λ p. rw p (gone_with e (at s LINK-TWO e - 1) u.1 u.0 h.two_lives (rw (two, p, eq-eqb (at s LINK-TWO e) (at s LINK-TWO e) refl))))
      (λ p. split (eqb (at s LINK-TWO e) (suc a))
      (λ q. rw (p, q) (gone_with e (at s LINK-ONE e - 1) u.1 u.0 h.one_lives (rw (one, p, q, eq-eqb (at s LINK-ONE e) (at s LINK-ONE e) refl))))
      (λ q. rw (p, q) (upto_no (λ d. linked_to k s a d && Reckon.between (actor_id s a) (actor_id s d) (link_at s e)) k.actors (λ d m.
      split (linked_to k s a d)
      (λ f. rw f (bond_joins k l s g r a d e there (link_found k s a d g f).2 u.0 u.1 ∙ rw (p, q) (and-false (eqb (at s LINK-ONE e) (suc d)))))
      (λ f. rw f))))))

  -- the links that are left
  pub links_stay : those (λ x. not (eqb x.one (actor_id s a) || eqb x.two (actor_id s a))) l.ties.links ≡ those (λ x. not (link_gone k s a (actor_id s a) k.actors x)) l.ties.links
  links_stay =
      stay_same (link_at s) l.ties.links r.links.bonds (λ x. eqb x.one (actor_id s a) || eqb x.two (actor_id s a))
      (link_gone k s a (actor_id s a) k.actors)
      r.links.links (λ e o. sym (link_goes e o))

  -- a monitor goes exactly where the actor is its target
  pub eye_goes : (e : ℕ) → 0 < occurs e r.monitors.slots → eye_gone s a k.monitors (monitor_at s e) ≡ seen_by s a e
  eye_goes e o =
      let u = eye_used k l s s g r e o in
      let same : (i : ℕ) → i < k.monitors → eqb (monitor_id s e) (monitor_id s i) ≡
      eqb e i = λ i m. Ties.slot_id_eqb MONITOR-FACTOR (s MONITOR-AGE) e i (omega (arith, u.1, g.range.few_monitors))
      (omega (arith, g.range.few_monitors)) in
      split (seen_by s a e)
      (λ q. rw q (upto_yes (λ i. seen_by s a i && eqb (monitor_id s e) (monitor_id s i)) e k.monitors u.1 (rw (q, same e u.1) (eq-eqb e e refl))))
      (λ q. rw q (upto_no (λ i. seen_by s a i && eqb (monitor_id s e) (monitor_id s i)) k.monitors (λ i m. rw (same i m)
      (split (eqb e i) (λ z. rw (z, ← eqb-true e i z, q)) (λ z. rw z (and-false (seen_by s a i)))))))

  -- the monitors that are left
  pub eyes_stay : those (λ m. not (eqb m.target (actor_id s a))) l.ties.monitors ≡ those (λ m. not (eye_gone s a k.monitors m)) l.ties.monitors
  eyes_stay =
      stay_same (monitor_at s) l.ties.monitors r.monitors.slots (λ m. eqb m.target (actor_id s a)) (eye_gone s a k.monitors)
      r.monitors.are (λ e o. target_same k s l g r a 0 there e o ∙ sym (eye_goes e o))

  -- their worn slots
  pub eyes_worn : (u : State) → u MONITOR-AGE ≡ s MONITOR-AGE → ((e : ℕ) → at u WATCHER e ≡ cond (below (s WATCHED) (suc a) k.monitors e) 0 (at s WATCHER e)) →
      Exact (l.ties.worn ++ worn_by MONITOR-FACTOR (map (λ m. m.id) (those (λ m. eqb m.target (actor_id s a)) l.ties.monitors))) (is_worn (u WATCHER) (u MONITOR-AGE))
  eyes_worn u y h =
      (pool_ends monitor_pool s k.monitors (g.sized.words WATCHER (lit< tt)) (omega (arith, g.range.few_monitors)) r.monitors u
      (monitor_at s) (λ m. m.id) (below (s WATCHED) (suc a) k.monitors) (λ m. eqb m.target (actor_id s a)) h y (λ e. refl)
      (λ e d n. let x = monitor-ends g e n d in up_id k l s g r (at s WATCHED e) a x.two x.two_lives there ∙ rw (lt-ltb e k.monitors n))
      (λ e q. refl)).worn_slots
