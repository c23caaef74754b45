-- The message actions, and the reckoning: what it says of mailboxes and hands is what the tables hold after them.
use Prim.Native.Nat.{ℕ, zero, suc, ◌+◌, ◌-◌, ◌≤◌, ◌<◌}
use native.Mathlib.Omega.{arith}
use native.Mathlib.Numerals.{add-one}
use mathlib.Core.Path.{◌≡◌, refl, sym, ap, ap₂, subst, ◌∙◌}
use mathlib.Core.Bool.{Bool, true, false, not, ◌&&◌, ◌||◌, and-false, and-true, not-not}
use mathlib.Core.List.{List, [], ◌∷◌, ◌++◌, map, map-append}
use lib.ListN.{length, get_or, set, drop, length-map}
use lib.Seq.{get_or-take, take_at, take-suc-set}
use lib.IntN.{ℤ}
use lib.Dec.{eqb, ltb, leb, lit<}
use borrow.Author.Tests.{eqb-true, eqb-false, eq-eqb, leb-false, ltb-true, ltb-false, ne_eqb, not-true, not-false}
use Rattle.ledger.specs.Lists.{those, first, but_first}
use Rattle.ledger.specs.Ledger.{Ledger, Message, Says, mail, with_mail}
use Rattle.ledger.specs.Call.Call.{op}
use Rattle.ledger.specs.Call.Op.{notify, receive}
use Rattle.ledger.specs.Room.{datas_left, mails_left}
use Rattle.ledger.specs.Reckon.{cleared, entered, message, runs, sent, wanted, empty_handed as release, picked_up as grasped}
use Rattle.pools.specs.Pool.{occurs, Exact}
use Rattle.pools.specs.Bits.{free}
use Rattle.pools.specs.Lists.{keep, without}
use Rattle.pools.specs.Slot.{id_of, slot_of, unused}
use Rattle.pools.proofs.BoolLaws.{split, flag≤, true_false, and_left, and_right, same_bool, neither}
use Rattle.pools.proofs.PoolLaws.{lowest-at, lowest-first}
use Rattle.pools.proofs.SlotLaws.{live_is, of_live}
use Rattle.pools.proofs.ListLaws.{keep-all_on, keep-same_on, length-keep_le, length_without, occurs-head, occurs-pos, occurs_tail, occurs-without}
use Rattle.pools.proofs.ExactLaws.{exact_keep, exact_put, exact_used}
use Rattle.records.specs.Header.{class_of, packed, tag_of}
use Rattle.records.proofs.HeaderLaws.{class_packed, tag_packed}
use Rattle.tables.specs.declared.Caps.{Caps}
use Rattle.tables.specs.Columns.{AGE, ARRIVAL, ARRIVED, CLOCK, DATA-FREE, HAND, ISSUE, ISSUED, LENGTH, MAIL-DATA, MAIL-FREE, MAIL-OWNER, PAYLOAD, RUNNING, SENDER, STATE}
use Rattle.tables.specs.Limits.{ACTOR-FACTOR, ANY-TAG, PAYLOAD-MOST}
use Rattle.tables.specs.State.{State, at, head, poke, with_col}
use Rattle.tables.specs.Action.{push, pull, take_bit, free_bit}
use Rattle.rules.specs.Terms.{MESSAGE, WAITS, actor_id, alive, fits, header, is_actor, runner, runner_id, wants}
use Rattle.rules.specs.Agrees.{Agrees, Letter, arrivals, box_at, hand_at, letter, message_of, used_mail}
use Rattle.rules.specs.Buses.{value_at, value_of}
use Rattle.rules.specs.Sound.{OWNERS}
use Rattle.rules.specs.Actions.{data_for, delist, enlist, has_room, hears, let_go, mail_for, post, ready, unwait, wake}
use Rattle.rules.specs.Calls.{await, data_of, deadline_at, drop_all, drop_first, emptied, first_match, first_of, hand_over, match_at, not_at_all, receive_bare}
use Rattle.rules.specs.Run.{say_received}
use Rattle.rules.proofs.Reckoned.Parts.{agrees_messages, agrees_people, buses_stay, living, pool_living}
use Rattle.rules.proofs.Claims.{Agreed, Tested}
use Rattle.rules.proofs.Frames.Wrote.{Wrote, apart, apart-at, mem, wrote_none, wrote_poke, wrote_still, wrote_within}
use Rattle.rules.proofs.Frames.Actions.{DROPPED, MAILED, beside_drop_first, wrote_await, wrote_enlist, wrote_let_go}
use Rattle.rules.specs.Good.{Good}
use Rattle.rules.proofs.Lists.Columns.{alive-below, alive-of, alive-same, each_set, other, set-zero}
use Rattle.rules.proofs.Kept.Clauses.{issue-some, length-fits, read_back, read_down, runner-fits}
use Rattle.rules.proofs.Reckoned.Ledger.{alive_slot, idle-same, known_same, runner-alive, running_is, but-map, first-at, first-map, actor_id-eqb, map-same_on, palm_owner, those-keep, those-map, message_room, runs-alive, runs-at}
use Rattle.rules.proofs.Lists.Messages.{Wiped, Written, bytes_at, header-same, text_same}
use Rattle.rules.proofs.Kept.Owners.{all-datas, arrivals_long, arrivals_room, boxes_exact, datas-arrived, owner_below, owner_else, owner_fresh, owner_some, owned, sole}
use Rattle.rules.proofs.Kept.Messages.{Fine, data_of-below, data_of_is, delist_wrote, drop_good, drop_none, drop_first_is, drop_first_keeps, drop_first_none, filled, hand_over_keeps, hears-waits, ink, ink_is, joined, joined_keeps, let_go_empty, let_good, let_go-arrived_lem, let_go_keeps, mail_of, notify_fine, post-heard, post_unheard, room_free, unfill_is, unfilled, wake-alive, wake_deaf, wipe, wipe_is, wrote_filled, wrote_unfilled}
use Rattle.rules.proofs.Kept.Running.{wake_keeps}
use Rattle.rules.proofs.Reckoned.Running.{wake_agrees}
use Rattle.rules.proofs.Lists.Ties.{keep_in}
use Rattle.rules.proofs.Guards.{second_passed, third_passed, fourth_passed}

-- every value of a bus reads as before
abbrev pub ValuesStay : State → State → Type 0
ValuesStay s t = (i : ℕ) → i < head s ISSUED → value_of s (value_at s i) ≡ value_of t (value_at s i)

-- THE LAW of messages: where nothing but messages changed, the reckoning follows once it says what is in mailboxes and hands
pub agrees_mail : (k : Caps) (l : Ledger) (s t : State) → Good k t → Agrees k l s → Wrote MAILED s t → ValuesStay s t →
    (boxes hands : List Message) (palms : List ℕ) → map letter boxes ≡ map (box_at t) (arrivals t) → Exact palms (λ a. not (unused (t HAND) a)) → map letter hands ≡ map (hand_at t) palms →
    Agrees k (with_mail l (mail boxes hands)) t
agrees_mail k l s t g r w y boxes hands palms b x h =
    agrees_messages w r _ (living w refl) refl (record { all_boxes = boxes_exact k t g; boxes = b; palms = palms; all_palms = x; hands = h; all_datas = all-datas k t g palms x })
    (buses_stay w refl y (λ i n. rw (w.cols AGE refl)) r.buses)

-- an arrival is a mailbox entry in use
arrival_is : (k : Caps) (s : State) → Good k s → (e : ℕ) → 0 < occurs e (arrivals s) → (e < k.mails) × (not (free (s MAIL-FREE) e) ≡ true)
arrival_is k s g e o =
    let u = exact_used (used_mail k s) (arrivals s) e (boxes_exact k s g) o in
    (ltb-true e k.mails (and_left (ltb e k.mails) (not (free (s MAIL-FREE) e)) u), and_right (ltb e k.mails) (not (free (s MAIL-FREE) e)) u)

-- it names a data entry
box_some : (k : Caps) (s : State) → Good k s → (e : ℕ) → 0 < occurs e (arrivals s) → 1 ≤ at s MAIL-DATA e
box_some k s g = owner_some (s MAIL-DATA) (arrivals s) (datas-arrived k s g)

-- what a queued message is read from, its data entry apart
abbrev BOXED : List ℕ
BOXED = AGE ∷ ARRIVED ∷ ARRIVAL ∷ MAIL-DATA ∷ MAIL-OWNER ∷ []

-- ---- the messages that owners hold, where word e of owner c alone is given a data entry or gives it up
-- every other word of an owner names the message that it named
abbrev pub Kept : ℕ → ℕ → State → State → Type 0
Kept c e s t = (b f to : ℕ) → sole b OWNERS ≡ true → 1 ≤ at s b f → eqb b c && eqb f e ≡ false → message_of s to (at s b f - 1) ≡ message_of t to (at s b f - 1)

-- THE LAW: so it is where data entry d alone is written, and no other word of an owner names d
kept_else : (k : Caps) (s t : State) (c e d sender n : ℕ) → Good k s → ((b f : ℕ) → sole b OWNERS ≡ true → 1 ≤ at s b f → eqb b c && eqb f e ≡ false → eqb (at s b f - 1) d ≡ false) →
    t SENDER ≡ set (s SENDER) d sender → t LENGTH ≡ set (s LENGTH) d n → ((x : ℕ) → eqb x d ≡ false → bytes_at (t PAYLOAD) x ≡ bytes_at (s PAYLOAD) x) → Kept c e s t
kept_else k s t c e d sender n g unnamed es el ep b f to o m z =
    let x = unnamed b f o m z in
    let i = at s b f - 1 in
    rw (
      es,
      other (s SENDER) d sender i x,
      el,
      other (s LENGTH) d n i x,
      header-same (s PAYLOAD) (t PAYLOAD) i (ep i x),
      text_same (s PAYLOAD) (t PAYLOAD) i (ep i x) (at s LENGTH i) (length-fits g i),
    )

module _ (k : Caps) (s t : State) (c e : ℕ) (y : Kept c e s t) (ages : t AGE ≡ s AGE) where
  -- the mailbox entries that stay say the same
  boxes-kept : (fs : List ℕ) →
      ((f : ℕ) → 0 < occurs f fs → (1 ≤ at s MAIL-DATA f) × (eqb MAIL-DATA c && eqb f e ≡ false) × (at t MAIL-DATA f ≡ at s MAIL-DATA f) × (at t MAIL-OWNER f ≡ at s MAIL-OWNER f)) →
      map (box_at s) fs ≡ map (box_at t) fs
  boxes-kept fs h = map-same_on (box_at s) (box_at t) fs (λ f o. let p = h f o in rw (ages, p.2, p.3) (y MAIL-DATA f (actor_id s (at s MAIL-OWNER f - 1)) refl p.0 p.1))

  -- so do the hands
  hands_kept : (bs : List ℕ) → ((b : ℕ) → 0 < occurs b bs → (1 ≤ at s HAND b) × (eqb HAND c && eqb b e ≡ false) × (at t HAND b ≡ at s HAND b)) → map (hand_at s) bs ≡ map (hand_at t) bs
  hands_kept bs h = map-same_on (hand_at s) (hand_at t) bs (λ b o. let p = h b o in rw (ages, p.2) (y HAND b (actor_id s b) refl p.0 p.1))

-- so do the values of the buses, where the owner is another
values_stay : (k : Caps) (s t : State) (c e : ℕ) → Good k s → eqb ISSUE c ≡ false → Kept c e s t → ValuesStay s t
values_stay k s t c e g q y i h = ap (λ (x : Letter). x.payload) (y ISSUE i 0 refl (issue-some g i h) (rw q))

module _ (k : Caps) (l : Ledger) (s t : State) (g : Good k s) (g' : Good k t) (r : Agrees k l s) (e : ℕ) where
  -- ---- THE LAWS of an owner: the others are passed on
  -- of the queued messages
  agrees_boxes : Wrote DROPPED s t → Kept MAIL-DATA e s t → (boxes : List Message) → map letter boxes ≡ map (box_at t) (arrivals t) → Agrees k (with_mail l (mail boxes l.mail.hands)) t
  agrees_boxes w y boxes b =
      agrees_mail k l s t g' r (wrote_within MAILED w refl) (values_stay k s t MAIL-DATA e g refl y) boxes l.mail.hands r.mail.palms b (rw (w.cols HAND refl) r.mail.all_palms)
      (r.mail.hands ∙ hands_kept k s t MAIL-DATA e y (w.cols AGE refl) r.mail.palms (λ b o. (owner_some (s HAND) r.mail.palms r.mail.all_palms b o, refl, rw (w.cols HAND refl))))

  -- of the hands
  agrees_hands : Wrote (HAND ∷ PAYLOAD ∷ LENGTH ∷ SENDER ∷ DATA-FREE ∷ []) s t → Kept HAND e s t → (hands : List Message) (palms : List ℕ) →
      Exact palms (λ a. not (unused (t HAND) a)) → map letter hands ≡ map (hand_at t) palms → Agrees k (with_mail l (mail l.mail.boxes hands)) t
  agrees_hands w y hands palms x h =
      agrees_mail k l s t g' r (wrote_within MAILED w refl) (values_stay k s t HAND e g refl y) l.mail.boxes hands palms
      (r.mail.boxes ∙ boxes-kept k s t HAND e y (w.cols AGE refl) (arrivals s) (λ f o. (box_some k s g f o, refl, rw (w.cols MAIL-DATA refl), rw (w.cols MAIL-OWNER refl)))
      ∙ rw (w.cols ARRIVED refl, w.cols ARRIVAL refl)) x h

-- ---- a hand lets go
-- the reckoning with the hand of an actor empty
abbrev pub handless : ℕ → Ledger → Ledger
handless id l = with_mail l (mail l.mail.boxes (those (λ m. not (eqb m.to id)) l.mail.hands))

module _ (k : Caps) (s : State) (l : Ledger) (g : Good k s) (r : Agrees k l s) (a : ℕ) (there : alive (s STATE) a ≡ true) where
  -- the hands of the others
  hands_left : map letter (those (λ m. not (eqb m.to (actor_id s a))) l.mail.hands) ≡ map (hand_at s) (keep (λ b. not (eqb b a)) r.mail.palms)
  hands_left =
      ap (map letter) (those-keep (λ m. not (eqb m.to (actor_id s a))) l.mail.hands)
      ∙ sym (those-map (λ m. not (eqb m.to (actor_id s a))) letter l.mail.hands)
      ∙ ap (those (λ m. not (eqb m.to (actor_id s a)))) r.mail.hands
      ∙ those-map (λ m. not (eqb m.to (actor_id s a))) (hand_at s) r.mail.palms
      ∙ ap (map (hand_at s)) (keep-same_on (λ b. not (eqb (actor_id s b) (actor_id s a))) (λ b. not (eqb b a)) r.mail.palms (λ b o. ap not (actor_id-eqb k s g b a (palm_owner k s g l r b o) there)))

  module _ (d : ℕ) (h : at s HAND a ≡ suc d) (q : List ℕ) (w : Wiped (s PAYLOAD) q d) where
    let_agrees : Agrees k (handless (actor_id s a) l) (poke (unfilled s d q) HAND a 0)
    unfolding poke with_col free_bit
    let_agrees =
        let t : State = poke (unfilled s d q) HAND a 0 in
        let y : Kept HAND a s t = kept_else k s t HAND a d 0 0 g (owner_else (owned k s g) HAND a refl d h) refl refl w.apart in
        agrees_hands k l s t g (let_good k s g a (alive_slot k s g a there) d h q w) r a (wrote_poke (wrote_unfilled (wrote_none s) d q w.long) HAND a 0) y
        (those (λ m. not (eqb m.to (actor_id s a))) l.mail.hands) (keep (λ b. not (eqb b a)) r.mail.palms)
        (exact_keep (λ b. not (unused (s HAND) b)) (λ b. not (unused (set (s HAND) a 0) b)) r.mail.palms (λ b. not (eqb b a)) r.mail.all_palms (λ b.
        each_set (λ b. not (unused (set (s HAND) a 0) b) ≡ not (unused (s HAND) b) && not (eqb b a)) a b
        (rw (set-zero (s HAND) a, eq-eqb a a refl) (sym (and-false (not (unused (s HAND) a)))))
        (λ v. rw (other (s HAND) a 0 b v, v) (sym (and-true (not (unused (s HAND) b)))))))
        (hands_left ∙ hands_kept k s t HAND a y refl (keep (λ b. not (eqb b a)) r.mail.palms) (λ b o.
        let p = keep_in (λ b. not (eqb b a)) r.mail.palms b o in
        let v : eqb b a ≡ false = not-true (eqb b a) p.1 in
        (owner_some (s HAND) r.mail.palms r.mail.all_palms b p.0, v, other (s HAND) a 0 b v)))

  -- THE THEOREM of a hand that lets go: the reckoning has the hands of the others
  pub let_go_agrees_at : Agrees k (handless (actor_id s a) l) (let_go s a)
  unfolding let_go
  let_go_agrees_at =
      split (eqb (at s HAND a) 0)
      (λ q. rw q (agrees_mail k l s s g r (wrote_still MAILED s) (λ i h. refl) l.mail.boxes (those (λ m. not (eqb m.to (actor_id s a))) l.mail.hands) r.mail.palms r.mail.boxes r.mail.all_palms
      (hands_left ∙ ap (map (hand_at s)) (keep-all_on (λ b. not (eqb b a)) r.mail.palms
      (λ b o. rw (ne_eqb b a (λ e. let n = rw e at (owner_some (s HAND) r.mail.palms r.mail.all_palms b o) in
      omega (arith, n, eqb-true (at s HAND a) 0 q))))))))
      (λ q. let n = eqb-false (at s HAND a) 0 q in
      rw (q, unfill_is s (at s HAND a - 1)) (let_agrees (at s HAND a - 1) (omega arith) (wipe (s PAYLOAD) (at s HAND a - 1))
      (wipe_is k s (at s HAND a - 1) g.sized (owner_below (owned k s g) HAND a refl (at s HAND a - 1) (omega arith)))))

-- ---- a message joins a mailbox
-- a letter with this header
abbrev pub written : ℕ → ℕ → ℕ → List ℕ → Letter
written to sender heading payload = record { to = to; sender = sender; class = class_of heading; tag = tag_of heading; payload = payload }

module _ (k : Caps) (s : State) (l : Ledger) (g : Good k s) (r : Agrees k l s) (a : ℕ) (there : alive (s STATE) a ≡ true) (d e : ℕ) (below : d < k.datas)
    (under : e < k.mails) (df : free (s DATA-FREE) d ≡ true) (mf : free (s MAIL-FREE) e ≡ true) (sender heading : ℕ) (payload : List ℕ)
    (q : List ℕ) (w : Written (s PAYLOAD) q d heading payload) (good : Good k (enlist (filled s d sender (length payload) q) e a d)) where
  -- the reckoning has it at the tail: the messages that were there, and the new one
  enlist_agrees : (m : Message) → letter m ≡ written (actor_id s a) sender heading payload → Agrees k (sent (m ∷ []) l) (enlist (filled s d sender (length payload) q) e a d)
  unfolding enlist push poke with_col take_bit
  enlist_agrees m same =
      let t : State = enlist (filled s d sender (length payload) q) e a d in
      let kept : Kept MAIL-DATA e s t = kept_else k s t MAIL-DATA e d sender (length payload) g
      (λ b f o n z. owner_fresh (owned k s g) b f o n d df) refl refl w.apart in
      let v = wrote_enlist (wrote_filled (wrote_none s) d sender (length payload) q w.long) e a d in
      let list : arrivals t ≡ arrivals s ++ (e ∷ []) = rw (read_back g ARRIVED 0 (at s ARRIVED 0 + 1) tt (omega arith), add-one (at s ARRIVED 0))
      (take-suc-set (s ARRIVAL) (at s ARRIVED 0) e (omega (arith, arrivals_room k s g e under mf, g.sized.words ARRIVAL (lit< tt)))) in
      let old = boxes-kept k s t MAIL-DATA e kept refl (arrivals s) (λ f o.
      let n : eqb f e ≡ false = ne_eqb f e (λ z. true_false (free (s MAIL-FREE) e) mf (not-true (free (s MAIL-FREE) e) (rw z at (arrival_is k s g f o).1))) in
      (box_some k s g f o, n, other (s MAIL-DATA) e (suc d) f n, other (s MAIL-OWNER) e (suc a) f n)) in
      let new : written (actor_id s a) sender heading payload ≡ box_at t e = rw (
        read_down g MAIL-OWNER e a tt under,
        read_down g MAIL-DATA e d tt under,
        read_back g SENDER d sender tt below,
        read_back g LENGTH d (length payload) tt below,
        w.header,
        w.text,
      ) in
      agrees_boxes k l s t g good r e (wrote_within DROPPED v refl) kept (l.mail.boxes ++ (m ∷ []))
      (map-append letter l.mail.boxes (m ∷ []) ∙ ap₂ (λ (x y : List Letter). x ++ y) (r.mail.boxes ∙ old) (ap (λ (x : Letter). x ∷ []) (same ∙ new))
      ∙ sym (map-append (box_at t) (arrivals s) (e ∷ [])) ∙ ap (map (box_at t)) (sym list))

-- a message that its target does not wait for
joined_agrees : (k : Caps) (s : State) (l : Ledger) (a : ℕ) → Good k s → Agrees k l s → alive (s STATE) a ≡ true → (sender heading : ℕ) (payload : List ℕ) → has_room k s ≡ true → Fine (s AGE) sender heading payload →
    hears s a sender heading ≡ false → (m : Message) → letter m ≡ written (actor_id s a) sender heading payload → Agrees k (sent (m ∷ []) l) (joined k s a sender heading payload)
joined_agrees k s l a g r there sender heading payload roomy fine q m same =
    let f = room_free k s roomy in
    let w = ink_is k s g a there (data_for k s) (mail_for k s) f.0 f.1 f.2 f.3 sender heading payload fine in
    enlist_agrees k s l g r a there (data_for k s) (mail_for k s) f.0 f.1 f.2 f.3 sender heading payload (ink s (data_for k s) heading payload) w
    (joined_keeps k s a g there sender heading payload roomy fine q) m same

-- THE THEOREM of a message to a live actor: it joins the tail of the reckoning's mailboxes
pub post_agrees : (k : Caps) (s : State) (l : Ledger) (a : ℕ) → Good k s → Agrees k l s → alive (s STATE) a ≡ true → (sender heading : ℕ) (payload : List ℕ) → has_room k s ≡ true → Fine (s AGE) sender heading payload →
    (x : Message) → letter x ≡ written (actor_id s a) sender heading payload → Agrees k (sent (x ∷ []) l) (post k s a sender heading payload)
unfolding ready unwait push poke with_col
post_agrees k s l a g r there sender heading payload roomy fine x same =
    let n = alive-below (s STATE) a there in
    let m : a < k.actors = omega (arith, g.sized.words STATE (lit< tt)) in
    split (hears s a sender heading)
    (λ q. let u = hears-waits s a sender heading q in
    rw (post-heard k s a sender heading payload q)
    (joined_agrees k (wake s a MESSAGE) l a (wake_keeps k s a MESSAGE g m u (omega arith)) (wake_agrees k s l a MESSAGE r u) (wake-alive s a n) sender heading payload roomy fine (wake_deaf s a sender heading n) x same))
    (λ q. rw (post_unheard k s a sender heading payload q) (joined_agrees k s l a g r there sender heading payload roomy fine q x same))

-- ---- notify
-- letters that are the same
same-letter : {to to' sender sender' class class' tag tag' : ℕ} (payload : List ℕ) → to ≡ to' → sender ≡ sender' → class ≡ class' → tag ≡ tag' →
    ◌≡◌ {A = Letter} (record { to = to; sender = sender; class = class; tag = tag; payload = payload }) (record { to = to'; sender = sender'; class = class'; tag = tag'; payload = payload })
same-letter payload a b c d = rw (a, b, c, d)

-- THE THEOREM of notify, and the reckoning
pub notify_agrees : (target tag : ℕ) (payload : List ℕ) → Agreed (notify target tag payload)
unfolding entered
notify_agrees target tag payload k s l g r p =
    let a = slot_of ACTOR-FACTOR target in
    let n = neither (leb ANY-TAG tag) (ltb PAYLOAD-MOST (length payload)) (second_passed p) in
    let e = not-false (is_actor s target) (third_passed p) in
    let t = leb-false ANY-TAG tag n.0 in
    let m = message target l.people.running (Says.wrote tag payload) in
    let same : letter m ≡ written (actor_id s a) (runner_id s) (packed 0 0 tag) payload =
    same-letter payload (live_is ACTOR-FACTOR (s STATE) (s AGE) target (lit< tt) e) (running_is k s g l r p.0) (sym (class_packed 0 0 tag (omega arith) (omega arith))) (sym (tag_packed 0 0 tag (omega arith) (omega arith))) in
    post_agrees k s l a g r (alive-of (s STATE) a (of_live ACTOR-FACTOR (s STATE) (s AGE) target e).0) (runner_id s) (packed 0 0 tag) payload (not-false (has_room k s) (fourth_passed p))
    (notify_fine k s (runner s - 1) tag payload g (runner-alive k s g p.0) t (ltb-false PAYLOAD-MOST (length payload) n.1)) m same

-- its tests are the reckoning's
pub notify_same : (target tag : ℕ) (payload : List ℕ) → Tested (notify target tag payload)
notify_same target tag payload k s l g r =
    let room = ap not (message_room k s g l r) ∙ not-not (eqb (mails_left l) 0 || eqb (datas_left l) 0) in
    (idle-same k s g l r, refl, λ h. (refl, refl, λ q. (ap not (known_same k s g l r target), refl, λ u. (room, refl, λ z. record {}))))

-- ---- a mailbox entry leaves
module _ (k : Caps) (s : State) (l : Ledger) (g : Good k s) (r : Agrees k l s) (j : ℕ) (jl : j < at s ARRIVED 0) where
  -- the j-th of the arrivals
  arrival-at : get_or (arrivals s) j 0 ≡ mail_of s j
  arrival-at = get_or-take (at s ARRIVED 0) (s ARRIVAL) j 0 jl

  -- it leaves the arrivals
  delist_list : arrivals (delist s j) ≡ without j (arrivals s)
  unfolding delist pull poke with_col free_bit
  delist_list =
      rw (read_back g ARRIVED 0 (at s ARRIVED 0 - 1) tt (omega arith))
      (take_at (without j (arrivals s)) (0 ∷ drop (at s ARRIVED 0) (s ARRIVAL)) (at s ARRIVED 0 - 1)
      (omega (arith, length_without (arrivals s) j (omega (arith, arrivals_long k s g)), arrivals_long k s g)))

  -- what is left was there, and is another
  delist-left : (f : ℕ) → 0 < occurs f (without j (arrivals s)) → (0 < occurs f (arrivals s)) × (eqb f (mail_of s j) ≡ false)
  delist-left f o =
      let w = rw arrival-at at (occurs-without f j (arrivals s) (omega (arith, arrivals_long k s g))) in
      (omega arith, ne_eqb f (mail_of s j) (λ z. omega (arith, rw (eq-eqb (mail_of s j) f (sym z)) at w, boxes_exact k s g f, flag≤ (used_mail k s f))))

  -- the first message that passes is in the j-th arrival
  module _ (p : Letter → Bool) (yes : p (box_at s (mail_of s j)) ≡ true) (no : (i : ℕ) → i < j → p (box_at s (mail_of s i)) ≡ false) where
    -- in the tables
    found : (first (λ e. p (box_at s e)) (arrivals s) ≡ get_or (arrivals s) j 0 ∷ []) × (but_first (λ e. p (box_at s e)) (arrivals s) ≡ without j (arrivals s))
    found =
        first-at (λ e. p (box_at s e)) (arrivals s) j (omega (arith, arrivals_long k s g)) (rw arrival-at yes)
        (λ i h. rw (get_or-take (at s ARRIVED 0) (s ARRIVAL) i 0 (omega arith)) (no i h))

    -- the reckoning's first
    first_box : map letter (first (λ m. p (letter m)) l.mail.boxes) ≡ box_at s (mail_of s j) ∷ []
    first_box = sym (first-map p letter l.mail.boxes) ∙ ap (first p) r.mail.boxes ∙ first-map p (box_at s) (arrivals s) ∙ ap (map (box_at s)) found.0 ∙ ap (λ (e : ℕ). box_at s e ∷ []) arrival-at

    -- and the others
    but-boxes : map letter (but_first (λ m. p (letter m)) l.mail.boxes) ≡ map (box_at s) (without j (arrivals s))
    but-boxes = sym (but-map p letter l.mail.boxes) ∙ ap (but_first p) r.mail.boxes ∙ but-map p (box_at s) (arrivals s) ∙ ap (map (box_at s)) found.1

    -- so the messages that are left, where what the others name is said as before
    left-boxes : {ws : List ℕ} (t : State) → Kept MAIL-DATA (mail_of s j) s t → Wrote ws (delist s j) t → apart BOXED ws ≡ true →
        map letter (but_first (λ m. p (letter m)) l.mail.boxes) ≡ map (box_at t) (arrivals t)
    unfolding delist pull poke with_col free_bit
    left-boxes {ws = ws} t y w e =
        let same : (c : ℕ) → mem c BOXED ≡ true → t c ≡ delist s j c = λ c m. w.cols c (apart-at BOXED ws e c m) in
        let list : arrivals t ≡ without j (arrivals s) = rw (same ARRIVED refl, same ARRIVAL refl) delist_list in
        but-boxes
        ∙ boxes-kept k s t MAIL-DATA (mail_of s j) y (same AGE refl) (without j (arrivals s)) (λ f o.
        let n = delist-left f o in
        let word : (c : ℕ) → get_or (set (s c) (mail_of s j) 0) f 0 ≡ at s c f = λ c. other (s c) (mail_of s j) 0 f n.1 in
        (box_some k s g f n.0, n.1, rw (same MAIL-DATA refl) (word MAIL-DATA), rw (same MAIL-OWNER refl) (word MAIL-OWNER)))
        ∙ ap (map (box_at t)) (sym list)

    -- ---- it goes to an empty hand of its owner
    module _ (a : ℕ) (there : alive (s STATE) a ≡ true) (empty : at s HAND a ≡ 0) (mine : at s MAIL-OWNER (mail_of s j) ≡ suc a) where
      -- THE THEOREM of a message that goes to a hand: what was in hands, and the new one
      pub hand_over_agrees : Agrees k (grasped (λ m. p (letter m)) l) (hand_over s a j)
      unfolding grasped hand_over delist pull poke with_col free_bit
      hand_over_agrees =
          let t : State = hand_over s a j in
          let d = suc (data_of s j) in
          let kept : Kept MAIL-DATA (mail_of s j) s t = λ b f to o n z. refl in
          let mark = wrote_poke (wrote_none (delist s j)) HAND a d in
          let held = first (λ m. p (letter m)) l.mail.boxes in
          let old = hands_kept k s t MAIL-DATA (mail_of s j) kept refl r.mail.palms (λ b o.
          let n = owner_some (s HAND) r.mail.palms r.mail.all_palms b o in
          (n, refl, other (s HAND) a d b (ne_eqb b a (λ z. omega (arith, rw z at n, empty))))) in
          let o : at s MAIL-OWNER (mail_of s j) - 1 ≡ a = omega arith in
          let new : box_at s (mail_of s j) ≡ hand_at t a = rw (read_down g HAND a (data_of s j) tt (alive_slot k s g a there), o) in
          let palms = exact_put (λ b. not (unused (s HAND) b)) (λ b. not (unused (set (s HAND) a d) b)) r.mail.palms a r.mail.all_palms (rw empty)
          (rw (read_back g HAND a d tt (alive_slot k s g a there), ne_eqb d 0 (λ z. omega arith))) (λ b n. rw (other (s HAND) a d b (ne_eqb b a n))) in
          agrees_mail k l s t (hand_over_keeps k s g j jl a there empty) r (wrote_within MAILED (wrote_poke (delist_wrote k s g j jl) HAND a d) refl) (λ i h. refl)
          (but_first (λ m. p (letter m)) l.mail.boxes) (l.mail.hands ++ held) (r.mail.palms ++ (a ∷ [])) (left-boxes t kept mark refl) palms
          (map-append letter l.mail.hands held
          ∙ ap₂ (λ (x y : List Letter). x ++ y) (r.mail.hands ∙ old) (first_box ∙ ap (λ (x : Letter). x ∷ []) new)
          ∙ sym (map-append (hand_at t) r.mail.palms (a ∷ [])))

    -- ---- it is dropped, with its data entry
    module _ (q : List ℕ) (w : Wiped (s PAYLOAD) q (data_of s j)) where
      -- the reckoning without it
      drop_agrees : Agrees k (with_mail l (mail (but_first (λ m. p (letter m)) l.mail.boxes) l.mail.hands)) (unfilled (delist s j) (data_of s j) q)
      unfolding delist pull poke with_col free_bit
      drop_agrees =
          let t : State = unfilled (delist s j) (data_of s j) q in
          let others = owner_else (owned k s g) MAIL-DATA (mail_of s j) refl (data_of s j) (data_of_is k s g j jl) in
          let kept : Kept MAIL-DATA (mail_of s j) s t = kept_else k s t MAIL-DATA (mail_of s j) (data_of s j) 0 0 g others refl refl w.apart in
          let v = wrote_unfilled (delist_wrote k s g j jl) (data_of s j) q (w.long ∙ sym ((delist_wrote k s g j jl).long PAYLOAD)) in
          agrees_boxes k l s t g (drop_good k s g j jl q w) r (mail_of s j) (wrote_within DROPPED v refl) kept (but_first (λ m. p (letter m)) l.mail.boxes)
          (left-boxes t kept (wrote_unfilled (wrote_none (delist s j)) (data_of s j) q (w.long ∙ sym ((delist_wrote k s g j jl).long PAYLOAD))) refl)

-- ---- the first message of an actor is dropped
-- the reckoning without the first message to an actor
abbrev pub to_id : ℕ → Message → Bool
to_id id m = eqb m.to id

-- a list of which none passes is the list without the first that does
but_none : (p : ℕ → Bool) (es : List ℕ) → ((e : ℕ) → 0 < occurs e es → p e ≡ false) → but_first p es ≡ es
unfolding but_first
but_none p [] h = refl
but_none p (x ∷ es) h = rw (h x (occurs-head x es)) (ap (λ (l : List ℕ). x ∷ l) (but_none p es (λ e o. h e (occurs_tail e x es o))))

-- an arrival is an actor's in the reckoning where it is its slot's in the tables
box_own : (k : Caps) (s : State) (a : ℕ) → Good k s → alive (s STATE) a ≡ true → (e : ℕ) → 0 < occurs e (arrivals s) → eqb (actor_id s (at s MAIL-OWNER e - 1)) (actor_id s a) ≡ eqb (at s MAIL-OWNER e) (suc a)
box_own k s a g there e o =
    let c = ((g.mails e (arrival_is k s g e o).0).1 (arrival_is k s g e o).1).0 in
    actor_id-eqb k s g (at s MAIL-OWNER e - 1) a c.1 there
    ∙ same_bool (eqb (at s MAIL-OWNER e - 1) a) (eqb (at s MAIL-OWNER e) (suc a))
    (λ q. let z = eqb-true (at s MAIL-OWNER e - 1) a q in eq-eqb (at s MAIL-OWNER e) (suc a) (omega (arith, c.0)))
    (λ q. let z = eqb-true (at s MAIL-OWNER e) (suc a) q in eq-eqb (at s MAIL-OWNER e - 1) a (omega arith))

-- the i-th arrival stands among the arrivals
arrival_in_list : (k : Caps) (s : State) → Good k s → (i : ℕ) → i < at s ARRIVED 0 → 0 < occurs (mail_of s i) (arrivals s)
arrival_in_list k s g i h = occurs-pos (mail_of s i) (arrivals s) i (omega (arith, arrivals_long k s g)) (get_or-take (at s ARRIVED 0) (s ARRIVAL) i 0 h)

-- THE THEOREM of a drop
pub drop_first_agrees : (k : Caps) (s : State) (l : Ledger) (a : ℕ) → Good k s → Agrees k l s → alive (s STATE) a ≡ true →
    Agrees k (with_mail l (mail (but_first (to_id (actor_id s a)) l.mail.boxes) l.mail.hands)) (drop_first s a)
drop_first_agrees k s l a g r there =
    split (ltb (first_of s a) (at s ARRIVED 0))
    (λ q. let h = ltb-true (first_of s a) (at s ARRIVED 0) q in
    rw (drop_first_is s a q) (drop_agrees k s l g r (first_of s a) h (λ x. eqb x.to (actor_id s a))
    (box_own k s a g there (mail_of s (first_of s a)) (arrival_in_list k s g (first_of s a) h) ∙ lowest-at (λ i. eqb (at s MAIL-OWNER (at s ARRIVAL i)) (suc a)) (at s ARRIVED 0) h)
    (λ i m. box_own k s a g there (mail_of s i) (arrival_in_list k s g i (omega arith)) ∙ lowest-first (λ i. eqb (at s MAIL-OWNER (at s ARRIVAL i)) (suc a)) (at s ARRIVED 0) i m)
    (wipe (s PAYLOAD) (data_of s (first_of s a))) (wipe_is k s (data_of s (first_of s a)) g.sized (data_of-below k s g (first_of s a) h))))
    (λ q. rw (drop_first_none s a q) (agrees_mail k l s s g r (wrote_still MAILED s) (λ i h. refl) (but_first (to_id (actor_id s a)) l.mail.boxes) l.mail.hands r.mail.palms
    (sym (but-map (λ x. eqb x.to (actor_id s a)) letter l.mail.boxes) ∙ ap (but_first (λ x. eqb x.to (actor_id s a))) r.mail.boxes
    ∙ but-map (λ x. eqb x.to (actor_id s a)) (box_at s) (arrivals s) ∙ ap (map (box_at s)) (but_none (λ e. eqb (actor_id s (at s MAIL-OWNER e - 1)) (actor_id s a)) (arrivals s) (λ e o.
    box_own k s a g there e o ∙ ne_eqb (at s MAIL-OWNER e) (suc a) (λ z.
    let m = (arrival_is k s g e o).0 in
    omega (arith, drop_none k s a g q, occurs-pos (suc a) (s MAIL-OWNER) e (omega (arith, g.sized.words MAIL-OWNER (lit< tt))) z)))))
    r.mail.all_palms r.mail.hands))

module _ {A : Type 0} (p : A → Bool) where
  -- of those that do not pass none leaves
  those-but : (xs : List A) → those (λ x. not (p x)) (but_first p xs) ≡ those (λ x. not (p x)) xs
  unfolding those but_first
  those-but [] = refl
  those-but (x ∷ xs) = split (p x) (λ q. rw q) (λ q. rw (q, q) (ap (λ (l : List A). x ∷ l) (those-but xs)))

  -- of those that pass one leaves
  those-less : (xs : List A) → length (those p (but_first p xs)) ≡ length (those p xs) - 1
  unfolding those but_first
  those-less [] = omega arith
  those-less (x ∷ xs) = split (p x) (λ q. rw q (omega arith)) (λ q. rw (q, q) (those-less xs))

  -- where none passes the list is those that do not
  those_none : (xs : List A) → length (those p xs) ≡ 0 → xs ≡ those (λ x. not (p x)) xs
  unfolding those
  those_none [] e = refl
  those_none (x ∷ xs) e = split (p x) (λ q. absurd (omega (arith, rw q at e))) (λ q. rw q (ap (λ (l : List A). x ∷ l) (those_none xs (rw q at e))))

-- the reckoning with the mailbox of an actor empty
abbrev pub boxless : ℕ → Ledger → Ledger
boxless id l = with_mail l (mail (those (λ m. not (eqb m.to id)) l.mail.boxes) l.mail.hands)

-- as many drops as it has messages, or more, empty the mailbox of an actor
drop_all-steps : (m : ℕ) (k : Caps) (s : State) (l : Ledger) (a : ℕ) → Good k s → Agrees k l s → alive (s STATE) a ≡ true →
    length (those (to_id (actor_id s a)) l.mail.boxes) ≤ m → Agrees k (boxless (actor_id s a) l) (drop_all m s a)
unfolding drop_all
drop_all-steps zero k s l a g r there n =
    subst (λ (b : List Message). Agrees k (with_mail l (mail b l.mail.hands)) s) (those_none (to_id (actor_id s a)) l.mail.boxes (omega arith)) r
drop_all-steps (suc m) k s l a g r there n =
    let p = to_id (actor_id s a) in
    let i : actor_id (drop_first s a) a ≡ actor_id s a = ap (λ (c : List ℕ). id_of ACTOR-FACTOR (get_or c a 0) a) ((beside_drop_first s a).cols AGE refl) in
    let v : alive (drop_first s a STATE) a ≡ true = ap (λ (c : List ℕ). alive c a) ((beside_drop_first s a).cols STATE refl) ∙ there in
    let l₁ : Ledger = with_mail l (mail (but_first p l.mail.boxes) l.mail.hands) in
    let few : length (those (to_id (actor_id (drop_first s a) a)) l₁.mail.boxes) ≤ m = rw i (omega (arith, those-less p l.mail.boxes)) in
    subst (λ (b : List Message). Agrees k (with_mail l (mail b l.mail.hands)) (drop_all m (drop_first s a) a)) (those-but p l.mail.boxes)
    (subst (λ (id : ℕ). Agrees k (boxless id l₁) (drop_all m (drop_first s a) a)) i
    (drop_all-steps m k (drop_first s a) l₁ a (drop_first_keeps k s a g) (drop_first_agrees k s l a g r there) v few))

-- THE THEOREM of a mailbox that is freed
pub drop_all_agrees : (k : Caps) (s : State) (l : Ledger) (a : ℕ) → Good k s → Agrees k l s → alive (s STATE) a ≡ true → Agrees k (boxless (actor_id s a) l) (drop_all (at s ARRIVED 0) s a)
drop_all_agrees k s l a g r there =
    let p = to_id (actor_id s a) in
    drop_all-steps (at s ARRIVED 0) k s l a g r there (omega (
      arith,
      arrivals_long k s g,
      ap length (those-keep p l.mail.boxes),
      length-keep_le p l.mail.boxes,
      length-map l.mail.boxes letter,
      ap length r.mail.boxes,
      length-map (arrivals s) (box_at s),
    ))

-- ---- receive
-- the running actor waits: in the reckoning nobody runs
pub await_agrees : (k : Caps) (s : State) (l : Ledger) (a sender class tag deadline : ℕ) → Good k s → Agrees k l s → runner s ≡ suc a → Agrees k (runs 0 l) (await s a sender class tag deadline)
unfolding await poke with_col
await_agrees k s l a sender class tag deadline g r run =
    let u = (runs-at k s g a run).1 in
    let x : get_or (s STATE) a 0 ≡ 0 → ⊥ = λ e. omega (arith, u) in
    let y : WAITS ≡ 0 → ⊥ = λ e. omega arith in
    agrees_people (wrote_await (wrote_none s) a sender class tag deadline) r _ refl (record {
      running = rw (set-zero (s RUNNING) 0);
      pool = pool_living (s STATE) (set (s STATE) a WAITS) (s AGE) (alive-same (s STATE) a WAITS x y) r.people.pool;
    })

-- the reckoning's filter, on what is written: it is the same
abbrev pub wanted_letter : ℕ → ℕ → ℕ → ℕ → Letter → Bool
wanted_letter who sender class tag x = eqb x.to who && fits sender class tag x.sender x.class x.tag

-- it passes a message where the tables' does
wanted-same : (k : Caps) (s : State) (a sender class tag : ℕ) → Good k s → alive (s STATE) a ≡ true → (i : ℕ) → i < at s ARRIVED 0 →
    wanted_letter (actor_id s a) sender class tag (box_at s (mail_of s i)) ≡ match_at s a sender class tag i
wanted-same k s a sender class tag g there i h = rw (box_own k s a g there (mail_of s i) (arrival_in_list k s g i h))

-- once the hand is empty
receive_bare_agrees : (sender class tag : ℕ) (wait : ℤ) (k : Caps) (s : State) (l : Ledger) (a : ℕ) →
    Good k s → Agrees k (release l) s → runner s ≡ suc a → at s HAND a ≡ 0 →
    let o = receive_bare sender class tag wait a s in
    Agrees k (entered (record { call = op (receive sender class tag wait); answer = say_received o.ans }) l) o.state
unfolding receive_bare entered release wanted fits wants
receive_bare_agrees sender class tag wait k s l a g r run empty =
    let j = first_match s a sender class tag in
    let n : eqb (runner s) 0 ≡ false = ne_eqb (runner s) 0 (λ z. omega arith) in
    let e : runner s - 1 ≡ a = omega arith in
    let there = runs-alive k s g a run in
    let who : l.people.running ≡ actor_id s a = running_is k s g (release l) r n ∙ ap (actor_id s) e in
    split (ltb j (head s ARRIVED))
    (λ q. let h = ltb-true j (head s ARRIVED) q in
    let m = lowest-at (match_at s a sender class tag) (head s ARRIVED) h in
    rw q (subst (λ (p : Message → Bool). Agrees k (grasped p (release l)) (hand_over s a j))
    (sym (ap (λ (id : ℕ). wanted id sender class tag) who))
    (hand_over_agrees k s (release l) g r j h (wanted_letter (actor_id s a) sender class tag) (wanted-same k s a sender class tag g there j h ∙ m)
    (λ i b. wanted-same k s a sender class tag g there i (omega arith) ∙ lowest-first (match_at s a sender class tag) (head s ARRIVED) i b) a there empty
    (eqb-true (at s MAIL-OWNER (mail_of s j)) (suc a) (and_left (eqb (at s MAIL-OWNER (mail_of s j)) (suc a))
    (fits sender class tag (at s SENDER (data_of s j)) (class_of (header s (data_of s j))) (tag_of (header s (data_of s j)))) m)))))
    (λ q. split (not_at_all wait) (λ b. rw (q, b) r) (λ b. rw (q, b) (await_agrees k s (release l) a sender class tag (deadline_at (head s CLOCK) wait) g r run)))

-- its tests are the reckoning's
pub receive-same : (sender class tag : ℕ) (wait : ℤ) → Tested (receive sender class tag wait)
receive-same sender class tag wait k s l g r = (idle-same k s g l r, refl, λ h. (refl, refl, λ z. record {}))

-- THE THEOREM of receive, and the reckoning
pub receive_agrees : (sender class tag : ℕ) (wait : ℤ) → Agreed (receive sender class tag wait)
unfolding release
receive_agrees sender class tag wait k s l g r p =
    let a = runner s - 1 in
    let n = eqb-false (runner s) 0 p.0 in
    let b : runner s - 1 < k.actors = omega (arith, runner-fits g) in
    receive_bare_agrees sender class tag wait k (let_go s a) l a (let_go_keeps k s a g b)
    (subst (λ (id : ℕ). Agrees k (handless id l) (let_go s a)) (sym (running_is k s g l r p.0)) (let_go_agrees_at k s l g r a (runner-alive k s g p.0)))
    (ap (λ (c : List ℕ). get_or c 0 0) ((wrote_let_go s a).cols RUNNING refl) ∙ omega arith) (let_go_empty k s a g b)

-- ---- hand and mailbox of an actor are freed
pub emptied_agrees : (k : Caps) (s : State) (l : Ledger) (a : ℕ) → Good k s → Agrees k l s → alive (s STATE) a ≡ true → Agrees k (cleared (actor_id s a) l) (emptied s a)
unfolding cleared
emptied_agrees k s l a g r there =
    let i : actor_id (let_go s a) a ≡ actor_id s a = ap (λ (c : List ℕ). id_of ACTOR-FACTOR (get_or c a 0) a) ((wrote_let_go s a).cols AGE refl) in
    let v : alive (let_go s a STATE) a ≡ true = ap (λ (c : List ℕ). alive c a) ((wrote_let_go s a).cols STATE refl) ∙ there in
    let m : at (let_go s a) ARRIVED 0 ≡ at s ARRIVED 0 = ap (λ (c : List ℕ). get_or c 0 0) (let_go-arrived_lem s a) in
    subst (λ (m : ℕ). Agrees k (boxless (actor_id s a) (handless (actor_id s a) l)) (drop_all m (let_go s a) a)) m
    (subst (λ (id : ℕ). Agrees k (boxless id (handless (actor_id s a) l)) (drop_all (at (let_go s a) ARRIVED 0) (let_go s a) a)) i
    (drop_all_agrees k (let_go s a) (handless (actor_id s a) l) a (let_go_keeps k s a g (alive_slot k s g a there)) (let_go_agrees_at k s l g r a there) v))
