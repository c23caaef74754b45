-- Cursors, in the reckoning: no call takes one back, and what one reads is never behind its own.
use Prim.Native.Nat.{ℕ, zero, suc, ◌+◌, ◌≤◌, ◌<◌}
use native.Mathlib.Omega.{arith}
use mathlib.Core.Path.{◌≡◌, refl, sym, ap, subst, ◌∙◌}
use mathlib.Core.Bool.{Bool, true, false, cond, not, ◌&&◌, ◌||◌}
use mathlib.Core.List.{List, [], ◌∷◌, map}
use lib.ListN.{length, get_or}
use lib.Dec.{eqb, leb}
use borrow.Author.Tests.{eqb-true, leb-true, not-true}
use Rattle.ledger.specs.Call.{Answer, Call, Line, Op, found, number, id_told}
use Rattle.ledger.specs.Call.Found.{nothing}
use Rattle.ledger.specs.Call.Call.{start, op}
use Rattle.ledger.specs.Call.Op.{spawn, next, yield, notify, receive, show, shown, after, every, cancel, link, unlink, monitor, demonitor, exit, advance, report}
use Rattle.ledger.specs.Call.Op.{bus, publish, subscribe, unsubscribe, read}
use Rattle.ledger.specs.Ledger.{Buses, Ledger, Reader, Timer, Value}
use Rattle.ledger.specs.Lists.{first, some}
use Rattle.ledger.specs.Reckon.{aired, bus_made, cleared, departed, empty_handed, end_links, end_monitors, end_readers, end_timers, entered, evicted, fires, firing, firings}
use Rattle.ledger.specs.Reckon.{gone, issued, joined, later, linked, moved, page, picked_up, reading, rearmed, reckon, sent, soonest, tick}
use Rattle.ledger.specs.Room.{bus_full, is_reader, oldest_unread, unread}
use Rattle.pools.proofs.BoolLaws.{and_left, and_right, split, true_false}
use Rattle.rules.specs.Agrees.{Ascending}
use Rattle.rules.specs.Story.{begins, line, startless}
use Rattle.rules.proofs.Frames.Wrote.{All}
use Rattle.rules.proofs.Lists.Each.{all_any, all_both, all_first, all_map, all_read, all-some, all_then, all-those, all_passing, none_all}

-- ---- THE MARK
-- if the subscription is that of `id` to bus b, its cursor is n or further on
abbrev pub Further : (n b id : ℕ) → Reader → Type 0
Further n b id x = is_reader b id x ≡ true → n ≤ x.cursor

-- so it is with every subscription; and n were published
abbrev pub Beyond : (n b id : ℕ) → Buses → Type 0
Beyond n b id u = All (Further n b id) u.readers × (n ≤ u.published)

-- what one may still read is not behind its cursor
pub unread_beyond : (n b id : ℕ) (l : Ledger) → l.people.running ≡ id → Beyond n b id l.buses → All (λ (v : Value). n ≤ v.rank) (oldest_unread l b)
unfolding oldest_unread
unread_beyond n b id l e h =
    let own : Value → Bool = λ v. some (λ x. is_reader b l.people.running x && unread x v) l.buses.readers in
    all_passing (λ v. n ≤ v.rank) own l.buses.values (λ v q.
    let (x, m, y) = all-some (Further n b id) (λ x. is_reader b l.people.running x && unread x v) l.buses.readers h.0 q in
    let i = and_left (is_reader b l.people.running x) (unread x v) y in
    let u = and_right (is_reader b l.people.running x) (unread x v) y in
    omega (arith, m (subst (λ (j : ℕ). is_reader b j x ≡ true) e i), leb-true x.cursor v.rank (and_right (eqb v.bus x.bus) (leb x.cursor v.rank) u)))

-- ---- timers that fire leave the buses and the clock alone
-- one that is armed again, or ends
rearmed-still : (l : Ledger) (t : Timer) → ((rearmed l t).buses ≡ l.buses) × ((rearmed l t).time.clock ≡ l.time.clock)
unfolding rearmed end_timers
rearmed-still l t = split (eqb t.interval 0) (λ q. rw q (refl, refl)) (λ q. rw q (refl, refl))

-- those that fire at one time
firing-still : (ts : List Timer) (l : Ledger) → ((firing ts l).buses ≡ l.buses) × ((firing ts l).time.clock ≡ l.time.clock)
unfolding firing
firing-still [] l = (refl, refl)
firing-still (t ∷ ts) l =
    let h = firing-still ts (sent (tick t ∷ []) (rearmed l t)) in
    let e = rearmed-still l t in (h.0 ∙ e.0, h.1 ∙ e.1)

-- all that fire
pub fires-still : (n : ℕ) (l : Ledger) → ((fires n l).buses ≡ l.buses) × ((fires n l).time.clock ≡ l.time.clock)
unfolding fires
fires-still zero l = (refl, refl)
fires-still (suc n) l =
    let ts = soonest l.time.clock l.time.timers in
    let h = fires-still n (firing ts l) in
    let e = firing-still ts l in (h.0 ∙ e.0, h.1 ∙ e.1)

-- ---- call by call
module _ (n b id : ℕ) where
  -- these are read by that one: its cursor passes them, and they were not behind n
  reading_beyond : (c me : ℕ) (vs : List Value) (l : Ledger) → (c ≡ b → me ≡ id → All (λ (v : Value). n ≤ v.rank) vs) → Beyond n b id l.buses →
      Beyond n b id (reading c me vs l).buses
  unfolding reading
  reading_beyond c me [] l g h = h
  reading_beyond c me (v ∷ vs) l g h =
      let pass : Reader → Reader = λ x. cond (is_reader c me x) (moved v.rank x) x in (
        all_map (Further n b id) pass (Further n b id) l.buses.readers (λ x o.
            split (is_reader c me x)
            (λ q. rw q (λ i.
            let e : c ≡ b = sym (eqb-true x.bus c (and_left (eqb x.bus c) (eqb x.who me) q)) ∙ eqb-true x.bus b (and_left (eqb x.bus b) (eqb x.who id) i) in
            let f : me ≡ id = sym (eqb-true x.who me (and_right (eqb x.bus c) (eqb x.who me) q)) ∙ eqb-true x.who id (and_right (eqb x.bus b) (eqb x.who id) i) in
            omega (arith, (g e f).0)))
            (λ q. rw q o)) h.0,
        h.1,
      )

  -- a page: where the call was done, and where it found nothing
  page_beyond : (o : Op) (r m : ℕ) (l : Ledger) → Beyond n b id l.buses → Beyond n b id ((page o).done r l).buses × Beyond n b id ((page o).unmet m l).buses
  unfolding empty_handed picked_up end_timers end_links end_monitors departed gone cleared end_readers bus_made evicted issued joined aired
  page_beyond (spawn x) r m l h = (h, h)
  page_beyond next r m l h = (h, h)
  page_beyond yield r m l h = (h, h)
  page_beyond (notify x y z) r m l h = (h, h)
  page_beyond (receive x y z u) r m l h = (h, split (eqb m (found nothing)) (λ q. rw q h) (λ q. rw q h))
  page_beyond show r m l h = (h, h)
  page_beyond shown r m l h = (h, h)
  page_beyond (after x) r m l h = (h, h)
  page_beyond (every x) r m l h = (h, h)
  page_beyond (cancel x) r m l h = (h, h)
  page_beyond (link x) r m l h = (split (linked l l.people.running x) (λ q. rw q h) (λ q. rw q h), h)
  page_beyond (unlink x) r m l h = (h, h)
  page_beyond (monitor x) r m l h = (h, h)
  page_beyond (demonitor x) r m l h = (h, h)
  page_beyond (exit x) r m l h = ((all-those (Further n b id) _ l.buses.readers h.0, h.1), h)
  page_beyond (advance x) r m l h = (rw (fires-still (firings (later x l)) (later x l)).0 h, h)
  page_beyond report r m l h = (h, h)
  page_beyond (bus x y z u) r m l h = (h, h)
  page_beyond (publish x y) r m l h = (split (bus_full l x) (λ q. rw q (h.0, omega (arith, h.1))) (λ q. rw q (h.0, omega (arith, h.1))), h)
  page_beyond (subscribe x) r m l h = ((all_both (Further n b id) l.buses.readers (_ ∷ []) h.0 (λ q. h.1, tt), h.1), h)
  page_beyond (unsubscribe x) r m l h = ((all-those (Further n b id) _ l.buses.readers h.0, h.1), h)
  page_beyond (read x y) r m l h = (
    reading_beyond x l.people.running (oldest_unread l x) l
        (λ e f. subst (λ (c : ℕ). All (λ (v : Value). n ≤ v.rank) (oldest_unread l c)) (sym e) (unread_beyond n b id l f h)) h,
    h,
  )

  -- a line
  line_beyond : (c : Call) (a : Answer) (l : Ledger) → not (begins (line c a)) ≡ true → Beyond n b id l.buses → Beyond n b id (entered (line c a) l).buses
  unfolding entered
  line_beyond (start z) a l e h =
      let q = not-true (eqb (number a) 0) e in
      rw q (split (eqb (number a) 5 || eqb (number a) 6) (λ p. rw p h) (λ p. rw p h))
  line_beyond (op o) a l e h =
      let g = page_beyond o (id_told a) (number a) l h in
      split (eqb (number a) 0) (λ q. rw q g.0) (λ q. rw q (split (eqb (number a) 5 || eqb (number a) 6) (λ p. rw p g.1) (λ p. rw p h)))

  -- THE LAW: after any lines, until a new start, every cursor is still n or further on
  pub story_beyond : (xs : List Line) (l : Ledger) → startless xs ≡ true → Beyond n b id l.buses → Beyond n b id (reckon l xs).buses
  unfolding reckon
  story_beyond [] l e h = h
  story_beyond (x ∷ xs) l e h = story_beyond xs (entered x l) (and_right (not (begins x)) (startless xs) e) (line_beyond x.call x.answer l (and_left (not (begins x)) (startless xs) e) h)

-- ---- where a mark is set
-- where there is no subscription of that one to that bus, its cursor is anywhere
unread_anywhere : (n b id : ℕ) (xs : List Reader) → some (is_reader b id) xs ≡ false → All (Further n b id) xs
unread_anywhere n b id xs e =
    all_then (λ x. is_reader b id x ≡ false) (Further n b id) xs (λ x y q. true_false (is_reader b id x) q y) (none_all (is_reader b id) xs e)

-- a new subscriber's cursor is past all that was ever published
pub joined_beyond : (b id : ℕ) (l : Ledger) → some (is_reader b id) l.buses.readers ≡ false → Beyond l.buses.published b id (joined b id l).buses
unfolding joined
joined_beyond b id l e = (
  all_both (Further l.buses.published b id) l.buses.readers (_ ∷ []) (unread_anywhere l.buses.published b id l.buses.readers e) (λ q. omega arith, tt),
  omega arith,
)

-- the cursor of one that has read is past what it read
pub reading_passes : (b id : ℕ) (v : Value) (vs : List Value) (l : Ledger) → v.rank < l.buses.published → Beyond (v.rank + 1) b id (reading b id (v ∷ vs) l).buses
unfolding reading
reading_passes b id v vs l h =
    let pass : Reader → Reader = λ x. cond (is_reader b id x) (moved v.rank x) x in
    let passed : (x : Reader) → Further (v.rank + 1) b id (pass x) = λ x.
    split (is_reader b id x) (λ q. rw q (λ i. omega arith)) (λ q. rw q (λ i. true_false (is_reader b id x) i q)) in (
      all_map (Further (v.rank + 1) b id) pass (λ x. Further (v.rank + 1) b id (pass x)) l.buses.readers (λ x y. y)
          (all_any (λ x. Further (v.rank + 1) b id (pass x)) l.buses.readers passed),
      omega arith,
    )

-- ---- ranks
-- a number that is below the word at each place of a list is below each of them
above : (n : ℕ) (ns : List ℕ) → ((i : ℕ) → i < length ns → n < get_or ns i 0) → All (λ (m : ℕ). n < m) ns
above n [] h = tt
above n (m ∷ ns) h = (h 0 (omega arith), above n ns (λ i q. h (suc i) (omega arith)))

-- of values whose ranks ascend, one alone has the rank of the first that passes
pub sole-rank : (p : Value → Bool) (vs : List Value) (v : Value) → Ascending (map (λ u. u.rank) vs) → first p vs ≡ v ∷ [] → All (λ (u : Value). u.rank ≡ v.rank → u ≡ v) vs
unfolding first
sole-rank p [] v h e = tt
sole-rank p (x ∷ vs) v h e =
    let higher = all_read (λ m. x.rank < m) (λ u. u.rank) vs (above x.rank (map (λ u. u.rank) vs) (λ i q. h 0 (suc i) (omega arith) (omega arith))) in
    split (p x)
    (λ q. let i : x ≡ v = ap (λ (us : List Value). get_or us 0 x) (rw q at e) in (
      λ z. i,
      all_then (λ u. x.rank < u.rank) (λ u. u.rank ≡ v.rank → u ≡ v) vs (λ u g z. absurd (omega (arith, g, z, ap (λ (u : Value). u.rank) i))) higher,
    ))
    (λ q. let i : first p vs ≡ v ∷ [] = rw q at e in (
      λ z. absurd (omega (arith, z, (subst (λ (us : List Value). All (λ (u : Value). x.rank < u.rank) us) i (all_first (λ u. x.rank < u.rank) p vs higher)).0)),
      sole-rank p vs v (λ i j p q. h (suc i) (suc j) (omega arith) (omega arith)) i,
    ))
