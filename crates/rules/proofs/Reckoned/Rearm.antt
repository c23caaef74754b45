-- A timer that fires: it is the soonest that is due, it ends or is due again, soundness is kept and the reckoning says the same.
use Prim.Native.Nat.{ℕ, ◌-◌, ◌%◌, ◌≤◌, ◌<◌}
use native.Mathlib.Omega.{arith}
use mathlib.Core.Path.{◌≡◌, refl, sym, ap, ap₂, subst, ◌∙◌}
use mathlib.Core.Bool.{Bool, true, false, cond, not, ◌&&◌, ◌||◌}
use mathlib.Core.List.{List, [], ◌∷◌, map, map-map}
use lib.ListN.{length, length-map}
use lib.Seq.{get_or-set_same}
use lib.Dec.{eqb, ltb, leb, lit<}
use borrow.Author.Tests.{eqb-true, eqb-false, eq-eqb, ne_eqb, not-true}
use Rattle.ledger.specs.Ledger.{Ledger, time, with_time}
use Rattle.ledger.specs.Lists.{some}
use Rattle.ledger.specs.Reckon.{due_again, due_now, rearmed, redue, sooner, soonest}
use Rattle.pools.specs.Pool.{occurs}
use Rattle.pools.specs.Lists.{keep}
use Rattle.pools.specs.Slot.{unused}
use Rattle.pools.proofs.BoolLaws.{split, and_left, and_right, and_true, flag≤}
use Rattle.pools.proofs.ListLaws.{keep_none_on, occurs-head, occurs_tail}
use Rattle.pools.proofs.SlotLaws.{slot_of_id}
use Rattle.tables.specs.declared.Caps.{Caps}
use Rattle.tables.specs.Columns.{CLOCK, DUE, INTERVAL, TIMER-AGE, TIMER-OWNER}
use Rattle.tables.specs.Limits.{DUE-END, TIMER-FACTOR}
use Rattle.tables.specs.State.{InRange, Sized, State, at, head, poke, with_col}
use Rattle.rules.specs.Rule.{Holds}
use Rattle.rules.specs.Terms.{timer_id}
use Rattle.rules.specs.Sound.{timer_rule}
use Rattle.rules.specs.Actions.{due, earliest}
use Rattle.rules.specs.Agrees.{Agrees, timer_at}
use Rattle.rules.specs.Calls.{next_beat, rearm}
use Rattle.rules.proofs.Reckoned.Beats.{beat_same}
use Rattle.rules.proofs.Reckoned.Pools.{pool_reads}
use Rattle.rules.proofs.Reckoned.Firing.{Once, is_id, those_most}
use Rattle.rules.specs.Good.{Good}
use Rattle.rules.proofs.Kept.Clauses.{interval_right, timer_owner_lives}
use Rattle.rules.proofs.Lists.Columns.{each_set, other}
use Rattle.rules.proofs.Reckoned.Ledger.{first-map, map-same_on, some-map, some_no, some_yes, those-map, words_left}
use Rattle.rules.proofs.Lists.Ties.{slot_id_eqb}
use Rattle.rules.proofs.Lists.Least.{Least, before, first_one, first-same_on, least_is, other-before}
use Rattle.rules.proofs.Frames.Wrote.{wrote_none, wrote_poke, wrote_within}
use Rattle.rules.proofs.Kept.Groups as Part
use Rattle.rules.proofs.Kept.Patch.{◌by◌also◌, done, patch}
use Rattle.rules.proofs.Frames.Actions.{TIMED}
use Rattle.rules.proofs.Reckoned.Ties.{clock_used, disarm_agree, timers_agree}

-- ---- soundness
-- a timer is due at another time
pub redue_keeps : (k : Caps) (s : State) (i t : ℕ) → Good k s → i < k.timers → (at s TIMER-OWNER i ≡ 0 → ⊥) → t ≤ DUE-END → Good k (poke s DUE i t)
unfolding poke with_col
redue_keeps k s i t g l u h =
    patch k g (wrote_poke (wrote_none s) DUE i t) (Part.timers by
    (λ j m. each_set (λ j. Holds (timer_rule (poke s DUE i t) j)) i j
    (rw (get_or-set_same (s DUE) i t 0 (omega (arith, g.sized.words DUE (lit< tt))))
    ((g.timers i l).0, ((λ z. absurd (u z)), (λ z. (timer_owner_lives g i l z, (h, interval_right g i))))))
    (λ q. rw (other (s DUE) i t j q) (g.timers j m))) also done) refl

-- ---- the timer that fires
module _ (k : Caps) (s : State) (i : ℕ) (is : i ≡ earliest s TIMER-OWNER DUE (head s CLOCK) k.timers) where
  -- it is the least
  least-of : Least (due s TIMER-OWNER DUE (head s CLOCK)) (at s DUE) k.timers i
  least-of = rw is (least_is (due s TIMER-OWNER DUE (head s CLOCK)) (at s DUE) k.timers)

  -- it is a timer whose time has come
  pub least-due : (i ≡ 0 → ⊥) → (i - 1 < k.timers) × (at s TIMER-OWNER (i - 1) ≡ 0 → ⊥) × (leb (at s DUE (i - 1)) (head s CLOCK) ≡ true)
  least-due n =
      let q = least-of.passes n in
      let used = not (eqb (at s TIMER-OWNER (i - 1)) 0) in
      let come = leb (at s DUE (i - 1)) (head s CLOCK) in
      (omega (arith, least-of.within), eqb-false (at s TIMER-OWNER (i - 1)) 0 (not-true (eqb (at s TIMER-OWNER (i - 1)) 0) (and_left used come q)), and_right used come q)

-- of a list in which one number alone passes, as many pass as it stands in it
keep-few : (p : ℕ → Bool) (j : ℕ) (es : List ℕ) → ((e : ℕ) → 0 < occurs e es → p e ≡ true → e ≡ j) → length (keep p es) ≤ occurs j es
unfolding keep occurs
keep-few p j [] h = omega arith
keep-few p j (x ∷ es) h =
    let i = keep-few p j es (λ e o. h e (occurs_tail e x es o)) in
    split (p x) (λ q. rw (q, eq-eqb x j (h x (occurs-head x es) q)) (omega arith)) (λ q. rw q (omega arith))

-- ---- the reckoning
module _ (k : Caps) (l : Ledger) (s : State) (z : Sized k s) (v : InRange k) (a : Agrees k l s) where
  -- a timer whose time has come is due again, on both sides at one time
  redue_agree : (i : ℕ) → i < k.timers → (at s INTERVAL i ≡ 0 → ⊥) → at s DUE i ≤ head s CLOCK →
      Agrees k (with_time l (time l.time.clock (map (redue (head s CLOCK) (timer_id s i)) l.time.timers) l.time.worn))
      (poke s DUE i (next_beat (at s DUE i) (at s INTERVAL i) (head s CLOCK)))
  unfolding poke with_col
  redue_agree i m periodic come =
      timers_agree k l s (poke s DUE i next) _ (wrote_within TIMED (wrote_poke (wrote_none s) DUE i _) refl) a refl
      (pool_reads a.time.pool
      (rw a.time.pool.are (map-map (redue (head s CLOCK) (timer_id s i)) (timer_at s) a.time.pool.slots
      ∙ map-same_on (λ e. redue (head s CLOCK) (timer_id s i) (timer_at s e)) (timer_at (poke s DUE i next)) a.time.pool.slots same)))
    where
      -- the rule's next due time
      next : ℕ
      next = next_beat (at s DUE i) (at s INTERVAL i) (head s CLOCK)

      -- each timer of the list: the one that is due again, and the others
      same : (e : ℕ) → 0 < occurs e a.time.pool.slots → redue (head s CLOCK) (timer_id s i) (timer_at s e) ≡ timer_at (poke s DUE i next) e
      same e o =
          rw (slot_id_eqb TIMER-FACTOR (s TIMER-AGE) e i (omega (arith, v.few_timers, (clock_used k l s s z v a e o).1)) (omega (arith, v.few_timers)))
          (each_set (λ e. cond (eqb e i) (due_again (head s CLOCK) (timer_at s e)) (timer_at s e) ≡ timer_at (poke s DUE i next) e) i e
          (rw (eq-eqb i i refl, get_or-set_same (s DUE) i next 0 (omega (arith, z.words DUE (lit< tt))), beat_same (at s DUE i) (at s INTERVAL i) (head s CLOCK) periodic come))
          (λ q. rw (q, other (s DUE) i next e q)))

  -- "A firing one-shot ends"; a periodic one is due again on its next beat
  pub rearm_agrees : (i : ℕ) → i < k.timers → at s DUE i ≤ head s CLOCK → Agrees k (rearmed l (timer_at s i)) (rearm s i)
  unfolding rearmed rearm
  rearm_agrees i m come =
      split (eqb (at s INTERVAL i) 0) (λ q. rw q (disarm_agree k l s i z v a m))
      (λ q. rw q
      (subst (λ (c : ℕ). Agrees k (with_time l (time l.time.clock (map (redue c (timer_id s i)) l.time.timers) l.time.worn))
      (poke s DUE i (next_beat (at s DUE i) (at s INTERVAL i) (head s CLOCK)))) (sym a.time.clock) (redue_agree i m (eqb-false (at s INTERVAL i) 0 q) come)))

  -- ---- the soonest
  -- of two timers, the tables' and the reckoning's say which comes before
  sooner-same : (d e : ℕ) → d < k.timers → e < k.timers → sooner (timer_at s d) (timer_at s e) ≡ before (at s DUE d) (at s DUE e) d e
  sooner-same d e m n =
      let x : timer_id s d % TIMER-FACTOR ≡ d = slot_of_id TIMER-FACTOR (at s TIMER-AGE d) d (omega (arith, v.few_timers)) in
      let y : timer_id s e % TIMER-FACTOR ≡ e = slot_of_id TIMER-FACTOR (at s TIMER-AGE e) e (omega (arith, v.few_timers)) in
      ap₂ (λ (i : ℕ) (j : ℕ). ltb (at s DUE d) (at s DUE e) || (eqb (at s DUE d) (at s DUE e) && ltb i j)) x y

  -- a timer of the list is due where its time has come
  due-same : (e : ℕ) → 0 < occurs e a.time.pool.slots → due s TIMER-OWNER DUE (head s CLOCK) e ≡ leb (at s DUE e) (head s CLOCK)
  due-same e o = rw (ne_eqb (at s TIMER-OWNER e) 0 (clock_used k l s s z v a e o).0)

  -- no two of the reckoning's timers have one id
  pub once-there : Once l
  once-there id =
      rw (a.time.pool.are, those-map (is_id id) (timer_at s) a.time.pool.slots, length-map (keep (λ e. eqb (timer_id s e) id) a.time.pool.slots) (timer_at s))
      (omega (
        arith,
        keep-few (λ e. eqb (timer_id s e) id) (id % TIMER-FACTOR) a.time.pool.slots
            (λ e o q. sym (slot_of_id TIMER-FACTOR (at s TIMER-AGE e) e (omega (arith, v.few_timers, (clock_used k l s s z v a e o).1)))
            ∙ ap (λ (i : ℕ). i % TIMER-FACTOR) (eqb-true (timer_id s e) id q)),
        a.time.pool.all_slots (id % TIMER-FACTOR),
        flag≤ (not (unused (s TIMER-OWNER) (id % TIMER-FACTOR))),
      ))

  -- no more are due than there are slots
  pub due_most : length (due_now l) ≤ k.timers
  due_most =
      omega (
        arith,
        those_most (λ t. leb t.due l.time.clock) l.time.timers,
        ap length a.time.pool.are,
        length-map a.time.pool.slots
            (timer_at s),
        words_left (s TIMER-OWNER) k.timers a.time.pool.slots (z.words TIMER-OWNER (lit< tt)) a.time.pool.all_slots,
      )

  module _ (i : ℕ) (is : i ≡ earliest s TIMER-OWNER DUE (head s CLOCK) k.timers) where
    -- none is due on both sides
    pub due_none : i ≡ 0 → due_now l ≡ []
    due_none n =
        rw (a.time.clock, a.time.pool.are, those-map (λ t. leb t.due (head s CLOCK)) (timer_at s) a.time.pool.slots)
        (ap (map (timer_at s)) (keep_none_on (λ e. leb (at s DUE e) (head s CLOCK)) a.time.pool.slots (λ e o. sym (due-same e o) ∙ (least-of k s i is).none n e (clock_used k l s s z v a e o).1)))

    -- it is in the list
    least_in : (i ≡ 0 → ⊥) → 0 < occurs (i - 1) a.time.pool.slots
    least_in n = rw (a.time.pool.all_slots (i - 1), ne_eqb (at s TIMER-OWNER (i - 1)) 0 (least-due k s i is n).1) (omega arith)

    -- a due timer that comes before e
    abbrev ahead : ℕ → ℕ → Bool
    ahead e d = leb (at s DUE d) (head s CLOCK) && sooner (timer_at s d) (timer_at s e)

    -- a timer of the list is the soonest exactly where it is the least
    soonest_is : (i ≡ 0 → ⊥) → (e : ℕ) → 0 < occurs e a.time.pool.slots → leb (at s DUE e) (head s CLOCK) && not (some (ahead e) a.time.pool.slots) ≡ eqb e (i - 1)
    soonest_is n e o =
        let m = (clock_used k l s s z v a e o).1 in
        let c = least-due k s i is n in
        split (eqb e (i - 1))
        (λ q.
        let y : e ≡ i - 1 = eqb-true e (i - 1) q in
        let w : some (ahead e) a.time.pool.slots ≡ false = some_no (ahead e) a.time.pool.slots (λ d p.
        split (leb (at s DUE d) (head s CLOCK))
        (λ r. rw r (sooner-same d e (clock_used k l s s z v a d p).1 m ∙ rw y ((least-of k s i is).first n d (clock_used k l s s z v a d p).1 (due-same d p ∙ r))))
        (λ r. rw r)) in
        rw (q, w, ap (λ (x : ℕ). leb (at s DUE x) (head s CLOCK)) y ∙ c.2))
        (λ q. split (leb (at s DUE e) (head s CLOCK))
        (λ r.
        let x : before (at s DUE (i - 1)) (at s DUE e) (i - 1) e ≡ true = other-before (at s DUE e) (at s DUE (i - 1)) e (i - 1) (eqb-false e (i - 1) q) ((least-of k s i is).first n e m (due-same e o ∙ r)) in
        let w : some (ahead e) a.time.pool.slots ≡ true = some_yes (ahead e) a.time.pool.slots (i - 1) (least_in n)
        (and_true (leb (at s DUE (i - 1)) (head s CLOCK)) (sooner (timer_at s (i - 1)) (timer_at s e)) c.2 (sooner-same (i - 1) e c.0 m ∙ x)) in
        rw (q, r, w))
        (λ r. rw (q, r)))

    -- "due timers .. by due time, equal ones by lower slot": the same timer on both sides
    pub soonest-some : (i ≡ 0 → ⊥) → soonest l.time.clock l.time.timers ≡ timer_at s (i - 1) ∷ []
    unfolding soonest
    soonest-some n =
        let es = a.time.pool.slots in
        let come : ℕ → Bool = λ e. leb (at s DUE e) (head s CLOCK) in
        rw (a.time.clock, a.time.pool.are)
        (first-map (λ t. leb t.due (head s CLOCK) && not (some (λ u. leb u.due (head s CLOCK) && sooner u t) (map (timer_at s) es))) (timer_at s) es
        ∙ ap (map (timer_at s))
        (first-same_on (λ e. come e && not (some (λ u. leb u.due (head s CLOCK) && sooner u (timer_at s e)) (map (timer_at s) es))) (λ e. eqb e (i - 1)) es
        (λ e o. rw (some-map (λ u. leb u.due (head s CLOCK) && sooner u (timer_at s e)) (timer_at s) es) (soonest_is n e o)) ∙ first_one (i - 1) es
        (least_in n)))
