-- The time to sleep: no timer is due and no deadline is reached before it has passed, and one is then.
use Prim.Native.Nat.{ℕ, zero, suc, ◌+◌, ◌-◌, ◌≤◌, ◌<◌, min}
use native.Mathlib.Omega.{arith}
use mathlib.Core.Path.{◌≡◌, refl, sym, ap, subst, ◌∙◌}
use mathlib.Core.Bool.{Bool, true, false, not, or-true}
use mathlib.Core.List.{List}
use lib.IntN.{ℤ, pos, negsuc}
use lib.Seq.{get_or-set_same}
use lib.Dec.{eqb, ltb, leb, lit<}
use borrow.Author.Tests.{eqb-true, eqb-false, ltb-true, ltb-false, leb-true, leb-false, le-leb, not-false}
use Rattle.ledger.specs.Call.{Answer, number}
use Rattle.ledger.specs.Call.Answer.{turn}
use Rattle.ledger.specs.Call.Call.{op}
use Rattle.ledger.specs.Call.Op.{next}
use Rattle.pools.proofs.BoolLaws.{split, true_false, and_left, and_right, and_true, neither}
use Rattle.tables.specs.declared.Caps.{Caps}
use Rattle.tables.specs.Columns.{CLOCK, DEADLINE, DUE, QUEUED, TIMER-OWNER}
use Rattle.tables.specs.Limits.{ALWAYS, LEVELS}
use Rattle.tables.specs.State.{State, at, caps_of, head, poke, with_col}
use Rattle.rules.specs.Rule.{Holds}
use Rattle.rules.specs.Sound.{sound_rule, view_of}
use Rattle.rules.specs.Terms.{runner}
use Rattle.rules.specs.Actions.{due, earliest}
use Rattle.rules.specs.Buses.{aired}
use Rattle.rules.specs.Calls.{Sleeps, advance_entry, fire_all, fired, first_head, out, rouse, ruled, sleep, wakes_by}
use Rattle.rules.specs.Run.{step}
use Rattle.rules.specs.Story.{Meets}
use Rattle.rules.specs.Good.{Good}
use Rattle.rules.proofs.Kept.Clauses.{deadline_fits, due-fits}
use Rattle.rules.proofs.Kept.Host.{good_view}
use Rattle.rules.proofs.Lists.Least.{Least, least_is, no_before}
use Rattle.rules.proofs.Stories.Answers.{line-answer}

-- ---- timers and deadlines alike: n entries, each with a word that is 0 where it is not in use, and a time
module _ (s : State) (used time n : ℕ) where
  -- one of them is due at t
  abbrev some : ℕ → Bool
  some t = not (eqb (earliest s used time t n) 0)

  -- the earliest of those due at t
  least_at : (t : ℕ) → Least (due s used time t) (at s time) n (earliest s used time t n)
  least_at t = least_is (due s used time t) (at s time) n

  -- one that is due has a time no later
  due-time : (t i : ℕ) → due s used time t i ≡ true → at s time i ≤ t
  due-time t i d = leb-true (at s time i) t (and_right (not (eqb (at s used i) 0)) (leb (at s time i) t) d)

  -- and is due at every time that is no earlier than its own
  due-from : (t u i : ℕ) → due s used time t i ≡ true → at s time i ≤ u → due s used time u i ≡ true
  due-from t u i d h = and_true (not (eqb (at s used i) 0)) (leb (at s time i) u) (and_left (not (eqb (at s used i) 0)) (leb (at s time i) t) d) (le-leb (at s time i) u h)

  -- none is due where each would be absurd
  some_no : (t : ℕ) → ((i : ℕ) → i < n → due s used time t i ≡ true → ⊥) → some t ≡ false
  some_no t h =
      split (eqb (earliest s used time t n) 0) (λ q. rw q)
      (λ q. let z = eqb-false (earliest s used time t n) 0 q in absurd (h (earliest s used time t n - 1) (omega (arith, (least_at t).within)) ((least_at t).passes z)))

  -- the earliest of all, one up
  abbrev soonest : ℕ
  soonest = earliest s used time ALWAYS n

  -- where there is none, none is due, ever
  pub some_never : ((i : ℕ) → i < n → at s time i ≤ ALWAYS) → eqb soonest 0 ≡ true → (t : ℕ) → some t ≡ false
  some_never a q t =
      some_no t (λ i l d. true_false (due s used time ALWAYS i) (due-from t ALWAYS i d (a i l)) ((least_at ALWAYS).none (eqb-true soonest 0 q) i l))

  -- before its time none is due
  pub some-before : eqb soonest 0 ≡ false → (t : ℕ) → t < at s time (soonest - 1) → some t ≡ false
  some-before q t h =
      let z = eqb-false soonest 0 q in
      some_no t (λ i l d.
      let m = due-time ALWAYS (soonest - 1) ((least_at ALWAYS).passes z) in
      let e = due-time t i d in
      let o = no_before (at s time i) (at s time (soonest - 1)) i (soonest - 1) ((least_at ALWAYS).first z i l (due-from t ALWAYS i d (omega arith))) in
      omega arith)

  -- and from its time on one is
  pub some-from : eqb soonest 0 ≡ false → (t : ℕ) → at s time (soonest - 1) ≤ t → some t ≡ true
  some-from q t h =
      let z = eqb-false soonest 0 q in
      let d = due-from ALWAYS t (soonest - 1) ((least_at ALWAYS).passes z) h in
      split (eqb (earliest s used time t n) 0)
      (λ p. true_false (due s used time t (soonest - 1)) d ((least_at t).none (eqb-true (earliest s used time t n) 0 p) (soonest - 1) (omega (arith, (least_at ALWAYS).within))))
      (λ p. rw p)

module _ (k : Caps) (s : State) where
  -- THE THEOREM: in a sound state the time to sleep is what one has to be
  pub sleep_right : Good k s → Sleeps k s (sleep k s)
  unfolding sleep
  sleep_right g =
      let c = head s CLOCK in
      let i = earliest s TIMER-OWNER DUE ALWAYS k.timers in
      let a = earliest s DEADLINE DEADLINE ALWAYS k.actors in
      let x = at s DUE (i - 1) in
      let y = at s DEADLINE (a - 1) in
      let no_timer = some_never s TIMER-OWNER DUE k.timers (λ i l. omega (arith, due-fits g i)) in
      let no_timer_yet = some-before s TIMER-OWNER DUE k.timers in
      let timer = some-from s TIMER-OWNER DUE k.timers in
      let nobody = some_never s DEADLINE DEADLINE k.actors (λ a l. omega (arith, deadline_fits g a)) in
      let nobody_yet = some-before s DEADLINE DEADLINE k.actors in
      let somebody = some-from s DEADLINE DEADLINE k.actors in
      split (eqb i 0)
      (λ p. split (eqb a 0)
      (λ q. rw (p, q) (λ t. rw (no_timer p t, nobody q t)))
      (λ q. rw (p, q) (λ j l. rw (no_timer p (c + j), nobody_yet q (c + j) (omega arith)), rw (no_timer p (c + (y - c)), somebody q (c + (y - c)) (omega arith)))))
      (λ p. split (eqb a 0)
      (λ q. rw (p, q) (λ j l. rw (no_timer_yet p (c + j) (omega arith), nobody q (c + j)), rw (timer p (c + (x - c)) (omega arith))))
      (λ q. rw (p, q) (
        λ j l. rw (no_timer_yet p (c + j) (omega arith), nobody_yet q (c + j) (omega arith)),
        split (leb x y)
            (λ r. rw (timer p (c + (min x y - c)) (omega (arith, leb-true x y r))))
            (λ r. rw (somebody q (c + (min x y - c)) (omega (arith, leb-false x y r)))
            (or-true (not (eqb (earliest s TIMER-OWNER DUE (c + (min x y - c)) k.timers) 0)))),
      )))

  -- FIRMNESS: no second number is, so it is -1 where nothing ever is to be done
  pub sleep-once : (y z : ℤ) → Sleeps k s y → Sleeps k s z → y ≡ z
  sleep-once (pos d) (pos e) f g =
      split (ltb d e) (λ q. true_false (wakes_by k s (head s CLOCK + d)) f.1 (g.0 d (ltb-true d e q)))
      (λ q. split (ltb e d) (λ r. true_false (wakes_by k s (head s CLOCK + e)) g.1 (f.0 e (ltb-true e d r)))
      (λ r. ap pos (omega (arith, ltb-false d e q, ltb-false e d r))))
  sleep-once (pos d) (negsuc zero) f g = true_false (wakes_by k s (head s CLOCK + d)) f.1 (g _)
  sleep-once (pos d) (negsuc (suc n)) f g = absurd g
  sleep-once (negsuc zero) (pos e) f g = true_false (wakes_by k s (head s CLOCK + e)) g.1 (f _)
  sleep-once (negsuc zero) (negsuc zero) f g = refl
  sleep-once (negsuc zero) (negsuc (suc n)) f g = absurd g
  sleep-once (negsuc (suc n)) z f g = absurd f

  -- ---- next
  -- "every other number answered is 0": beside its 6 stands the time to sleep alone
  pub next-idle : number (step next k s).ans ≡ 6 → (step next k s).ans ≡ turn 6 0 0 (sleep k s)
  unfolding ruled
  next-idle e =
      split (eqb (runner s) 0)
      (λ p. split (ltb (first_head s LEVELS) (head s QUEUED))
      (λ q. absurd (let n : ◌≡◌ {A = ℕ} 0 6 = rw (p, q) at e in omega arith))
      (λ q. rw (p, q)))
      (λ p. absurd (let n : ◌≡◌ {A = ℕ} 4 6 = rw p at e in omega arith))

-- ---- advance: what is to be done at a time is what it finds there
module _ (k : Caps) (s : State) (t : ℕ) (g : Good k s) (q : wakes_by k s t ≡ false) where
  -- nothing is to be done
  none_at : (eqb (earliest s TIMER-OWNER DUE t k.timers) 0 ≡ true) × (eqb (earliest s DEADLINE DEADLINE t k.actors) 0 ≡ true)
  none_at =
      let n = neither (not (eqb (earliest s TIMER-OWNER DUE t k.timers) 0)) (not (eqb (earliest s DEADLINE DEADLINE t k.actors) 0)) q in
      (not-false _ n.0, not-false _ n.1)

  -- the clock says t
  clock_at_lem : head (poke s CLOCK 0 t) CLOCK ≡ t
  unfolding poke with_col
  clock_at_lem = get_or-set_same (s CLOCK) 0 t 0 (omega (arith, g.sized.words CLOCK (lit< tt)))

  -- so no timer is due, and none fires
  none_fired : (m : ℕ) → fire_all k m (fired 0 (poke s CLOCK 0 t)) ≡ fired 0 (poke s CLOCK 0 t)
  unfolding fire_all poke with_col
  none_fired zero = refl
  none_fired (suc m) = rw (clock_at_lem, none_at.0)

  -- and no deadline is reached, and nobody wakes
  none_roused : (m : ℕ) → rouse k m (poke s CLOCK 0 t) ≡ poke s CLOCK 0 t
  unfolding rouse poke with_col
  none_roused zero = refl
  none_roused (suc m) = rw (clock_at_lem, none_at.1)

-- THE THEOREM: an advance that ends before the time to sleep has passed does nothing but raise the clock, and end the values of buses that have reached their age by then
pub advance_early : (k : Caps) (s : State) (d j : ℕ) → Good k s → sleep k s ≡ pos d → j < d → (advance_entry j).work k s ≡ out (record { no = 0; fired = 0 }) (aired (poke s CLOCK 0 (head s CLOCK + j)))
advance_early k s d j g e l =
    let w = (subst (λ (z : ℤ). Sleeps k s z) e (sleep_right k s g)).0 j l in
    rw (none_fired k s (head s CLOCK + j) g w k.timers, none_roused k s (head s CLOCK + j) g w k.actors)

-- THE THEOREM: a next that answers 6, on sound buffers, says beside it how long nothing is to be done, to the microsecond, or -1 where nothing ever is
pub line-sleep : (w p : List ℕ) (r : Answer) (w' p' : List ℕ) → Meets (op next) w p r w' p' → Holds (sound_rule w p) → number r ≡ 6 → (t : ℤ) × (r ≡ turn 6 0 0 t) × Sleeps (caps_of w) (view_of w p) t
line-sleep w p r w' p' m h n =
    let k = caps_of w in
    let s = view_of w p in
    let e = line-answer next w p r w' p' m h in
    (sleep k s, e ∙ next-idle k s (ap number (sym e) ∙ n), sleep_right k s (good_view w p h))
