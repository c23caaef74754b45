-- The timer is the slot's, or not.
use Prim.Native.Nat.{suc}
use mathlib.Core.Path.{◌≡◌, refl}
use mathlib.Core.Bool.{true, false}
use native.Mathlib.Omega.{arith}
use lib.Dec.{eqb}
use borrow.Author.Tests.{eq-eqb, ne_eqb}
use Rattle.tables.specs.Columns.{TIMER-OWNER}
use Rattle.tables.specs.State.{at, view}
use Rattle.rules.specs.Aged.{end_own}
use Rattle.endings.proofs.EndingLaws.{timers-step}
use Rattle.endings.proofs.leaving.drop_timers.Goals as goal
use Rattle.endings.proofs.leaving.drop_timers.Goals.{then-get-a, else-get-a}

pub loop-i-init : goal.loop-i-init
unfolding end_own
loop-i-init c = (c.requires.0, refl)

pub loop-i-preserved : goal.loop-i-preserved
loop-i-preserved c = let a = c.args in
    let l = c.loop-i in
    let s = view a.k l.t a.p.now in
    elim c.if-get-a.branch [
      | then-get-a w ↦
          let q : eqb (at s TIMER-OWNER l.i) (suc a.a) ≡ true = eq-eqb _ _ (omega (arith, c.get.ensures, w.if-get-a.true)) in
          let d = w.disarm.ensures in
          rw w.t-is (d.room, rw (timers-step a.a l.i (view a.k a.t.now a.p.now), ← l.invariant.1, q) d.is)
      | else-get-a w ↦
          let q : eqb (at s TIMER-OWNER l.i) (suc a.a) ≡ false = ne_eqb _ _ (λ z. omega (arith, c.get.ensures, w.if-get-a.false)) in
          rw w.t-is (l.invariant.0, rw (timers-step a.a l.i (view a.k a.t.now a.p.now), ← l.invariant.1, q) refl)
    ]
