-- Whom it is left to wake of the present state is whom it was to wake of the first.
use Prim.Native.Nat.{ℕ, ◌<◌, ◌+◌, ◌-◌}
use mathlib.Core.Path.{◌≡◌, sym, ap, ◌∙◌}
use mathlib.Core.Bool.{true, false}
use mathlib.Core.List.{List}
use native.Mathlib.Omega.{arith}
use lib.ListN.{get_or}
use lib.Dec.{eqb}
use borrow.Author.Tests.{eq-eqb, ne_eqb}
use Rattle.tables.specs.Columns.{CLOCK}
use Rattle.tables.specs.State.{State, view}
use Rattle.rules.specs.Calls.{next_overdue, rouse}
use Rattle.rules.specs.Terms.{TIMEOUT}
use Rattle.rules.proofs.Kept.Clock.{rouse-step, rouse-zero, wake_clock}
use Rattle.endings.proofs.EndingLaws.{late_short, rouse-ends, rouse-turn}
use Rattle.endings.proofs.advance.rouse.Goals as goal

pub returns-in_default : goal.returns-in_default
returns-in_default c =
    let a = c.args in
    let l = c.loop in
    let r = c.earliest.result in
    let s = view a.k l.t a.p.now in
    let e : r ≡ next_overdue a.k s = rw l.invariant.clock at c.earliest.ensures in
    let z : r ≡ 0 = omega (arith, c.in_default.ensures) in
    let q : eqb (next_overdue a.k s) 0 ≡ true = rw e at (eq-eqb r 0 z) in
    record { is = sym (sym l.invariant.same ∙ rouse-ends a.k s (a.k.actors - l.counter) q); room = l.invariant.room }

pub wake-requires : goal.wake-requires
wake-requires c =
    let a = c.args in
    let l = c.loop in
    let (clock, late) = l.invariant.raised in
    (l.invariant.room, (late_short a.k clock (view a.k l.t a.p.now) late).queued)

pub loop-preserved : goal.loop-preserved
loop-preserved c =
    let a = c.args in
    let l = c.loop in
    let r = c.earliest.result in
    let s = view a.k l.t a.p.now in
    let e : r ≡ next_overdue a.k s = rw l.invariant.clock at c.earliest.ensures in
    let f = c.in-Some.ensures in
    let q : eqb (next_overdue a.k s) 0 ≡ false = rw e at (ne_eqb r 0 (λ z. omega (arith, f.0))) in
    let d = c.wake.ensures in
    let h = l.invariant.raised in
    let n = a.k.actors - l.counter in
    let m : a.k.actors - (l.counter + 1) ≡ n - 1 = omega arith in
    let o : 0 < n = omega (arith, c.loop-test.true) in
    record {
      room = d.room;
      raised = (h.0, rw (d.is, f.1, e) (rouse-step a.k h.0 s h.1 q));
      clock = l.invariant.clock ∙ sym (ap (λ (x : List ℕ). get_or x 0 0) (ap (λ (u : State). u CLOCK) d.is ∙ wake_clock s c.in-Some.a TIMEOUT));
      same = rw (d.is, m, f.1, e) (sym (rouse-turn a.k s n o q) ∙ l.invariant.same);
    }

pub returns : goal.returns
returns c =
    let a = c.args in
    let l = c.loop in
    let s = view a.k l.t a.p.now in
    let z : a.k.actors - l.counter ≡ 0 = omega arith in
    record { is = sym (rouse-zero a.k s) ∙ ap (λ (m : ℕ). rouse a.k m s) (sym z) ∙ l.invariant.same; room = l.invariant.room }
