-- The refusals in their order, and what is left of the rule.
use mathlib.Core.Path.{ap, refl}
use mathlib.Core.Bool.{not}
use native.Mathlib.Omega.{arith}
use mir.Syntax.{w64}
use mir.ValLaws.{to_z-of_z}
use Rattle.std.proofs.lemmas.Result.{err_from_is_err_and}
use Rattle.tables.specs.Columns.{ARRIVAL}
use Rattle.tables.specs.State.{at, view}
use Rattle.rules.specs.Calls.{ruled}
use Rattle.rules.specs.Terms.{legal}
use Rattle.rules.proofs.Kept.Ready.{good_ready}
use Rattle.rules.proofs.Kept.Clauses.{arrivals-fit, clock_fits, mail-fits, runner-fits}
use Rattle.calls.proofs.CallLaws.{finds, is_not, is_so, let_go-arrived, let_go_clock, let_go_data, or_true, runs, stops}
use Rattle.calls.proofs.WaitLaws.{wait_back, wait_short}
use Rattle.calls.proofs.receiving.receive_in.Goals as goal

pub returns-in_err-me : goal.returns-in_err-me
unfolding ruled
returns-in_err-me c =
    let p = err_from_is_err_and c.from_residual.result c.from_residual.ensures.1 in
    let h = stops _ _ _ c.in_err-me.ensures in
    simp (h.0, p.1, p.2, h.1) (refl, record { is = refl; room = c.requires.room })

pub returns-in_err-wait : goal.returns-in_err-wait
unfolding ruled
returns-in_err-wait c =
    let a = c.args in
    let z = to_z-of_z w64 a.wait c.ranges.wait in
    let m = runs _ c.in_ok-me.ensures in
    let p = err_from_is_err_and c.from_residual-in_err-wait.result c.from_residual-in_err-wait.ensures.1 in
    let h = stops _ _ _ (rw z at c.in_err-wait.ensures) in
    simp (m.0, h.0, or_true (not (legal a.wanted.class a.wanted.tag)), p.1, p.2, h.1) (refl, record { is = refl; room = c.requires.room })

pub returns-then-not-legal : goal.returns-then-not-legal
unfolding ruled
returns-then-not-legal c =
    let m = runs _ c.in_ok-me.ensures in
    simp (m.0, is_not c.legal.ensures (ap not c.if-not-legal.true)) (refl, record { is = refl; room = c.requires.room })

pub receive_bare-requires : goal.receive_bare-requires
receive_bare-requires c =
    let a = c.args in
    let s = view a.k a.t.now a.p.now in
    let g = good_ready a.k a.t.now a.p.now c.requires in
    let z = to_z-of_z w64 a.wait c.ranges.wait in
    let m = runs _ c.in_ok-me.ensures in
    let w = finds _ _ _ (rw z at c.in_ok-wait.ensures) in (
      (c.let_go.ensures.room, (omega (arith, m.1, runner-fits g, g.range), rw (c.let_go.ensures.is, let_go_clock) (clock_fits g), rw (c.let_go.ensures.is, let_go-arrived) (arrivals-fit g), λ j. rw (c.let_go.ensures.is, let_go_data) (omega (arith, mail-fits g (at s ARRIVAL j), g.range)))),
      rw w.1 (wait_short a.wait w.0),
    )

pub returns : goal.returns
unfolding ruled
returns c =
    let a = c.args in
    let z = to_z-of_z w64 a.wait c.ranges.wait in
    let m = runs _ c.in_ok-me.ensures in
    let w = finds _ _ _ (rw z at c.in_ok-wait.ensures) in
    simp (m.0, is_so c.legal.ensures (ap not c.if-not-legal.false), w.0)
    (rw (c.let_go.ensures.is, m.1, w.1, wait_back a.wait w.0) at c.receive_bare.ensures)
