-- The refusals in their order; a new timer.
use mathlib.Core.Path.{refl}
use native.Mathlib.Omega.{arith}
use Rattle.std.proofs.lemmas.Result.{err_from_is_err_and}
use Rattle.rules.specs.Calls.{ruled}
use Rattle.rules.proofs.Kept.Ready.{good_ready}
use Rattle.rules.proofs.Kept.Clauses.{clock_fits, runner-fits, timer_age_fits}
use Rattle.calls.proofs.CallLaws.{placed, runs, stops}
use Rattle.calls.proofs.timers.arm_in.Goals as goal

pub returns-in_err-me : goal.returns-in_err-me
unfolding ruled
returns-in_err-me c =
    let p = err_from_is_err_and c.from_residual.result c.from_residual.ensures.1 in
    let h = stops _ _ _ c.in_err-me.ensures in
    simp (h.0, p.1, p.2, h.1) (refl, record { is = refl; room = c.requires.0.room })

pub returns-then-bad : goal.returns-then-bad
unfolding ruled
returns-then-bad c =
    let m = runs _ c.in_ok-me.ensures in
    simp (m.0, c.if-bad.true) (refl, record { is = refl; room = c.requires.0.room })

pub returns-in_err-i : goal.returns-in_err-i
unfolding ruled
returns-in_err-i c =
    let m = runs _ c.in_ok-me.ensures in
    let p = err_from_is_err_and c.from_residual-in_err-i.result c.from_residual-in_err-i.ensures.1 in
    let h = stops _ _ _ c.in_err-i.ensures in
    let q = rw c.timer_for.ensures at h.0 in
    simp (m.0, c.if-bad.false, q, p.1, p.2, h.1) (refl, record { is = refl; room = c.requires.0.room })

pub next_id-id-requires : goal.next_id-id-requires
next_id-id-requires c =
    let a = c.args in
    let g = good_ready a.k a.t.now a.p.now c.requires.0 in
    let z = placed _ _ c.in_ok-i.ensures in
    (c.requires.0.room, (omega arith, omega (arith, z.2, g.range), omega arith, timer_age_fits g c.in_ok-i.i))

pub overflow_add-time : goal.overflow_add-time
overflow_add-time c =
    let a = c.args in
    let g = good_ready a.k a.t.now a.p.now c.requires.0 in
    omega (arith, c.requires.1 c.if-bad.false, c.get.ensures, clock_fits g)

pub arm-requires : goal.arm-requires
arm-requires c =
    let a = c.args in
    let g = good_ready a.k a.t.now a.p.now c.requires.0 in
    let m = runs _ c.in_ok-me.ensures in
    (c.requires.0.room, (timer_age_fits g c.in_ok-i.i, omega (arith, m.1, runner-fits g, g.range)))

pub returns : goal.returns
unfolding ruled
returns c =
    let m = runs _ c.in_ok-me.ensures in
    let z = placed _ _ c.in_ok-i.ensures in
    let q = rw c.timer_for.ensures at z.0 in
    simp (m.0, c.if-bad.false, q)
    (rw (c.next_id-id.ensures, z.1, c.timer_for.ensures), record { is = rw (c.arm.ensures.is, c.get.ensures, z.1, c.timer_for.ensures, m.1); room = c.arm.ensures.room })
