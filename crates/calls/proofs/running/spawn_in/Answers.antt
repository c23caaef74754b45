-- The three arms of a spawn.
use mathlib.Core.Path.{refl}
use native.Mathlib.Omega.{arith}
use borrow.Author.Tests.{lt-ltb, le-ltb}
use Rattle.std.proofs.lemmas.Result.{err_from_is_err_and}
use Rattle.rules.specs.Calls.{ruled}
use Rattle.rules.proofs.Kept.Ready.{good_ready}
use Rattle.rules.proofs.Kept.Clauses.{age_fits, queue-fits}
use Rattle.calls.proofs.CallLaws.{placed, stops}
use Rattle.calls.proofs.running.spawn_in.Goals as goal

pub returns-then-priority-gt-LAST_LEVEL : goal.returns-then-priority-gt-LAST_LEVEL
unfolding ruled
returns-then-priority-gt-LAST_LEVEL c =
    simp (lt-ltb _ _ c.if-priority-gt-LAST_LEVEL.true) (refl, record { is = refl; room = c.requires.room })

pub returns-in_err-a : goal.returns-in_err-a
unfolding ruled
returns-in_err-a c =
    let p = err_from_is_err_and c.from_residual.result c.from_residual.ensures.1 in
    let h = stops _ _ _ c.in_err-a.ensures in
    let q = rw c.slot_for.ensures at h.0 in
    simp (le-ltb _ _ c.if-priority-gt-LAST_LEVEL.false, q, p.1, p.2, h.1) (refl, record { is = refl; room = c.requires.room })

pub next_id-id-requires : goal.next_id-id-requires
next_id-id-requires c =
    let a = c.args in
    let g = good_ready a.k a.t.now a.p.now c.requires in
    let z = placed _ _ c.in_ok-a.ensures in
    (c.requires.room, (omega arith, omega (arith, z.2, g.range), omega arith, age_fits g c.in_ok-a.a))

pub begin-requires : goal.begin-requires
begin-requires c =
    let a = c.args in
    let g = good_ready a.k a.t.now a.p.now c.requires in
    (c.requires.room, (age_fits g c.in_ok-a.a, omega (arith, queue-fits g, g.range)))

pub returns : goal.returns
unfolding ruled
returns c =
    let z = placed _ _ c.in_ok-a.ensures in
    let q = rw c.slot_for.ensures at z.0 in
    simp (le-ltb _ _ c.if-priority-gt-LAST_LEVEL.false, q)
    (rw (c.next_id-id.ensures, z.1, c.slot_for.ensures), rw (z.1, c.slot_for.ensures) at c.begin.ensures)
