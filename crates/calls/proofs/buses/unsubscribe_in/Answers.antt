-- Nobody runs; there is no such subscription; there is one.
use mathlib.Core.Path.{refl}
use native.Mathlib.Omega.{arith}
use borrow.Author.Tests.{ltb-true, not-false}
use Rattle.std.proofs.lemmas.Result.{err_from_is_err_and}
use Rattle.rules.specs.Calls.{ruled}
use Rattle.actions.proofs.BusLaws.{sits-bus}
use Rattle.calls.proofs.CallLaws.{finds, runs, stops}
use Rattle.calls.proofs.buses.unsubscribe_in.Goals as goal

pub returns-in_err-me : goal.returns-in_err-me
unfolding ruled
returns-in_err-me c =
    let p = err_from_is_err_and c.from_residual.result c.from_residual.ensures.1 in
    let h = stops _ _ _ c.in_err-me.ensures in
    simp (h.0, p.1, p.2, h.1) (refl, record { is = refl; room = c.requires.room })

pub returns-in_err-n : goal.returns-in_err-n
unfolding ruled
returns-in_err-n c =
    let m = runs _ c.in_ok-me.ensures in
    let p = err_from_is_err_and c.from_residual-in_err-n.result c.from_residual-in_err-n.ensures.1 in
    let h = stops _ _ _ c.in_err-n.ensures in
    let q = rw m.1 at h.0 in
    simp (m.0, q, p.1, p.2, h.1) (refl, record { is = refl; room = c.requires.room })

pub stand_up-requires : goal.stand_up-requires
stand_up-requires c =
    let m = runs _ c.in_ok-me.ensures in
    let a = c.args in
    let i = finds _ _ _ c.in_ok-n.ensures in
    let n = ltb-true _ _ (not-false _ i.0) in
    (c.requires.room, omega (arith, sits-bus c.requires.room a.b c.in_ok-me.me m.2 n), omega (arith, n, i.1))

pub returns : goal.returns
unfolding ruled
returns c =
    let m = runs _ c.in_ok-me.ensures in
    let i = finds _ _ _ c.in_ok-n.ensures in
    let q = rw m.1 at i.0 in
    simp (m.0, q) (refl, record { is = rw (c.stand_up.ensures.is, i.1, m.1); room = c.stand_up.ensures.room })
