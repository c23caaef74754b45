-- Somebody runs, or not.
use mathlib.Core.Path.{refl}
use native.Mathlib.Omega.{arith}
use Rattle.std.proofs.lemmas.Result.{err_from_is_err_and}
use Rattle.tables.specs.State.{with_col, poke}
use Rattle.rules.specs.Calls.{ruled}
use Rattle.rules.proofs.Kept.Ready.{good_ready}
use Rattle.rules.proofs.Kept.Clauses.{queue-fits}
use Rattle.calls.proofs.CallLaws.{finds, stops}
use Rattle.calls.proofs.running.yield_in.Goals as goal

pub returns-in_err-me : goal.returns-in_err-me
unfolding ruled
returns-in_err-me c =
    let p = err_from_is_err_and c.from_residual.result c.from_residual.ensures.1 in
    let h = stops _ _ _ c.in_err-me.ensures in
    simp (h.0, p.1, p.2, h.1) (refl, record { is = refl; room = c.requires.room })

pub ready-requires : goal.ready-requires
unfolding with_col poke
ready-requires c =
    let a = c.args in
    let g = good_ready a.k a.t.now a.p.now c.requires in
    (c.halt.ensures.room, rw c.halt.ensures.is (omega (arith, queue-fits g, g.range)))

pub returns : goal.returns
unfolding ruled
returns c =
    let h = finds _ _ _ c.in_ok-me.ensures in
    simp h.0 (refl, record { is = rw (c.ready.ensures.is, c.halt.ensures.is, h.1); room = c.ready.ensures.room })
