-- The slot stands at none of the places before i.
use mathlib.Core.Path.{refl}
use native.Mathlib.Omega.{arith}
use borrow.Author.Tests.{eq-eqb}
use Rattle.tables.specs.Columns.{QUEUE}
use Rattle.tables.specs.State.{at, view}
use Rattle.actions.proofs.ActionLaws.{search_hit, search_miss}
use Rattle.actions.proofs.queue.queue_place.Goals as goal

pub returns-then-get-a : goal.returns-then-get-a
returns-then-get-a c =
    let a = c.args in
    let x = at (view a.k a.t.now a.p.now) QUEUE c.loop-i.i in
    search_hit c.loop-i.invariant (omega arith) refl (eq-eqb x a.a (omega (arith, c.get.ensures, c.if-get-a.true)))

pub returns : goal.returns
returns c = search_miss c.loop-i.invariant (omega arith)
