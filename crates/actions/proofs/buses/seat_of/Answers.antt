-- The slot sits in no seat before n.
use mathlib.Core.Path.{refl}
use native.Mathlib.Omega.{arith}
use borrow.Author.Tests.{eq-eqb}
use Rattle.tables.specs.State.{view}
use Rattle.rules.specs.Buses.{in_seat}
use Rattle.actions.proofs.ActionLaws.{search_hit, search_miss}
use Rattle.actions.proofs.buses.seat_of.Goals as goal

pub returns-then-in_seat-a : goal.returns-then-in_seat-a
returns-then-in_seat-a c =
    let a = c.args in
    let s = view a.k a.t.now a.p.now in
    search_hit c.loop-n.invariant (omega arith) refl (eq-eqb (in_seat s a.b c.loop-n.n) a.a (omega (arith, c.in_seat.ensures, c.if-in_seat-a.true)))

pub returns : goal.returns
returns c = search_miss c.loop-n.invariant (omega arith)
