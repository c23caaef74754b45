-- No seat before n is free.
use mathlib.Core.Path.{refl}
use native.Mathlib.Omega.{arith}
use borrow.Author.Tests.{eq-eqb}
use Rattle.tables.specs.State.{view}
use Rattle.rules.specs.Buses.{in_seat}
use Rattle.actions.proofs.ActionLaws.{search_hit, search_miss}
use Rattle.actions.proofs.buses.seat_for.Goals as goal

pub returns-then-in_seat-eq0 : goal.returns-then-in_seat-eq0
returns-then-in_seat-eq0 c =
    let a = c.args in
    let s = view a.k a.t.now a.p.now in
    search_hit c.loop-n.invariant (omega arith) refl (eq-eqb (in_seat s a.b c.loop-n.n) 0 (omega (arith, c.in_seat.ensures, c.if-in_seat-eq0.true)))

pub returns : goal.returns
returns c = search_miss c.loop-n.invariant (omega arith)
