-- Who sits on a bus sits on one of the 32 that a box can have, so the row has a place for it.
use native.Mathlib.Omega.{arith}
use Rattle.actions.proofs.BusLaws.{sits-bus}
use Rattle.actions.proofs.leaving.give_up_on.Goals as goal

pub bounds-seats-b : goal.bounds-seats-b
bounds-seats-b c =
    let a = c.args in
    omega (arith, sits-bus c.requires.0 a.b a.x c.requires.1 (omega (arith, c.seat_of-n.ensures, c.if-there.true)))
