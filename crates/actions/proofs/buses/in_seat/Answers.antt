-- A seat of a bus, or none.
use mathlib.Core.Path.{sym}
use native.Mathlib.Omega.{arith}
use Rattle.actions.proofs.BusLaws.{seat_past}
use Rattle.actions.proofs.buses.in_seat.Goals as goal

pub returns-else-b : goal.returns-else-b
returns-else-b c =
    sym (seat_past c.requires.0 c.args.b c.args.n (omega arith))
