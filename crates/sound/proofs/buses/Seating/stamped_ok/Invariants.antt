-- `sound::buses::Seating::stamped_ok` meets its contract.
use Prim.Native.Nat.{suc}
use mathlib.Core.Path.{◌≡◌}
use lib.ListN.{length}
use Rattle.rules.specs.Rule.{test}
use Rattle.sound.specs.Buses.{rows_in, Before}
use Rattle.sound.proofs.buses.Seating.stamped_ok.Given as goal

abbrev pub invariant-loop-b : goal.invariant-loop-b
invariant-loop-b l =
    (length l.stamps ≡ length l.initial.stamps) × Before (suc l.b) l.stamps × (l.ok ≡ test (rows_in l.self.row.now l.self.seats.now l.self.limits.now l.b))
