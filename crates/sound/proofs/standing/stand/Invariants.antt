-- `sound::standing::stand` meets its contract.
use Prim.Native.Nat.{◌-◌, ◌≤◌}
use mathlib.Core.Path.{◌≡◌}
use lib.ListN.{length}
use Rattle.sound.proofs.StandingLaws.{Stood}
use Rattle.sound.proofs.standing.stand.Given as goal

abbrev pub invariant-loop-a : goal.invariant-loop-a
invariant-loop-a l = (l.a ≤ length l.states) × (length l.row ≡ length l.initial.row) × Stood l.states l.a l.row

abbrev pub decreases-loop-a : goal.decreases-loop-a
decreases-loop-a l = length l.states - l.a
