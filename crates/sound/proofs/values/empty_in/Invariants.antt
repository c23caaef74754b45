-- `sound::values::empty_in` meets its contract.
use Prim.Native.Nat.{◌<◌, ◌^◌}
use Rattle.sound.specs.Values.{Empty}
use Rattle.sound.proofs.values.empty_in.Given as goal

abbrev pub invariant-loop-i : goal.invariant-loop-i
invariant-loop-i l = (l.mask < 2 ^ l.i) × Empty l.seats l.i l.mask
