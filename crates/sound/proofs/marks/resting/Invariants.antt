-- `sound::marks::resting` meets its contract.
use Prim.Native.Nat.{◌<◌, ◌+◌, ◌*◌, ◌^◌}
use Rattle.pools.specs.Bits.{WORD-BITS}
use Rattle.sound.specs.Marks.{Flags, rests}
use Rattle.sound.proofs.marks.resting.Given as goal

abbrev pub invariant-loop-i : goal.invariant-loop-i
invariant-loop-i l = (l.word < 2 ^ l.i) × Flags (λ a. rests l.states (WORD-BITS * l.j + a)) l.i l.word
