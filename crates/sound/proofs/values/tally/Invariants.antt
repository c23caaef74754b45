-- `sound::values::tally` meets its contract.
use Prim.Native.Nat.{suc}
use lib.ListN.{take}
use Rattle.pools.specs.Pool.{occurs}
use Rattle.sound.specs.Values.{Counts}
use Rattle.sound.proofs.values.tally.Given as goal

abbrev pub invariant-loop-bus : goal.invariant-loop-bus
invariant-loop-bus l = Counts (λ b. occurs (suc b) (take l.bus-index l.list)) l.counts
