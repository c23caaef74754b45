-- `sound::marks::Marks::mark_each_up` meets its contract.
use Prim.Native.Nat.{suc}
use lib.ListN.{take}
use Rattle.pools.specs.Pool.{occurs}
use Rattle.sound.specs.Marks.{Added}
use Rattle.sound.proofs.marks.Marks.mark_each_up.Given as goal

abbrev pub invariant-loop-word : goal.invariant-loop-word
invariant-loop-word l = Added (λ e. occurs (suc e) (take l.word-index l.list)) l.ok l.initial.self.bits l.self.bits
