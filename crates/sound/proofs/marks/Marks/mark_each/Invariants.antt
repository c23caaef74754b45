-- `sound::marks::Marks::mark_each` meets its contract.
use lib.ListN.{take}
use Rattle.pools.specs.Pool.{occurs}
use Rattle.sound.specs.Marks.{Added}
use Rattle.sound.proofs.marks.Marks.mark_each.Given as goal

abbrev pub invariant-loop-i : goal.invariant-loop-i
invariant-loop-i l = Added (λ e. occurs e (take l.i l.list)) l.ok l.initial.self.bits l.self.bits
