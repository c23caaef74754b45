-- The parts so far are marked.
use Prim.Native.Nat.{ℕ, suc}
use mathlib.Core.Path.{◌≡◌}
use mathlib.Core.List.{List, ◌++◌}
use Rattle.pools.specs.Pool.{occurs}
use Rattle.std.specs.Slice.Iter.{chunks_rest}
use Rattle.sound.specs.Marks.{Added}
use Rattle.sound.proofs.marks.Marks.mark_parts_up.Given as goal

abbrev pub invariant-loop-part : goal.invariant-loop-part
invariant-loop-part l = (done : List ℕ) × (l.list ≡ done ++ chunks_rest l.part-iterator) × Added (λ d. occurs (suc d) done) l.ok l.initial.self.bits l.self.bits
