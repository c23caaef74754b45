-- The loop keeps: c is how many entries of the words before word k are free.
use Rattle.std.proofs.Common.{◌≡◌, ◌*◌}
use Rattle.pools.specs.Bits.{WORD-BITS, free}
use Rattle.pools.specs.Pool.{count}
use Rattle.pools.proofs.bits.count_free.Given as goal

abbrev pub invariant-loop-k : goal.invariant-loop-k
invariant-loop-k l = l.c ≡ count (free l.w) (l.k * WORD-BITS)
