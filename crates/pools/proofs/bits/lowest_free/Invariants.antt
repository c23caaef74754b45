-- The loop keeps: no entry of the words before word k is free.
use Rattle.std.proofs.Common.{◌≡◌, ◌*◌, ◌<◌, ℕ, false}
use Rattle.pools.specs.Bits.{WORD-BITS, free}
use Rattle.pools.proofs.bits.lowest_free.Given as goal

abbrev pub invariant-loop-k : goal.invariant-loop-k
invariant-loop-k l = (j : ℕ) → j < l.k * WORD-BITS → free l.w j ≡ false
