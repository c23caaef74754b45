-- The loop keeps: c is how many numbers below i pass.
use Rattle.std.proofs.Common.{◌≡◌, ◌≤◌, ℕ, Bool}
use Rattle.pools.specs.Pool.{count, ComputesBelow}
use Rattle.pools.proofs.search.count.Given as goal

abbrev pub invariant-loop-i : goal.invariant-loop-i
invariant-loop-i g l = (l.c ≤ l.i) × ((p : ℕ → Bool) → ComputesBelow l.n (goal.F-post g l.passes) p → l.c ≡ count p l.i)
