-- The loop keeps: of no number below i did the test hold.
use Rattle.std.proofs.Common.{◌<◌, ℕ, false}
use Rattle.pools.proofs.search.lowest.Given as goal

abbrev pub invariant-loop-i : goal.invariant-loop-i
invariant-loop-i g l = (j : ℕ) → j < l.i → goal.F-post g l.passes j false
