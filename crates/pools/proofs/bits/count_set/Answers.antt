-- The remainder by 2 ^ k is the lowest k bits.
use Rattle.pools.proofs.WordLaws.{ones-count}
use Rattle.pools.proofs.bits.count_set.Goals as goal

pub returns : goal.returns
returns c = rw c.power.ensures (ones-count c.args.k c.args.x)
