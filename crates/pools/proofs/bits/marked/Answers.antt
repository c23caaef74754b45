-- A mask of that bit.
use Rattle.pools.proofs.MaskLaws.{or-mark}
use Rattle.pools.proofs.bits.marked.Goals as goal

pub returns : goal.returns
returns c = rw (c.power.ensures, or-mark c.args.x c.args.k)
