-- A mask of all other bits.
use Rattle.std.proofs.Common.{arith}
use Rattle.pools.specs.Bits.{WORD-BITS}
use Rattle.pools.proofs.MaskLaws.{and-clear}
use Rattle.pools.proofs.bits.cleared.Goals as goal

pub returns : goal.returns
returns c = rw (c.power.ensures, and-clear WORD-BITS c.args.x c.args.k c.requires (omega arith))
