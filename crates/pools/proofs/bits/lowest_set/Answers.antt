-- The zeros at the end of a word count up to its lowest set bit.
use Rattle.std.proofs.Common.{arith}
use Rattle.pools.specs.Bits.{WORD-BITS}
use Rattle.pools.proofs.WordLaws.{zeros-lowest}
use Rattle.pools.proofs.bits.lowest_set.Goals as goal

pub returns : goal.returns
returns c = omega (arith, zeros-lowest WORD-BITS c.args.x)
