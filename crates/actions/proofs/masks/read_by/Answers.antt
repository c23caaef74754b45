-- The low half of the mask has a one for each who has read it.
use Rattle.tables.specs.Limits.{MOST-SEATS}
use Rattle.pools.proofs.WordLaws.{ones-count}
use Rattle.actions.proofs.masks.read_by.Goals as goal

pub returns : goal.returns
returns c = rw c.from.ensures (ones-count MOST-SEATS c.args.mask)
