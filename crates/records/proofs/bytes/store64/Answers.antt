-- The library's bytes of the number are those that are stored.
use Rattle.records.proofs.ByteLaws.{low_first_all}
use Rattle.records.proofs.bytes.store64.Goals as goal

pub returns : goal.returns
returns c = rw (c.store.ensures, c.to_le_bytes.ensures, ← low_first_all 8 c.args.x)
