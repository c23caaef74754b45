-- A number stands among the words as often as there are places that hold it.
use Rattle.std.proofs.Common.{rules}
use Rattle.pools.proofs.ListLaws.{occurs-places}
use Rattle.pools.proofs.slots.count_equal.Goals as goal

pub returns : goal.returns
returns c = rw (occurs-places c.args.e c.args.words.now) (search rules)
