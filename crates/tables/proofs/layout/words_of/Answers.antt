-- `tables::layout::words_of` meets its contract: a column ends within the words that are needed.
use native.Mathlib.Omega.{arith}
use Rattle.tables.specs.State.{sizes}
use Rattle.tables.proofs.RowLaws.{ends-all}
use Rattle.tables.proofs.ViewLaws.{needed-sum}
use Rattle.tables.proofs.layout.words_of.Goals as goal

pub overflow_add-result : goal.overflow_add-result
overflow_add-result c = omega (arith, needed-sum c.args.k, ends-all (sizes c.args.k) c.args.c)

pub returns : goal.returns
returns c = let e = c.place_of-place.ensures in (e.0, omega arith, omega (arith, needed-sum c.args.k, ends-all (sizes c.args.k) c.args.c))
