-- `sound::values::tally` meets its contract.
use native.Mathlib.Omega.{arith}
use Rattle.tables.specs.Limits.{MOST-DATAS}
use Rattle.sound.proofs.ValueLaws.{counts_none, counts_more, counts_few}
use Rattle.sound.proofs.values.tally.Goals as goal

pub loop-bus-init : goal.loop-bus-init
loop-bus-init c = counts_none c.args.list.now c.requires.1

pub count_up-requires : goal.count_up-requires
count_up-requires c = let l = c.loop-bus in (l.invariant.long, counts_few c.args.list.now l.bus-index MOST-DATAS c.requires.0 l.invariant)

pub loop-bus-preserved : goal.loop-bus-preserved
loop-bus-preserved c = let l = c.loop-bus in counts_more c.args.list.now l.bus-index (omega arith) l.invariant c.count_up.ensures
