-- The entries below d keep their rule.
use mathlib.Core.Path.{◌≡◌}
use lib.ListN.{get_or}
use Rattle.rules.specs.Rule.{test, each}
use Rattle.sound.specs.Kinds.{entry_rule}
use Rattle.sound.proofs.messages.datas.Given as goal

abbrev pub invariant-loop-d : goal.invariant-loop-d
invariant-loop-d l = l.ok ≡ test (each l.d (λ j. entry_rule l.area l.bits l.ages (get_or l.buses j 0) (get_or l.senders j 0) (get_or l.lengths j 0) j))
