-- `sound::ties::monitors` meets its contract.
use mathlib.Core.Path.{◌≡◌}
use lib.ListN.{get_or}
use Rattle.rules.specs.Rule.{test, each}
use Rattle.sound.specs.Ties.{monitor_in}
use Rattle.sound.proofs.ties.monitors.Given as goal

abbrev pub invariant-loop-e : goal.invariant-loop-e
invariant-loop-e l = l.ok ≡ test (each l.e (λ j. monitor_in l.row (get_or l.watcher j 0) (get_or l.watched j 0) (get_or l.age j 0)))
