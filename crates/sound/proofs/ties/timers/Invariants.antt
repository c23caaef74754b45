-- `sound::ties::timers` meets its contract.
use mathlib.Core.Path.{◌≡◌}
use lib.ListN.{get_or}
use Rattle.rules.specs.Rule.{test, each}
use Rattle.sound.specs.Ties.{timer_in}
use Rattle.sound.proofs.ties.timers.Given as goal

abbrev pub invariant-loop-e : goal.invariant-loop-e
invariant-loop-e l = l.ok ≡ test (each l.e (λ j. timer_in l.row (get_or l.owner j 0) (get_or l.age j 0) (get_or l.due j 0) (get_or l.interval j 0)))
