-- `sound::values::values_by` meets its contract.
use mathlib.Core.Path.{◌≡◌}
use lib.ListN.{get_or}
use Rattle.pools.specs.Bits.{free}
use Rattle.rules.specs.Rule.{test, each}
use Rattle.sound.specs.Values.{value_in}
use Rattle.sound.proofs.values.values_by.Given as goal

abbrev pub invariant-loop-d : goal.invariant-loop-d
invariant-loop-d l = l.ok ≡ test (each l.d (λ j. value_in l.masks l.made l.clock (free l.seen.bits j) (get_or l.buses j 0) (get_or l.readers j 0) (get_or l.published j 0)))
