-- `sound::buses::none_twice` meets its contract.
use mathlib.Core.Path.{◌≡◌}
use lib.ListN.{length}
use Rattle.rules.specs.Rule.{test, each}
use Rattle.sound.specs.Buses.{new_in}
use Rattle.sound.proofs.BusLaws.{Stamped}
use Rattle.sound.proofs.buses.none_twice.Given as goal

abbrev pub invariant-loop-n : goal.invariant-loop-n
invariant-loop-n l =
    (length l.stamps ≡ length l.initial.stamps) × (l.ok ≡ test (each l.n (λ i. new_in l.seats i))) × Stamped l.seats l.n l.stamp l.stamps
