-- `sound::buses::sitters_ok` meets its contract.
use mathlib.Core.Path.{◌≡◌}
use lib.ListN.{get_or}
use Rattle.rules.specs.Rule.{test, each}
use Rattle.sound.specs.Buses.{sitter_in}
use Rattle.sound.proofs.buses.sitters_ok.Given as goal

abbrev pub invariant-loop-n : goal.invariant-loop-n
invariant-loop-n l = l.ok ≡ test (each l.n (λ i. sitter_in l.row l.limit (get_or l.seats i 0) i))
