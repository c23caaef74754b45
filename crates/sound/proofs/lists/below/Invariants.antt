-- `sound::lists::below` meets its contract.
use mathlib.Core.Path.{◌≡◌}
use lib.ListN.{get_or}
use Rattle.rules.specs.Rule.{test, each, lt}
use Rattle.sound.proofs.lists.below.Given as goal

abbrev pub invariant-loop-x : goal.invariant-loop-x
invariant-loop-x l = l.ok ≡ test (each l.x-index (λ j. lt (get_or l.s j 0) l.n))
