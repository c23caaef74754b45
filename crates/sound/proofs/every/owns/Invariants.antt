-- `sound::every::owns` meets its contract.
use mathlib.Core.Path.{◌≡◌}
use Rattle.rules.specs.Rule.{test, each}
use Rattle.sound.specs.Kinds.{own_rule}
use Rattle.tables.specs.State.{view}
use Rattle.sound.proofs.every.owns.Given as goal

abbrev pub invariant-loop-i : goal.invariant-loop-i
invariant-loop-i l = l.ok ≡ test (each l.i (λ j. own_rule l.k (view l.k l.t l.p) j))
