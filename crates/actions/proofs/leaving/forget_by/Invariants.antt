-- The data entries before d were passed.
use mathlib.Core.Path.{◌≡◌}
use Rattle.tables.specs.State.{view, Room}
use Rattle.actions.specs.Leaving.{forget_by}
use Rattle.actions.proofs.leaving.forget_by.Given as goal

abbrev pub invariant-loop-d : goal.invariant-loop-d
invariant-loop-d l = Room l.k l.t l.p × (view l.k l.t l.p ≡ forget_by l.seats l.d (view l.k l.initial.t l.p))
