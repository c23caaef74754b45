-- The data entries before d were passed.
use mathlib.Core.Path.{◌≡◌}
use Rattle.tables.specs.State.{view, Room}
use Rattle.rules.specs.Buses.{forget}
use Rattle.actions.proofs.leaving.forget.Given as goal

abbrev pub invariant-loop-d : goal.invariant-loop-d
invariant-loop-d l = Room l.k l.t l.p × (view l.k l.t l.p ≡ forget l.b l.n l.d (view l.k l.initial.t l.p))
