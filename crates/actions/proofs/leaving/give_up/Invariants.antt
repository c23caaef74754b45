-- The buses before b were passed, and the row says which seats were given up.
use mathlib.Core.Path.{◌≡◌}
use Rattle.tables.specs.State.{view, Room}
use Rattle.actions.specs.Leaving.{GivenUp, gave_up, give_up}
use Rattle.actions.proofs.leaving.give_up.Given as goal

abbrev pub invariant-loop-b : goal.invariant-loop-b
invariant-loop-b l =
    let s = view l.k l.initial.t l.p in
    Room l.k l.t l.p × (view l.k l.t l.p ≡ give_up l.x l.b s) × GivenUp s l.x l.b l.seats × (l.any ≡ gave_up l.x l.b s)
