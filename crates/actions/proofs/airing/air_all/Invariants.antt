-- The values before the i-th are still to be looked at.
use Rattle.tables.specs.State.{view, Room}
use Rattle.actions.proofs.BusLaws.{Airs}
use Rattle.actions.proofs.airing.air_all.Given as goal

abbrev pub invariant-loop-i : goal.invariant-loop-i
invariant-loop-i l = Room l.k l.t l.p × Airs l.k (view l.k l.initial.t l.initial.p) (view l.k l.t l.p) l.i
