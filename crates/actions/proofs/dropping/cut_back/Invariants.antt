-- The words of the arrivals after those kept and before the i-th are 0.
use mathlib.Core.Path.{◌≡◌}
use Rattle.tables.specs.State.{view, Room}
use Rattle.actions.proofs.DropLaws.{swept}
use Rattle.actions.proofs.dropping.cut_back.Given as goal

abbrev pub invariant-loop-i : goal.invariant-loop-i
invariant-loop-i l = Room l.k l.t l.p × (view l.k l.t l.p ≡ swept (view l.k l.initial.t l.p) l.kept l.i)
