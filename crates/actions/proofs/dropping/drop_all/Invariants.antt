-- The mailbox is being emptied, and i arrivals were passed.
use Rattle.tables.specs.State.{view, Room}
use Rattle.actions.proofs.DropLaws.{Emptying}
use Rattle.actions.proofs.dropping.drop_all.Given as goal

abbrev pub invariant-loop-i : goal.invariant-loop-i
invariant-loop-i l = Room l.k l.t l.p × Emptying (view l.k l.initial.t l.initial.p) l.a (view l.k l.t l.p) l.n l.kept l.i
