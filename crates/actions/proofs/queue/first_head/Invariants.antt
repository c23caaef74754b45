-- Of the i that were passed, the first of the least level.
use Rattle.tables.specs.State.{view}
use Rattle.actions.proofs.ActionLaws.{Ahead}
use Rattle.actions.proofs.queue.first_head.Given as goal

abbrev pub invariant-loop-i : goal.invariant-loop-i
invariant-loop-i l = Ahead (view l.k l.t l.p) l.n l.first l.best l.i
