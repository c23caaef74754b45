-- The slot stands at none of the places before i.
use lib.Dec.{eqb}
use Rattle.tables.specs.Columns.{QUEUE, QUEUED}
use Rattle.tables.specs.State.{at, head, view}
use Rattle.actions.proofs.ActionLaws.{Searched}
use Rattle.actions.proofs.queue.queue_place.Given as goal

abbrev pub invariant-loop-i : goal.invariant-loop-i
invariant-loop-i l = Searched (λ i. eqb (at (view l.k l.t l.p) QUEUE i) l.a) (head (view l.k l.t l.p) QUEUED) l.n l.i
