-- None of the arrivals before i matches.
use Rattle.tables.specs.Columns.{ARRIVED}
use Rattle.tables.specs.State.{head, view}
use Rattle.rules.specs.Calls.{match_at}
use Rattle.actions.proofs.ActionLaws.{Searched}
use Rattle.actions.proofs.queue.first_match.Given as goal

abbrev pub invariant-loop-i : goal.invariant-loop-i
invariant-loop-i l = Searched (match_at (view l.k l.t l.p) l.a l.sender l.class l.tag) (head (view l.k l.t l.p) ARRIVED) l.n l.i
