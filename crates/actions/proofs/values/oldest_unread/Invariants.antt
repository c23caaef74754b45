-- None before i is the bus's, and unread.
use Rattle.tables.specs.Columns.{ISSUED}
use Rattle.tables.specs.State.{head, view}
use Rattle.rules.specs.Buses.{is_unread}
use Rattle.actions.proofs.ActionLaws.{Searched}
use Rattle.actions.proofs.values.oldest_unread.Given as goal

abbrev pub invariant-loop-i : goal.invariant-loop-i
invariant-loop-i l = Searched (is_unread (view l.k l.t l.p) l.b l.seat) (head (view l.k l.t l.p) ISSUED) l.n l.i
