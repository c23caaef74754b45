-- The slot sits in no seat before n.
use lib.Dec.{eqb}
use Rattle.tables.specs.Limits.{MOST-SEATS}
use Rattle.tables.specs.State.{view}
use Rattle.rules.specs.Buses.{in_seat}
use Rattle.actions.proofs.ActionLaws.{Searched}
use Rattle.actions.proofs.buses.seat_of.Given as goal

abbrev pub invariant-loop-n : goal.invariant-loop-n
invariant-loop-n l = Searched (λ n. eqb (in_seat (view l.k l.t l.p) l.b n) l.a) MOST-SEATS l.most l.n
