-- No seat before n is free.
use lib.Dec.{eqb}
use Rattle.tables.specs.Columns.{BUS-SEATS}
use Rattle.tables.specs.State.{at, view}
use Rattle.rules.specs.Buses.{in_seat}
use Rattle.actions.proofs.ActionLaws.{Searched}
use Rattle.actions.proofs.buses.seat_for.Given as goal

abbrev pub invariant-loop-n : goal.invariant-loop-n
invariant-loop-n l = Searched (λ n. eqb (in_seat (view l.k l.t l.p) l.b n) 0) (at (view l.k l.t l.p) BUS-SEATS l.b) l.most l.n
