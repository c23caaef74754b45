-- Whom it is left to wake of the present state is whom it was to wake of the first.
use Prim.Native.Nat.{◌-◌}
use mathlib.Core.Path.{◌≡◌}
use Rattle.tables.specs.Columns.{CLOCK}
use Rattle.tables.specs.State.{head, view, Room}
use Rattle.rules.specs.Calls.{rouse}
use Rattle.endings.specs.Asked.{Raised}
use Rattle.endings.proofs.advance.rouse.Given as goal

abbrev pub invariant-loop : goal.invariant-loop
invariant-loop l = let s = view l.k l.t l.p in
    record {
      room : Room l.k l.t l.p;
      raised : Raised l.k s;
      clock : l.clock ≡ head s CLOCK;
      same : rouse l.k (l.k.actors - l.counter) s ≡ rouse l.k l.k.actors (view l.k l.initial.t l.p);
    }
