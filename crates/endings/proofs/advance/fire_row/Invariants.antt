-- What is left to fire of the present state is what was to fire of the first, and waits in what is left of the row.
use Prim.Native.Nat.{◌≤◌, ◌-◌, ◌+◌}
use mathlib.Core.Path.{◌≡◌}
use lib.ListN.{length}
use Rattle.tables.specs.State.{view, Room}
use Rattle.rules.specs.Calls.{fired, fire_all}
use Rattle.endings.specs.Asked.{Raised}
use Rattle.endings.specs.Order.{Waiting}
use Rattle.endings.proofs.advance.fire_row.Given as goal

abbrev pub invariant-loop-i : goal.invariant-loop-i
invariant-loop-i l = let row = l.i-iterator.iter.rest.now in
    let s = view l.k l.t l.p in
    record {
      room : Room l.k l.t l.p;
      raised : Raised l.k s;
      waiting : Waiting l.k s (length row) row;
      few : l.count + length row ≤ l.k.timers;
      same : fire_all l.k (l.k.timers - l.count) (fired l.count s) ≡ fire_all l.k l.k.timers (fired 0 (view l.k l.initial.t l.initial.p));
    }
