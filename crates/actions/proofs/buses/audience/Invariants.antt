-- The mask is that of the seats before n.
use mathlib.Core.Path.{◌≡◌}
use Rattle.tables.specs.State.{view}
use Rattle.rules.specs.Buses.{audience}
use Rattle.actions.proofs.buses.audience.Given as goal

abbrev pub invariant-loop-n : goal.invariant-loop-n
invariant-loop-n l = l.mask ≡ audience (view l.k l.t l.p) l.b l.n
