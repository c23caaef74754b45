-- The state is that with the monitors below i dropped.
use mathlib.Core.Path.{◌≡◌}
use Rattle.tables.specs.State.{view, Room}
use Rattle.rules.specs.Calls.{drop_monitors}
use Rattle.endings.proofs.leaving.drop_monitors.Given as goal

abbrev pub invariant-loop-i : goal.invariant-loop-i
invariant-loop-i l = Room l.k l.t l.p × (view l.k l.t l.p ≡ drop_monitors l.a l.i (view l.k l.initial.t l.p))
