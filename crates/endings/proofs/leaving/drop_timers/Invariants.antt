-- The state is that with the timers below i dropped.
use mathlib.Core.Path.{◌≡◌}
use Rattle.tables.specs.State.{view, Room}
use Rattle.rules.specs.Calls.{drop_timers}
use Rattle.endings.proofs.leaving.drop_timers.Given as goal

abbrev pub invariant-loop-i : goal.invariant-loop-i
invariant-loop-i l = Room l.k l.t l.p × (view l.k l.t l.p ≡ drop_timers l.a l.i (view l.k l.initial.t l.p))
