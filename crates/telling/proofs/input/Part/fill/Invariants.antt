-- What was read ends within the part.
use Rattle.std.proofs.Common.{◌-◌, ◌≤◌}
use Rattle.telling.proofs.input.Part.fill.Given as goal

abbrev pub invariant-loop-to : goal.invariant-loop-to
invariant-loop-to g l = l.to ≤ 262144

abbrev pub decreases-loop-to : goal.decreases-loop-to
decreases-loop-to g l = 262144 - l.to
