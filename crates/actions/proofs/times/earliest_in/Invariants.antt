-- The best is that of the entries below i.
use Rattle.actions.proofs.TimeLaws.{Noted}
use Rattle.actions.proofs.times.earliest_in.Given as goal

abbrev pub invariant-loop-i : goal.invariant-loop-i
invariant-loop-i l = Noted l.used l.time l.limit l.i l.best
