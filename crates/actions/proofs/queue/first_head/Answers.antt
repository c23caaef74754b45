-- Of the i that were passed, the first of the least level.
use native.Mathlib.Omega.{arith}
use Rattle.actions.proofs.ActionLaws.{ahead_top, ahead-end}
use Rattle.actions.proofs.queue.first_head.Goals as goal

pub returns-then-level-eq0 : goal.returns-then-level-eq0
returns-then-level-eq0 c = ahead_top c.loop-i.invariant (omega arith) (omega (arith, c.level_of-level.ensures))

pub returns : goal.returns
returns c = ahead-end c.loop-i.invariant (omega arith)
