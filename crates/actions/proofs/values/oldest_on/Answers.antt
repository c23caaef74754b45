-- None before i is the bus's.
use native.Mathlib.Omega.{arith}
use Rattle.actions.proofs.ActionLaws.{search_hit, search_miss}
use Rattle.actions.proofs.values.oldest_on.Goals as goal

pub returns-then-is_on : goal.returns-then-is_on
returns-then-is_on c =
    search_hit c.loop-i.invariant (omega arith) c.is_on.ensures c.if-is_on.true

pub returns : goal.returns
returns c = search_miss c.loop-i.invariant (omega arith)
