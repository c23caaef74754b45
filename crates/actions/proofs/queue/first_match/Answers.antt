-- None of the arrivals before i matches.
use native.Mathlib.Omega.{arith}
use Rattle.actions.proofs.ActionLaws.{search_hit, search_miss}
use Rattle.actions.proofs.queue.first_match.Goals as goal

pub returns-then-match_at : goal.returns-then-match_at
returns-then-match_at c = search_hit c.loop-i.invariant (omega arith) c.match_at.ensures c.if-match_at.true

pub returns : goal.returns
returns c = search_miss c.loop-i.invariant (omega arith)
