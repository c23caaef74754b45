-- No link entry below e joins the two.
use native.Mathlib.Omega.{arith}
use Rattle.actions.proofs.ActionLaws.{search_hit, search_miss}
use Rattle.actions.proofs.links.link_of.Goals as goal

pub returns-then-joins : goal.returns-then-joins
returns-then-joins c = search_hit c.loop-e.invariant (omega arith) c.joins.ensures c.if-joins.true

pub returns : goal.returns
returns c = search_miss c.loop-e.invariant (omega arith)
