-- The three tests are those of the rule.
use Rattle.std.proofs.Common.{arith}
use Rattle.std.proofs.lemmas.Grind.{common_steps}
use Rattle.rules.specs.Terms.{fits}
use Rattle.reading.proofs.filters.awaited.Goals as goal
use Rattle.reading.proofs.filters.awaited.Goals.{then-wants, else-wants}

pub returns-then-wants-2 : goal.returns-then-wants-2
unfolding fits
returns-then-wants-2 c = elim c.if-wants.branch [ then-wants w ↦ grind (arith, common_steps) | else-wants w ↦ grind (arith, common_steps) ]

pub returns-else-wants-2 : goal.returns-else-wants-2
unfolding fits
returns-else-wants-2 c = elim c.if-wants.branch [ then-wants w ↦ grind (arith, common_steps) | else-wants w ↦ grind (arith, common_steps) ]
