-- `judge::start::can_begin` meets its contract: the tests are those of the definition.
use mathlib.Core.Path.{sym, ◌∙◌}
use Rattle.rules.specs.Sound.{range_rule}
use Rattle.rules.proofs.Kept.Rules.{reads}
use Rattle.rules.proofs.Kept.Sound.{range_of}
use Rattle.judge.proofs.start.can_begin.Goals as goal

pub words_needed-requires : goal.words_needed-requires
words_needed-requires c = range_of c.args.k ((reads (range_rule c.args.k)).0 (sym c.ranged.ensures ∙ c.if-ranged.true))

pub bytes_needed-requires : goal.bytes_needed-requires
bytes_needed-requires c =
    range_of c.args.k ((reads (range_rule c.args.k)).0 (sym c.ranged.ensures ∙ c.if-ranged.true))

pub returns-then-ranged : goal.returns-then-ranged
returns-then-ranged c = rw (← c.ranged.ensures, c.if-ranged.true, c.words_needed.ensures, c.bytes_needed.ensures)

pub returns : goal.returns
returns c = rw (← c.ranged.ensures, c.if-ranged.false)
