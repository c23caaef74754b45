-- `sound::marks::Marks::mark_part_up` meets its contract.
use mathlib.Core.Path.{sym, ◌∙◌}
use Rattle.sound.proofs.MarkLaws.{none_named}
use Rattle.sound.proofs.marks.Marks.mark_part_up.Goals as goal

pub returns-then-zero_from : goal.returns-then-zero_from
returns-then-zero_from c = none_named c.args.list.now c.args.self.now.bits (sym c.if-zero_from.true ∙ c.zero_from.ensures)
