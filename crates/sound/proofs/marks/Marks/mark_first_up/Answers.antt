-- `sound::marks::Marks::mark_first_up` meets its contract.
use Rattle.sound.proofs.MarkLaws.{first-all}
use Rattle.sound.proofs.marks.Marks.mark_first_up.Goals as goal

pub returns : goal.returns
returns c = first-all c.args.list.now c.args.n c.requires.2 c.mark_each_up.ensures
