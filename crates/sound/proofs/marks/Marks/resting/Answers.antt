-- `sound::marks::Marks::resting` meets its contract.
use Rattle.sound.proofs.MarkLaws.{rest_all}
use Rattle.sound.proofs.marks.Marks.resting.Goals as goal

pub returns : goal.returns
returns c =
    rest_all c.requires.1 c.resting-a.ensures c.resting-b.ensures c.resting-c.ensures c.resting-d.ensures
