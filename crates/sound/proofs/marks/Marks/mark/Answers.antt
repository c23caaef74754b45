-- `sound::marks::Marks::mark` meets its contract.
use native.Mathlib.Omega.{arith}
use Rattle.sound.proofs.MarkLaws.{mark-one}
use Rattle.sound.proofs.marks.Marks.mark.Goals as goal

pub returns : goal.returns
returns c =
    let m = c.args.self.now in
    mark-one m.bits c.args.e _ c.power-bit.ensures (omega (arith, m.long, c.requires))
