-- `tables::payload::write` meets its contract.
use Rattle.tables.proofs.ViewLaws.{write-left}
use Rattle.tables.proofs.payload.write.Goals as goal

pub returns : goal.returns
returns c =
    let a = c.args in
    rw c.copy.ensures (write-left a.k a.t.now a.p.now c.requires.0 a.d a.i a.m.now c.requires.1 c.requires.2)
