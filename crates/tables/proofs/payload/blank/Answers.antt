-- `tables::payload::blank` meets its contract.
use Rattle.tables.proofs.ViewLaws.{blank-left}
use Rattle.tables.proofs.payload.blank.Goals as goal

pub returns : goal.returns
returns c =
    let a = c.args in
    rw c.zero.ensures (blank-left a.k a.t.now a.p.now c.requires.0 a.d c.requires.1)
