-- `tables::free::lowest_slot` meets its contract.
use Rattle.tables.proofs.ViewLaws.{view-full}
use Rattle.tables.proofs.free.lowest_slot.Goals as goal

pub returns : goal.returns
returns c =
    let a = c.args in
    rw (c.column.ensures, c.column-2.ensures, view-full a.k a.t.now a.p.now c.requires.0.words a.words c.requires.1) at c.lowest_usable.ensures
