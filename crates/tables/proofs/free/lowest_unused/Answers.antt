-- `tables::free::lowest_unused` meets its contract.
use Rattle.tables.proofs.ViewLaws.{view-full}
use Rattle.tables.proofs.free.lowest_unused.Goals as goal

pub returns : goal.returns
returns c =
    let a = c.args in
    rw (c.column.ensures, view-full a.k a.t.now a.p.now c.requires.0.words a.c c.requires.1) at c.lowest_unused.ensures
