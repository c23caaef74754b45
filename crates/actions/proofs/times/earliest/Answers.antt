-- The two columns are lent.
use Rattle.tables.proofs.ViewLaws.{view-full}
use Rattle.actions.proofs.times.earliest.Goals as goal

pub earliest_in-requires : goal.earliest_in-requires
earliest_in-requires c =
    let a = c.args in
    let f = view-full a.k a.t.now a.p.now c.requires.0.words in
    (rw (c.column.ensures, f a.used c.requires.1) c.requires.3, rw (c.column-2.ensures, f a.time c.requires.2) c.requires.4)
