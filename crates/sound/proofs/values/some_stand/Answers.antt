-- `sound::values::some_stand` meets its contract.
use lib.Dec.{lit<}
use Rattle.tables.specs.Columns.{ISSUE}
use Rattle.tables.specs.State.{view}
use Rattle.tables.proofs.ViewLaws.{view-full}
use Rattle.sound.proofs.MarkLaws.{issue-listed}
use Rattle.sound.proofs.ValueLaws.{some-told}
use Rattle.sound.proofs.values.some_stand.Goals as goal

pub mark_first_up-once-requires : goal.mark_first_up-once-requires
mark_first_up-once-requires c =
    let a = c.args in
    let b = issue-listed a.k a.t.now a.p.now c.requires.0 c.requires.1.0 c.requires.1.1 c.requires.1.2 c.column.ensures in
    (b.0, b.1, b.2)

pub returns : goal.returns
returns c =
    let a = c.args in
    some-told a.k (view a.k a.t.now a.p.now) c.requires.1.1 (view-full a.k a.t.now a.p.now c.requires.0.words ISSUE (lit< tt)) (rw (c.column.ensures, c.none-seen.ensures) at c.mark_first_up-once.ensures) c.values_ok-values.ensures c.crowds-crowds.ensures
