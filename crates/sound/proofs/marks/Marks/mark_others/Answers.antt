-- `sound::marks::Marks::mark_others` meets its contract.
use mathlib.Core.Path.{refl}
use Rattle.tables.specs.Columns.{HAND}
use Rattle.tables.specs.State.{view}
use Rattle.sound.proofs.MarkLaws.{head_of, issue-listed, issue-of, owner_below}
use Rattle.sound.proofs.marks.Marks.mark_others.Goals as goal

pub mark_each_up-hands-requires : goal.mark_each_up-hands-requires
mark_each_up-hands-requires c = owner_below c.args.k c.args.t.now c.args.p.now c.requires.0 c.requires.1 HAND refl c.column.ensures

pub mark_first_up-values-requires : goal.mark_first_up-values-requires
mark_first_up-values-requires c =
    let a = c.args in
    let v = view a.k a.t.now a.p.now in
    issue-listed a.k a.t.now a.p.now c.requires.0 (head_of a.k v c.requires.1) (issue-of a.k v c.requires.1) c.get-n.ensures c.column-2.ensures
