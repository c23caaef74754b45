-- `sound::every::slots` meets its contract.
use native.Mathlib.Omega.{arith}
use mathlib.Core.Path.{◌∙◌}
use lib.Dec.{lit<}
use Rattle.rules.proofs.Kept.Rules.{and_same}
use Rattle.sound.proofs.ListLaws.{list_at}
use Rattle.sound.proofs.SlotLaws.{slot_parts}
use Rattle.tables.specs.Columns.{QUEUE}
use Rattle.tables.specs.State.{view}
use Rattle.tables.proofs.ViewLaws.{view-full}
use Rattle.sound.proofs.every.slots.Goals as goal

pub list_ok-list-requires : goal.list_ok-list-requires
list_ok-list-requires c =
    rw c.column.ensures (omega (arith, view-full c.args.k c.args.t.now c.args.p.now c.requires.words QUEUE (lit< tt)))

pub returns : goal.returns
returns c =
    let a = c.args in
    let v = view a.k a.t.now a.p.now in
    and_same c.owns-owns.ensures (c.list_ok-list.ensures ∙ list_at a.k.actors c.get-count.ensures c.column.ensures)
    ∙ slot_parts a.k v a.k.actors
