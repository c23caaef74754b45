-- The two columns are lent.
use native.Mathlib.Omega.{arith}
use lib.Dec.{lit<}
use Rattle.tables.specs.Columns.{LINK-ONE, LINK-TWO}
use Rattle.tables.proofs.ViewLaws.{view-full}
use Rattle.endings.proofs.partners.note_partners.Goals as goal

pub partners_in-requires : goal.partners_in-requires
partners_in-requires c =
    let a = c.args in
    let f = view-full a.k a.t.now a.p.now c.requires.0.words in
    (c.requires.0.caps.few_links, rw c.column.ensures (omega (arith, f LINK-ONE (lit< tt))), rw c.column-2.ensures (omega (arith, f LINK-TWO (lit< tt))), c.requires.1)
