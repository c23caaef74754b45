-- `sound::values::values_ok` meets its contract.
use native.Mathlib.Omega.{arith}
use lib.Dec.{lit<}
use Rattle.tables.specs.Columns.{SEAT}
use Rattle.tables.proofs.ViewLaws.{view-full}
use borrow.Author.Rules.{rules}
use Rattle.sound.proofs.values.values_ok.Goals as goal

pub empties-requires : goal.empties-requires
empties-requires c =
    let a = c.args in
    (omega (arith, c.get-n.ensures, c.requires.1.1.1.1), rw c.column.ensures (omega (arith, view-full a.k a.t.now a.p.now c.requires.0.words SEAT (lit< tt))), search rules)
