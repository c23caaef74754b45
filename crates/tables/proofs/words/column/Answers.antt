-- `tables::words::column` meets its contract.
use Rattle.tables.proofs.ViewLaws.{column-lent}
use native.Mathlib.Omega.{arith}
use mathlib.Core.Path.{refl}
use Rattle.tables.proofs.words.column.Goals as goal

pub returns : goal.returns
returns c =
    let a = c.args in
    let o = c.words_of in
    column-lent a.k a.t.now a.p.now c.requires.0 a.c o.result.start _ o.result.end c.requires.1 o.ensures.0 (omega arith) refl
