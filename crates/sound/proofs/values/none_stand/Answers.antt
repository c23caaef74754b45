-- `sound::values::none_stand` meets its contract.
use native.Mathlib.Omega.{arith}
use mathlib.Core.Path.{◌∙◌}
use lib.Dec.{lit<}
use Rattle.rules.proofs.Kept.Rules.{and_same}
use Rattle.tables.specs.Columns.{ISSUE, PUBLISHED, READERS, VALUE-BUS}
use Rattle.tables.specs.State.{view}
use Rattle.tables.proofs.ViewLaws.{view-full}
use Rattle.sound.proofs.ValueLaws.{none_told}
use Rattle.sound.proofs.values.none_stand.Goals as goal

pub zero_from-buses-requires : goal.zero_from-buses-requires
zero_from-buses-requires c =
    let a = c.args in
    (omega arith, rw c.column.ensures (omega (arith, view-full a.k a.t.now a.p.now c.requires.0.words VALUE-BUS (lit< tt))))

pub zero_from-readers-requires : goal.zero_from-readers-requires
zero_from-readers-requires c =
    let a = c.args in
    (omega arith, rw c.column-2.ensures (omega (arith, view-full a.k a.t.now a.p.now c.requires.0.words READERS (lit< tt))))

pub zero_from-published-requires : goal.zero_from-published-requires
zero_from-published-requires c =
    let a = c.args in
    (omega arith, rw c.column-3.ensures (omega (arith, view-full a.k a.t.now a.p.now c.requires.0.words PUBLISHED (lit< tt))))

pub zero_from-row-requires : goal.zero_from-row-requires
zero_from-row-requires c =
    let a = c.args in
    (omega arith, rw c.column-4.ensures (omega (arith, view-full a.k a.t.now a.p.now c.requires.0.words ISSUE (lit< tt))))

pub returns : goal.returns
returns c =
    let a = c.args in
    let v = view-full a.k a.t.now a.p.now c.requires.0.words in
    and_same
    (and_same (rw c.column.ensures at c.zero_from-buses.ensures) (rw c.column-2.ensures at c.zero_from-readers.ensures))
    (and_same (rw c.column-3.ensures at c.zero_from-published.ensures) (rw c.column-4.ensures at c.zero_from-row.ensures))
    ∙ none_told a.k (view a.k a.t.now a.p.now) (v VALUE-BUS (lit< tt)) (v ISSUE (lit< tt)) c.requires.1
