-- The entries below d keep their rule.
use native.Mathlib.Omega.{arith}
use lib.Dec.{lit<}
use Rattle.rules.proofs.Kept.Rules.{all_more, all_none, and_same}
use Rattle.tables.specs.Columns.{LENGTH, SENDER, VALUE-BUS}
use Rattle.tables.proofs.ViewLaws.{view-full, view_full_p}
use Rattle.sound.proofs.messages.datas.Goals as goal

pub loop-d-init : goal.loop-d-init
loop-d-init c = rw all_none

pub bounds-buses-d : goal.bounds-buses-d
bounds-buses-d c =
    let a = c.args in rw c.column-buses.ensures (omega (arith, view-full a.k a.t.now a.p.now c.requires.words VALUE-BUS (lit< tt)))

pub bounds-senders-d : goal.bounds-senders-d
bounds-senders-d c =
    let a = c.args in rw c.column-senders.ensures (omega (arith, view-full a.k a.t.now a.p.now c.requires.words SENDER (lit< tt)))

pub bounds-lengths-d : goal.bounds-lengths-d
bounds-lengths-d c =
    let a = c.args in rw c.column-lengths.ensures (omega (arith, view-full a.k a.t.now a.p.now c.requires.words LENGTH (lit< tt)))

pub invariant_of-entry : goal.invariant_of-entry
invariant_of-entry c =
    let a = c.args in rw c.area_of-area.ensures (omega (arith, view_full_p a.k a.t.now a.p.now c.requires.bytes))

pub loop-d-preserved : goal.loop-d-preserved
loop-d-preserved c = rw all_more (and_same c.loop-d.invariant c.entry_ok-ok.ensures)
