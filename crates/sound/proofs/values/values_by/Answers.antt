-- `sound::values::values_by` meets its contract.
use native.Mathlib.Omega.{arith}
use mathlib.Core.Path.{◌≡◌, refl, ◌∙◌}
use lib.Dec.{lit<}
use Rattle.rules.proofs.Kept.Rules.{all_more, all_none, and_same}
use Rattle.tables.specs.Columns.{PUBLISHED, READERS, VALUE-BUS}
use Rattle.tables.specs.State.{view}
use Rattle.tables.proofs.ViewLaws.{view-full}
use Rattle.sound.proofs.ValueLaws.{values_same}
use Rattle.sound.proofs.values.values_by.Goals as goal

pub loop-d-init : goal.loop-d-init
loop-d-init c = rw all_none

pub bounds-buses-d : goal.bounds-buses-d
bounds-buses-d c = let a = c.args in rw c.column-buses.ensures (omega (arith, view-full a.k a.t.now a.p.now c.requires.0.words VALUE-BUS (lit< tt)))

pub bounds-readers-d : goal.bounds-readers-d
bounds-readers-d c = let a = c.args in rw c.column-readers.ensures (omega (arith, view-full a.k a.t.now a.p.now c.requires.0.words READERS (lit< tt)))

pub bounds-published-d : goal.bounds-published-d
bounds-published-d c = let a = c.args in rw c.column-published.ensures (omega (arith, view-full a.k a.t.now a.p.now c.requires.0.words PUBLISHED (lit< tt)))

pub value_ok-ok-requires : goal.value_ok-ok-requires
value_ok-ok-requires c = (omega (arith, c.get-made.ensures, c.requires.1.0.1.1.1), c.requires.1.1.long)

pub loop-d-preserved : goal.loop-d-preserved
loop-d-preserved c = rw all_more (and_same c.loop-d.invariant (rw c.has-named.ensures at c.value_ok-ok.ensures))

pub returns : goal.returns
returns c =
    let a = c.args in
    let q : c.loop-d.d ≡ a.k.datas = omega arith in
    (rw (q, c.column-published.ensures, c.column-readers.ensures, c.column-buses.ensures, c.get-clock.ensures, c.get-made.ensures) at c.loop-d.invariant)
    ∙ values_same (view a.k a.t.now a.p.now) c.requires.1.1 refl a.seen.now.bits a.k.datas
