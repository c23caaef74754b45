-- The words of the arrivals after those kept and before the i-th are 0.
use mathlib.Core.Path.{◌≡◌}
use native.Mathlib.Omega.{arith}
use Rattle.tables.specs.Columns.{ARRIVAL, ARRIVED}
use Rattle.tables.specs.State.{head, view}
use Rattle.tables.proofs.ViewLaws.{view-full}
use Rattle.actions.proofs.DropLaws.{swept_none, swept-turn, swept_all}
use Rattle.actions.proofs.dropping.cut_back.Goals as goal

pub loop-i-init : goal.loop-i-init
loop-i-init c =
    let a = c.args in
    (c.requires.0, swept_none (view a.k a.t.now a.p.now) a.kept)

pub loop-i-preserved : goal.loop-i-preserved
loop-i-preserved c =
    let d = c.put.ensures in
    let l = c.loop-i in
    let a = c.args in
    (d.room, rw (d.is, l.invariant.1) (swept-turn (view a.k a.t.now a.p.now) a.kept l.i (omega arith)))

pub returns : goal.returns
returns c =
    let d = c.put-2.ensures in
    let l = c.loop-i in
    let a = c.args in
    let s = view a.k a.t.now a.p.now in
    let e : l.i ≡ head s ARRIVED = omega (arith, c.get-n.ensures, c.requires.1.0) in
    record { is = rw (d.is, l.invariant.1, e) (swept_all s a.kept c.requires.1.0 (omega (arith, c.requires.1.1, view-full a.k a.t.now a.p.now c.requires.0.words ARRIVAL (omega arith)))); room = d.room }
