-- The mailbox is being emptied, and i arrivals were passed.
use native.Mathlib.Omega.{arith}
use Rattle.tables.specs.Columns.{ARRIVAL, ARRIVED}
use Rattle.tables.specs.State.{view}
use Rattle.tables.proofs.ViewLaws.{view-full}
use Rattle.actions.proofs.DropLaws.{pass_start, pass_turn, pass_end}
use Rattle.actions.proofs.dropping.drop_all.Goals as goal

pub loop-i-init : goal.loop-i-init
loop-i-init c =
    let a = c.args in
    let long = view-full a.k a.t.now a.p.now c.requires.0.words in
    let z = pass_start (view a.k a.t.now a.p.now) a.a c.get-n.result c.get-n.ensures (omega (arith, c.get-n.ensures, c.requires.2, long ARRIVAL (omega arith))) (omega (arith, long ARRIVED (omega arith))) in
    (c.requires.0, z)

pub loop-i-preserved : goal.loop-i-preserved
loop-i-preserved c =
    let f = c.sift-kept in
    let z = pass_turn c.loop-i.invariant.1 (omega arith) f.result f.ensures.0 in
    (f.ensures.1.room, rw f.ensures.1.is z)

pub returns : goal.returns
returns c =
    let d = c.cut_back.ensures in
    let z = c.loop-i.invariant.1 in
    let g = c.get-n in
    record { is = rw (d.is, z.all, ← g.ensures) (pass_end z (omega arith)); room = d.room }
