-- `tables::payload::copy` meets its contract.
use native.Mathlib.Omega.{arith}
use mathlib.Core.Path.{refl}
use lib.ListN.{length-set}
use lib.Seq.{take_all}
use Rattle.tables.proofs.LoopLaws.{copy-turn}
use Rattle.tables.proofs.payload.copy.Goals as goal

pub loop-i-init : goal.loop-i-init
loop-i-init c = (refl, refl)

pub loop-i-preserved : goal.loop-i-preserved
loop-i-preserved c =
    let l = c.loop-i in
    (simp length-set l.invariant.0, rw l.invariant.1 (copy-turn c.args.q.now c.args.from c.args.m.now l.i (omega arith)))

pub returns : goal.returns
returns c =
    let l = c.loop-i in
    let e = take_all l.i c.args.m.now (omega arith) in
    rw e at l.invariant.1
