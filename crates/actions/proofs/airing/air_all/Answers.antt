-- The values before the i-th are still to be looked at.
use native.Mathlib.Omega.{arith}
use Rattle.tables.specs.Columns.{ISSUED}
use Rattle.tables.proofs.ViewLaws.{view-full}
use Rattle.actions.proofs.BusLaws.{airs_turn, airs_end}
use Rattle.actions.proofs.airing.air_all.Goals as goal

pub loop-i-preserved : goal.loop-i-preserved
loop-i-preserved c =
    let d = c.air.ensures in
    let z = c.loop-i.invariant in
    let one = view-full c.args.k c.loop-i.t c.loop-i.p z.0.words ISSUED (omega arith) in
    (d.room, rw d.is (airs_turn z.1 (omega arith) one))

pub returns : goal.returns
returns c =
    record { is = airs_end c.loop-i.invariant.1 (omega arith); room = c.loop-i.invariant.0 }
