-- The data entries before d were passed.
use mathlib.Core.Path.{refl}
use Rattle.tables.specs.State.{view}
use Rattle.rules.specs.Buses.{forget}
use Rattle.actions.proofs.BusLaws.{forget-next}
use Rattle.actions.proofs.leaving.forget.Goals as goal

pub loop-d-init : goal.loop-d-init
unfolding forget
loop-d-init c = (c.requires.0, refl)

pub loop-d-preserved : goal.loop-d-preserved
loop-d-preserved c =
    let d = c.forget_one.ensures in
    let a = c.args in
    (d.room, rw (d.is, c.loop-d.invariant.1, forget-next (view a.k a.t.now a.p.now) a.b a.n c.loop-d.d))
