-- The data entries before d were passed.
use mathlib.Core.Path.{refl}
use Rattle.tables.specs.State.{view}
use Rattle.actions.specs.Leaving.{forget_by}
use Rattle.actions.proofs.LeaveLaws.{forget_by-next}
use Rattle.actions.proofs.leaving.forget_by.Goals as goal

pub loop-d-init : goal.loop-d-init
unfolding forget_by
loop-d-init c = (c.requires.0, refl)

pub loop-d-preserved : goal.loop-d-preserved
loop-d-preserved c =
    let d = c.strike_by.ensures in
    let a = c.args in
    (d.room, rw (d.is, c.loop-d.invariant.1, forget_by-next a.seats.now c.loop-d.d (view a.k a.t.now a.p.now)))
