-- The mask is that of the seats before n.
use mathlib.Core.Path.{refl}
use Rattle.tables.specs.State.{view}
use Rattle.rules.specs.Buses.{audience}
use Rattle.actions.proofs.BusLaws.{audience-next}
use Rattle.actions.proofs.buses.audience.Goals as goal

pub loop-n-init : goal.loop-n-init
unfolding audience
loop-n-init c = refl

pub loop-n-preserved : goal.loop-n-preserved
loop-n-preserved c =
    let a = c.args in
    let s = view a.k a.t.now a.p.now in
    rw (audience-next s a.b c.loop-n.n, c.admit-mask.ensures, c.loop-n.invariant)
