-- A timer that fires is due again or ends, and its owner gets a tick.
use native.Mathlib.Omega.{arith}
use Rattle.tables.specs.State.{view}
use Rattle.rules.specs.Calls.{fire}
use Rattle.endings.proofs.EndingLaws.{rearm_room, rearm-short}
use Rattle.endings.proofs.advance.fire.Goals as goal

pub send_tick-requires : goal.send_tick-requires
send_tick-requires c = let a = c.args in
    let f = c.requires.1 in
    let d = c.rearm in
    let s = view a.k a.t.now a.p.now in
    (d.ensures.room, (rw d.ensures.is (rearm_room s a.i a.k f.room), rw d.ensures.is (rearm-short s a.i f.short), omega (arith, c.get-owner.ensures, f.owner)))

pub returns : goal.returns
unfolding fire
returns c = let d = c.send_tick in
    record { is = rw (d.ensures.is, c.rearm.ensures.is, c.get-owner.ensures, c.get-age.ensures); room = d.ensures.room }
