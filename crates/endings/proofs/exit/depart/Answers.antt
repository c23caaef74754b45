-- The steps one after the other, each of which leaves bare what the next needs, and then the slot.
use native.Mathlib.Omega.{arith}
use Rattle.tables.specs.State.{view}
use Rattle.rules.proofs.Ends.Stepwise.{midway_none}
use Rattle.endings.proofs.EndingLaws.{all_done, alive-standing, ended, none_done, one_done}
use Rattle.endings.proofs.exit.depart.Goals as goal

pub clear-requires : goal.clear-requires
clear-requires c =
    let a = c.args in
    let h = c.requires in
    (h.0, midway_none a.k a.a _ a.reason (view a.k a.t.now a.p.now) (record { good = h.1; there = h.2; id = rw c.get.ensures }))

pub vacate-requires : goal.vacate-requires
vacate-requires c =
    let a = c.args in
    let d = c.quit.ensures in
    let e = d.1.ending in
    (d.0.left.room, alive-standing a.k (view a.k c.quit.new.t c.unsee-monitors.new.p) a.a e.good e.there)

pub returns : goal.returns
returns c =
    let a = c.args in
    let s = view a.k a.t.now a.p.now in
    let d1 = one_done (none_done s) c.clear.ensures.0 in
    let d2 = one_done d1 c.unlink-links.ensures.0.0 in
    let d3 = one_done d2 c.unsee-monitors.ensures.0.0 in
    let d4 = one_done d3 c.unwatch.ensures.0 in
    let d5 = one_done d4 c.disarm.ensures.0 in
    let d6 = one_done d5 c.quit.ensures.0 in
    let e = rw c.get.ensures at (all_done d6) in
    let v = c.vacate.ensures in
    ended a.k a.a a.reason s e (record { sent = omega (arith, c.add.ensures.0); lost = omega (arith, c.add.ensures.1); left = record { is = v.is; room = v.room } })
