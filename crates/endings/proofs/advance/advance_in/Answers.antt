-- The clock is raised, then timers fire, then the overdue wake, then what has reached its age ends.
use Prim.Native.Nat.{◌+◌, ◌≤◌}
use mathlib.Core.Path.{◌≡◌, refl}
use mathlib.Core.Bool.{true, false}
use native.Mathlib.Omega.{arith}
use lib.Dec.{ltb}
use borrow.Author.Tests.{lt-ltb, le-ltb}
use Rattle.tables.specs.Columns.{CLOCK}
use Rattle.tables.specs.Limits.{CLOCK-END, LONGEST}
use Rattle.tables.specs.State.{head, view}
use Rattle.rules.specs.Calls.{ruled}
use Rattle.rules.proofs.Kept.Ready.{good_ready}
use Rattle.rules.proofs.Kept.Clock.{clock_keeps}
use Rattle.rules.proofs.Kept.Clauses.{clock_fits}
use Rattle.endings.proofs.EndingLaws.{fired_late, roused_dated}
use Rattle.endings.proofs.advance.advance_in.Goals as goal

pub returns-then-micros-gt-LONGEST : goal.returns-then-micros-gt-LONGEST
unfolding ruled
returns-then-micros-gt-LONGEST c =
    let u : ltb LONGEST c.args.micros ≡ true = lt-ltb LONGEST c.args.micros (omega arith) in
    rw u (refl, record { is = refl; room = c.requires.room })

pub overflow_add-clock : goal.overflow_add-clock
overflow_add-clock c =
    let a = c.args in
    omega (arith, c.get.ensures, clock_fits (good_ready a.k a.t.now a.p.now c.requires))

pub returns-then-clock-gt-CLOCK_END : goal.returns-then-clock-gt-CLOCK_END
unfolding ruled
returns-then-clock-gt-CLOCK_END c =
    let a = c.args in
    let s = view a.k a.t.now a.p.now in
    let u : ltb LONGEST a.micros ≡ false = le-ltb LONGEST a.micros (omega arith) in
    let v : ltb CLOCK-END (head s CLOCK + a.micros) ≡ true = lt-ltb CLOCK-END (head s CLOCK + a.micros) (omega (arith, c.get.ensures)) in
    rw (u, v) (refl, record { is = refl; room = c.requires.room })

pub fire_all-fired-requires : goal.fire_all-fired-requires
fire_all-fired-requires c =
    let a = c.args in
    let s = view a.k a.t.now a.p.now in
    let g = good_ready a.k a.t.now a.p.now c.requires in
    let e = c.get.ensures in
    let o : head s CLOCK + a.micros ≤ CLOCK-END = omega (arith, e) in
    (c.put.ensures.room, (head s CLOCK, rw (c.put.ensures.is, e) (clock_keeps a.k s a.micros g o)))

pub rouse-requires : goal.rouse-requires
rouse-requires c =
    let a = c.args in
    let s = view a.k a.t.now a.p.now in
    let g = good_ready a.k a.t.now a.p.now c.requires in
    let f = c.fire_all-fired.ensures.1 in
    let e = c.get.ensures in
    let o : head s CLOCK + a.micros ≤ CLOCK-END = omega (arith, e) in
    (f.room, (head s CLOCK, rw (f.is, c.put.ensures.is, e) (fired_late a.k s a.micros g o)))

pub air_all-requires : goal.air_all-requires
air_all-requires c =
    let a = c.args in
    let s = view a.k a.t.now a.p.now in
    let g = good_ready a.k a.t.now a.p.now c.requires in
    let d = c.rouse.ensures in
    let e = c.get.ensures in
    let o : head s CLOCK + a.micros ≤ CLOCK-END = omega (arith, e) in
    (d.room, rw (d.is, c.fire_all-fired.ensures.1.is, c.put.ensures.is, e) (roused_dated a.k s a.micros g o))

pub returns : goal.returns
unfolding ruled
returns c =
    let a = c.args in
    let s = view a.k a.t.now a.p.now in
    let e = c.get.ensures in
    let u : ltb LONGEST a.micros ≡ false = le-ltb LONGEST a.micros (omega arith) in
    let v : ltb CLOCK-END (head s CLOCK + a.micros) ≡ false = le-ltb CLOCK-END (head s CLOCK + a.micros) (omega (arith, e)) in
    let d = c.air_all.ensures in
    let f = c.fire_all-fired.ensures in
    let i = c.put.ensures.is in
    rw (u, v) (rw (f.0, i, e), record { is = rw (d.is, c.rouse.ensures.is, f.1.is, i, e); room = d.room })
