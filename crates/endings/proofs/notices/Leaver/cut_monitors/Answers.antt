-- State and counts are those with the monitors below i cut.
use Prim.Native.Nat.{suc, ◌≤◌}
use mathlib.Core.Path.{◌≡◌, ap, refl}
use mathlib.Core.Bool.{false}
use native.Mathlib.Omega.{arith}
use lib.Dec.{eqb}
use borrow.Author.Tests.{ne_eqb}
use Rattle.tables.specs.Columns.{WATCHED}
use Rattle.tables.specs.Limits.{MOST-MONITORS}
use Rattle.tables.specs.State.{at, view}
use Rattle.rules.specs.Calls.{Told, cut_monitors, told}
use Rattle.rules.specs.Good.{Going}
use Rattle.rules.proofs.Kept.Exit.{cut_monitor_no}
use Rattle.endings.specs.Counted.{told_of}
use Rattle.endings.proofs.EndingLaws.{cut_step, going_small, monitor-more, monitors_going, tells_told}
use Rattle.endings.proofs.notices.Leaver.cut_monitors.Goals as goal
use Rattle.endings.proofs.notices.Leaver.cut_monitors.Goals.{then-get-self, else-get-self}

pub loop-i-init : goal.loop-i-init
unfolding cut_monitors
loop-i-init c = let h = c.default-n.ensures in (c.requires.0, rw (h.0, h.1) refl, record { sent = omega (arith, h.0); lost = omega (arith, h.1) })

pub cut_eye-n-requires : goal.cut_eye-n-requires
cut_eye-n-requires c = let a = c.args in
    let l = c.loop-i in
    let h = c.requires in
    let s = view a.k a.t.now a.p.now in
    let i : l.i ≤ a.k.monitors = omega (arith, c.loop-i-test.true) in
    let e : view a.k l.t l.p ≡ (cut_monitors a.k a.self.slot a.self.id a.self.reason l.i (told 0 0 s)).state = ap (λ (u : Told). u.state) l.invariant.1 in
    let g : Going a.k a.self.slot a.self.id (view a.k l.t l.p) = rw e (monitors_going a.k a.self.slot a.self.id s h.1 a.self.reason l.i i) in
    let o : l.i ≤ MOST-MONITORS = omega (arith, h.0.caps.few_monitors) in
    (l.invariant.0, (g, omega arith, omega (arith, c.get.ensures, c.if-get-self.true), record { sent = omega (arith, l.invariant.2.sent); lost = omega (arith, l.invariant.2.lost) }))

pub overflow_add-self : goal.overflow_add-self
overflow_add-self c = omega (arith, going_small c.requires.1)

pub loop-i-preserved : goal.loop-i-preserved
loop-i-preserved c = let a = c.args in
    let l = c.loop-i in
    let s = view a.k a.t.now a.p.now in
    let x = view a.k l.t l.p in
    let v = told_of l.n x in
    let e = cut_step a.k a.self.slot a.self.id a.self.reason (told 0 0 s) l.i in
    elim c.if-get-self.branch [
      | then-get-self w ↦
          let d = w.cut_eye-n in
          let m = monitor-more a.k a.self.slot a.self.id a.self.reason v l.i in
          rw (w.t-is, w.p-is, w.n-is) (
            d.ensures.left.room,
            rw (e, ← l.invariant.1) (tells_told d.ensures),
            record { sent = omega (arith, d.ensures.sent, m.0, l.invariant.2.sent); lost = omega (arith, d.ensures.lost, m.1, l.invariant.2.lost) },
          )
      | else-get-self w ↦
          let q : eqb (at x WATCHED l.i) (suc a.self.slot) ≡ false = ne_eqb (at x WATCHED l.i) (suc a.self.slot) (λ z. omega (arith, c.get.ensures, w.if-get-self.false)) in
          let o = cut_monitor_no a.k a.self.slot a.self.id a.self.reason l.i v q in
          rw (w.t-is, w.p-is, w.n-is) (
            l.invariant.0,
            rw (e, ← l.invariant.1, o) refl,
            record { sent = omega (arith, l.invariant.2.sent); lost = omega (arith, l.invariant.2.lost) },
          )
    ]
