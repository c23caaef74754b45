-- Watcher and id are those of before the monitor ended.
use Prim.Native.Nat.{suc}
use mathlib.Core.Path.{◌≡◌}
use mathlib.Core.Bool.{true}
use native.Mathlib.Omega.{arith}
use lib.Dec.{eqb}
use borrow.Author.Tests.{eq-eqb}
use Rattle.tables.specs.Columns.{WATCHED}
use Rattle.tables.specs.State.{at, view}
use Rattle.rules.proofs.Kept.Exit.{cut_monitor_yes}
use Rattle.endings.specs.Counted.{told_of}
use Rattle.endings.proofs.EndingLaws.{going_short, unwatch-short, watcher_below}
use Rattle.endings.proofs.notices.Leaver.cut_eye.Goals as goal

pub tell-requires : goal.tell-requires
tell-requires c = let a = c.args in
    let h = c.requires in
    let s = view a.k a.t.now a.p.now in
    let w = watcher_below a.k a.self.slot a.self.id s h.1.0 a.i h.1.1 h.1.2 in
    let d = c.unwatch in
    (d.ensures.room, (rw d.ensures.is (unwatch-short s a.i (going_short a.k a.self.slot a.self.id s h.1.0)), omega (arith, c.get-watcher.ensures, w.1), h.1.3))

pub returns : goal.returns
returns c = let a = c.args in
    let s = view a.k a.t.now a.p.now in
    let q : eqb (at s WATCHED a.i) (suc a.self.slot) ≡ true = eq-eqb (at s WATCHED a.i) (suc a.self.slot) c.requires.1.2 in
    rw (cut_monitor_yes a.k a.self.slot a.self.id a.self.reason a.i (told_of a.n s) q) (rw (c.unwatch.ensures.is, c.get-watcher.ensures, c.get-age.ensures) at c.tell.ensures)
