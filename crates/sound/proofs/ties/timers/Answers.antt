-- `sound::ties::timers` meets its contract.
use native.Mathlib.Omega.{arith}
use mathlib.Core.Path.{◌≡◌, ◌∙◌}
use lib.Dec.{lit<}
use Rattle.rules.proofs.Kept.Rules.{all_more, all_none, and_same}
use Rattle.sound.proofs.TieLaws.{timers-same}
use Rattle.tables.specs.Columns.{DUE, INTERVAL, TIMER-AGE, TIMER-OWNER}
use Rattle.tables.specs.State.{view}
use Rattle.tables.proofs.ViewLaws.{view-full}
use Rattle.sound.proofs.ties.timers.Goals as goal

pub loop-e-init : goal.loop-e-init
loop-e-init c = rw all_none

pub bounds-owner-e : goal.bounds-owner-e
bounds-owner-e c = let a = c.args in rw c.column-owner.ensures (omega (arith, view-full a.k a.t.now a.p.now c.requires.0.words TIMER-OWNER (lit< tt)))

pub bounds-age-e : goal.bounds-age-e
bounds-age-e c = let a = c.args in rw c.column-age.ensures (omega (arith, view-full a.k a.t.now a.p.now c.requires.0.words TIMER-AGE (lit< tt)))

pub bounds-due-e : goal.bounds-due-e
bounds-due-e c = let a = c.args in rw c.column-due.ensures (omega (arith, view-full a.k a.t.now a.p.now c.requires.0.words DUE (lit< tt)))

pub bounds-interval-e : goal.bounds-interval-e
bounds-interval-e c = let a = c.args in rw c.column-interval.ensures (omega (arith, view-full a.k a.t.now a.p.now c.requires.0.words INTERVAL (lit< tt)))

pub loop-e-preserved : goal.loop-e-preserved
loop-e-preserved c = rw all_more (and_same c.loop-e.invariant c.timer_ok-ok.ensures)

pub returns : goal.returns
returns c =
    let a = c.args in
    let q : c.loop-e.e ≡ a.k.timers = omega arith in
    (rw (q, c.column-interval.ensures, c.column-due.ensures, c.column-age.ensures, c.column-owner.ensures) at c.loop-e.invariant) ∙ timers-same (view a.k a.t.now a.p.now) c.requires.1 a.k.timers
