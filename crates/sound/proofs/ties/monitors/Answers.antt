-- `sound::ties::monitors` meets its contract.
use native.Mathlib.Omega.{arith}
use mathlib.Core.Path.{◌≡◌, ◌∙◌}
use lib.Dec.{lit<}
use Rattle.rules.proofs.Kept.Rules.{all_more, all_none, and_same}
use Rattle.sound.proofs.TieLaws.{monitors-same}
use Rattle.tables.specs.Columns.{MONITOR-AGE, WATCHED, WATCHER}
use Rattle.tables.specs.State.{view}
use Rattle.tables.proofs.ViewLaws.{view-full}
use Rattle.sound.proofs.ties.monitors.Goals as goal

pub loop-e-init : goal.loop-e-init
loop-e-init c = rw all_none

pub bounds-watcher-e : goal.bounds-watcher-e
bounds-watcher-e c = let a = c.args in rw c.column-watcher.ensures (omega (arith, view-full a.k a.t.now a.p.now c.requires.0.words WATCHER (lit< tt)))

pub bounds-watched-e : goal.bounds-watched-e
bounds-watched-e c = let a = c.args in rw c.column-watched.ensures (omega (arith, view-full a.k a.t.now a.p.now c.requires.0.words WATCHED (lit< tt)))

pub bounds-age-e : goal.bounds-age-e
bounds-age-e c = let a = c.args in rw c.column-age.ensures (omega (arith, view-full a.k a.t.now a.p.now c.requires.0.words MONITOR-AGE (lit< tt)))

pub loop-e-preserved : goal.loop-e-preserved
loop-e-preserved c = rw all_more (and_same c.loop-e.invariant c.monitor_ok-ok.ensures)

pub returns : goal.returns
returns c =
    let a = c.args in
    let q : c.loop-e.e ≡ a.k.monitors = omega arith in
    (rw (q, c.column-age.ensures, c.column-watched.ensures, c.column-watcher.ensures) at c.loop-e.invariant) ∙ monitors-same (view a.k a.t.now a.p.now) c.requires.1 a.k.monitors
