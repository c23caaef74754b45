-- `sound::buses::Seating::stamped_ok` meets its contract.
use Prim.Native.Nat.{◌+◌, ◌-◌, ◌*◌}
use native.Mathlib.Omega.{arith}
use mathlib.Core.Path.{◌≡◌, refl, ◌∙◌}
use Rattle.rules.proofs.Kept.Rules.{all_more, all_none, and_same}
use Rattle.tables.specs.Limits.{MOST-SEATS}
use Rattle.sound.proofs.buses.Seating.stamped_ok.Goals as goal

pub loop-b-init : goal.loop-b-init
loop-b-init c = (refl, λ i. omega (arith, c.requires.1 i), rw all_none)

pub loop-b-preserved : goal.loop-b-preserved
loop-b-preserved c =
    let l = c.loop-b in
    let from = MOST-SEATS * l.b in
    let e : from + MOST-SEATS - from ≡ MOST-SEATS = omega arith in
    (c.row_ok-ok.auto.stamps ∙ l.invariant.0, c.row_ok-ok.ensures.1, rw all_more (and_same l.invariant.2 (rw e at c.row_ok-ok.ensures.0)))
