-- `sound::lists::below` meets its contract.
use native.Mathlib.Omega.{arith}
use Prim.Native.Nat.{ℕ}
use mathlib.Core.Path.{◌≡◌, ap}
use lib.Dec.{ltb}
use lib.ListN.{length-take}
use lib.Seq.{get_or-take}
use Rattle.rules.proofs.Kept.Rules.{all_more, all_none, and_same}
use Rattle.sound.proofs.lists.below.Goals as goal

pub loop-x-init : goal.loop-x-init
loop-x-init c = rw all_none

pub loop-x-preserved : goal.loop-x-preserved
loop-x-preserved c =
    let a = c.args in
    let l = c.loop-x in
    rw all_more (and_same l.invariant (ap (λ (x : ℕ). ltb x a.n) (get_or-take a.m a.s.now l.x-index 0 (omega (arith, length-take a.m a.s.now)))))

pub returns : goal.returns
returns c =
    let a = c.args in
    let q : c.loop-x.x-index ≡ a.m = omega (arith, length-take a.m a.s.now, c.requires) in
    rw q at c.loop-x.invariant
