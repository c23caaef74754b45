-- The numbers so far, joined, are 0 where their bytes are.
use native.Mathlib.Omega.{arith}
use Prim.Native.Nat.{ℕ, ◌+◌, ◌*◌}
use mathlib.Core.Path.{◌≡◌, ap, ◌∙◌}
use lib.Dec.{eqb}
use Rattle.rules.specs.Sound.{zeros}
use Rattle.rules.proofs.Kept.Rules.{all_none, and_same}
use Rattle.sound.proofs.JoinLaws.{or-test}
use Rattle.sound.proofs.ZeroLaws.{field-zero, zeros-after}
use Rattle.sound.proofs.zeros.joined.Goals as goal

pub loop-i-init : goal.loop-i-init
unfolding zeros
loop-i-init c = rw all_none

pub loop-i-preserved : goal.loop-i-preserved
loop-i-preserved c =
    let l = c.loop-i in
    let a = c.args in
    let e : 8 * (l.i + 1) ≡ 8 * l.i + 8 = omega arith in
    rw (or-test, e, zeros-after) (and_same l.invariant (ap (λ (x : ℕ). eqb x 0) c.load64-any.ensures ∙ field-zero 8 _ _))
