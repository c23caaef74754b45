-- `sound::marks::resting` meets its contract.
use native.Mathlib.Omega.{arith}
use Prim.Native.Nat.{ℕ, ◌<◌, ◌+◌, ◌*◌}
use mathlib.Core.Bool.{Bool}
use Rattle.pools.specs.Bits.{WORD-BITS}
use Rattle.sound.specs.Marks.{rests}
use Rattle.sound.proofs.MarkLaws.{flag_fits, flag_more}
use Rattle.sound.proofs.marks.resting.Goals as goal

pub loop-i-preserved : goal.loop-i-preserved
loop-i-preserved c =
    let l = c.loop-i in
    let a = c.args in
    let f : ℕ → Bool = λ i. rests a.states.now (WORD-BITS * a.j + i) in
    let m : l.i < WORD-BITS = omega (arith, c.in_word-few.ensures) in
    rw c.from.ensures (flag_fits f l.i l.word m l.invariant.0, flag_more f l.i l.word m l.invariant.0 l.invariant.1)
