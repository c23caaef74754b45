-- `sound::values::empty_in` meets its contract.
use native.Mathlib.Omega.{arith}
use Prim.Native.Nat.{ℕ}
use mathlib.Core.Bool.{Bool}
use lib.Dec.{eqb}
use lib.ListN.{get_or}
use Rattle.sound.proofs.MarkLaws.{flag_fits, flag_more}
use Rattle.sound.proofs.values.empty_in.Goals as goal

pub loop-i-preserved : goal.loop-i-preserved
loop-i-preserved c =
    let f : ℕ → Bool = λ i. eqb (get_or c.args.seats.now i 0) 0 in
    let l = c.loop-i in
    rw c.from.ensures (flag_fits f l.i l.mask (omega arith) l.invariant.0, flag_more f l.i l.mask (omega arith) l.invariant.0 l.invariant.1)
