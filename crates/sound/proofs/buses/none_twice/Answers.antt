-- `sound::buses::none_twice` meets its contract.
use native.Mathlib.Omega.{arith}
use lib.Dec.{eqb}
use Prim.Native.Nat.{ℕ}
use mathlib.Core.Path.{refl, ◌∙◌}
use lib.ListN.{get_or, length-set}
use Rattle.rules.proofs.Kept.Rules.{all_more, all_none, and_same}
use Rattle.sound.proofs.JoinLaws.{twice}
use Rattle.sound.proofs.BusLaws.{stamped_none, stamped_more}
use Rattle.sound.proofs.buses.none_twice.Goals as goal

pub loop-n-init : goal.loop-n-init
loop-n-init c = (refl, rw all_none, stamped_none c.args.seats.now c.requires.2)

pub loop-n-preserved : goal.loop-n-preserved
loop-n-preserved c =
    let l = c.loop-n in
    let seats = c.args.seats.now in (
      length-set {A = ℕ} l.stamps (get_or seats l.n 0) c.args.stamp ∙ l.invariant.0,
      rw all_more (and_same l.invariant.1 (rw (twice (eqb (get_or seats l.n 0) 0), l.invariant.2.new (get_or seats l.n 0)))),
      stamped_more seats l.n (omega (arith, l.invariant.0, c.requires.1 l.n (omega arith))) l.invariant.2,
    )
