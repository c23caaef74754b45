-- `tables::lists::close_up` meets its contract.
use Prim.Native.Nat.{◌+◌, ◌-◌}
use native.Mathlib.Omega.{arith}
use mathlib.Core.Path.{◌≡◌, refl, ◌∙◌, sym}
use lib.ListN.{length, length-set}
use Rattle.pools.specs.Lists.{without}
use Rattle.pools.proofs.ListLaws.{length_without, without_at}
use Rattle.tables.proofs.LoopLaws.{part-turn, part_rest, part-last, part_without, closed_all}
use Rattle.tables.proofs.lists.close_up.Goals as goal

pub loop-i-init : goal.loop-i-init
loop-i-init c = (refl, part_without c.args.q.now c.args.j c.requires)

pub loop-i-preserved : goal.loop-i-preserved
loop-i-preserved c =
    let d = c.args.q.now in
    let j = c.args.j in
    let l = c.loop-i in
    let i = l.i in
    let h = length_without d j c.requires in (
      simp length-set l.invariant.0,
      rw (l.invariant.1, part_rest (without j d) d i (i + 1) (omega arith) (omega arith), ← without_at d j i (omega arith) c.requires)
          (part-turn (without j d) d i (omega arith) (omega arith)),
    )

pub returns : goal.returns
returns c =
    let d = c.args.q.now in
    let j = c.args.j in
    let h = length_without d j c.requires in
    let e : c.loop-i.i ≡ length d - 1 = omega arith in
    rw (c.loop-i.invariant.1, e) (part-last (without j d) d 0 (length d - 1) (omega arith) (omega arith) ∙ sym (closed_all d j))
