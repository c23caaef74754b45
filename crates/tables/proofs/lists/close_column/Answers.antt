-- `tables::lists::close_column` meets its contract.
use Prim.Native.Nat.{◌+◌}
use native.Mathlib.Omega.{arith}
use mathlib.Core.Path.{◌≡◌, refl, ◌∙◌}
use lib.ListN.{length, take}
use lib.Seq.{length-take-le}
use Rattle.tables.specs.State.{view}
use Rattle.tables.specs.Action.{closed}
use Rattle.tables.proofs.LoopLaws.{length-closed, closed_front}
use Rattle.tables.proofs.ViewLaws.{view-full, part-lent, part_left}
use Rattle.tables.proofs.lists.close_column.Goals as goal

pub returns : goal.returns
returns c =
    let a = c.args in
    let o = c.words_of-from in
    let from = o.result.start in
    let v = view a.k a.t.now a.p.now a.c in
    let q = take a.n v in
    let long : length q ≡ a.n = length-take-le a.n v (omega (arith, view-full a.k a.t.now a.p.now c.requires.0.words a.c c.requires.1)) in
    let lent = part-lent a.k a.t.now a.p.now c.requires.0 a.c from a.n (from + a.n) c.requires.1 o.ensures.0 refl c.requires.2 in
    let left = part_left a.k a.t.now a.p.now c.requires.0 a.c from a.n (from + a.n) c.requires.1 o.ensures.0 refl (closed (length q) a.j q) c.requires.2
    (length-closed (length q) a.j q (omega arith) (omega arith) ∙ long) in
    rw (c.close_up.ensures, lent) (rw (closed_front a.n a.j v) at left)
