-- The row has the timers that are due by the clock.
use Prim.Native.Nat.{◌≤◌}
use mathlib.Core.Path.{◌≡◌}
use native.Mathlib.Omega.{arith}
use lib.ListN.{length, take}
use Rattle.std.proofs.lemmas.List.{length-take-le}
use Rattle.tables.specs.State.{view}
use Rattle.endings.specs.Order.{Waiting}
use Rattle.endings.proofs.OrderLaws.{pile-take}
use Rattle.endings.proofs.advance.fire_all.Goals as goal

pub fire_row-requires : goal.fire_row-requires
fire_row-requires c =
    let d = c.due_timers-m in
    let a = c.args in
    let m = d.result in
    let row = d.new.row in
    let l : m ≤ length row = omega (arith, d.ensures.few, c.requires.0.caps.few_timers) in
    let n : length (take m row) ≡ m = length-take-le m row l in
    let o : Waiting a.k (view a.k a.t.now a.p.now) (length (take m row)) (take m row) = rw (pile-take m row l) (rw c.get-clock.ensures at d.ensures.order) in
    (c.requires.0, (c.requires.1, o, omega (arith, n, d.ensures.few)))
