-- `sound::messages::area_of` meets its contract.
use native.Mathlib.Omega.{arith}
use Prim.Native.Nat.{ℕ, ◌-◌, ◌*◌}
use mathlib.Core.Path.{◌≡◌, ap}
use lib.ListN.{take}
use Rattle.tables.specs.Limits.{ENTRY-BYTES}
use Rattle.tables.specs.State.{view, cut}
use Rattle.sound.proofs.messages.area_of.Goals as goal

pub returns : goal.returns
unfolding view cut
returns c =
    let a = c.args in
    let e : c.bytes_needed-end.result - 0 ≡ ENTRY-BYTES * a.k.datas = omega (arith, c.bytes_needed-end.ensures) in
    ap (λ (n : ℕ). take n a.p.now) e
