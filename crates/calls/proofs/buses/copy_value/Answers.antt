-- The bytes are those of the payload.
use mathlib.Core.Path.{refl, ◌∙◌}
use native.Mathlib.Omega.{arith}
use lib.ListN.{length}
use Rattle.calls.proofs.BusLaws.{copied}
use Rattle.calls.proofs.buses.copy_value.Goals as goal

pub returns : goal.returns
returns c =
    let a = c.args in
    let v = c.payload-value.ensures in
    let m = c.payload-value.result.now in
    let q = copied m a.out.now (length m) refl (omega (arith, v.2, c.requires.1.2)) in
    rw c.copy.ensures (q.0 ∙ v.0, q.1)
