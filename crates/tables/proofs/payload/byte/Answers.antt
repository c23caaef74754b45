-- `tables::payload::byte` meets its contract.
use Prim.Native.Nat.{◌+◌, ◌*◌}
use native.Mathlib.Omega.{arith}
use mathlib.Core.Path.{sym}
use Rattle.tables.specs.Limits.{ENTRY-BYTES}
use Rattle.tables.proofs.ViewLaws.{view_get_p, view_out_p}
use Rattle.tables.proofs.payload.byte.Goals as goal

pub returns-then-d-k : goal.returns-then-d-k
returns-then-d-k c =
    let a = c.args in
    sym (view_get_p a.k a.t.now a.p.now c.requires.0 (ENTRY-BYTES * a.d + a.i) (omega arith))

pub returns-else-d-k : goal.returns-else-d-k
returns-else-d-k c =
    let a = c.args in
    sym (view_out_p a.k a.t.now a.p.now c.requires.0 (ENTRY-BYTES * a.d + a.i) (omega arith))
