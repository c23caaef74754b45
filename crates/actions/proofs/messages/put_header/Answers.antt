-- The header is four bytes written into the entry.
use native.Mathlib.Nat.{add-zero}
use native.Mathlib.Omega.{arith}
use Prim.Native.Nat.{◌*◌}
use Rattle.records.specs.Bytes.{le}
use Rattle.records.proofs.ByteLaws.{length-le}
use Rattle.tables.specs.Limits.{ENTRY-BYTES, HEADER-BYTES}
use Rattle.tables.proofs.ViewLaws.{write-left}
use Rattle.actions.proofs.messages.put_header.Goals as goal

pub returns : goal.returns
returns c =
    let a = c.args in rw c.store32.ensures (rw (add-zero (ENTRY-BYTES * a.d)) at (write-left a.k a.t.now a.p.now c.requires.0 a.d 0 (le HEADER-BYTES a.header) c.requires.1 (omega (arith, length-le 4 a.header))))
