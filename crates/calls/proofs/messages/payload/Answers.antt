-- The part is that of the entry.
use Prim.Native.Nat.{◌+◌, ◌*◌}
use mathlib.Core.Path.{refl}
use Rattle.tables.specs.Limits.{ENTRY-BYTES, HEADER-BYTES}
use Rattle.rules.proofs.Stories.Showing.{part-further}
use Rattle.calls.proofs.BusLaws.{payload_there}
use Rattle.calls.proofs.messages.payload.Goals as goal

pub returns : goal.returns
returns c =
    let a = c.args in
    let h = c.requires.1 in
    let v = payload_there a.k a.t.now a.p.now a.d c.requires.0 h.0 h.1 in
    rw c.place_of-place.ensures (v.0, part-further a.p.ref_ptr (ENTRY-BYTES * a.d + HEADER-BYTES) _ refl, v.1)
