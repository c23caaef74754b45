-- The header of a data entry, in the buffer.
use Prim.Native.Nat.{ℕ, ◌*◌, ◌≤◌, ◌<◌}
use mathlib.Core.Path.{◌≡◌, ap}
use mathlib.Core.List.{List, []}
use native.Mathlib.Omega.{arith}
use lib.ListN.{take, drop, length-take, drop_of_length-le}
use Rattle.records.specs.Bytes.{field, of_le}
use Rattle.tables.specs.declared.Caps.{Caps}
use Rattle.tables.specs.Columns.{PAYLOAD}
use Rattle.tables.specs.Limits.{ENTRY-BYTES, HEADER-BYTES}
use Rattle.tables.specs.State.{cut, view}
use Rattle.tables.proofs.ViewLaws.{payload-part}
use Rattle.rules.specs.Terms.{header_at}

module _ (k : Caps) (w p : List ℕ) (d : ℕ) where
  -- the header of an entry lies in the buffer
  pub header_lies : d < k.datas → header_at (view k w p PAYLOAD) d ≡ field HEADER-BYTES (ENTRY-BYTES * d) p
  unfolding header_at
  header_lies h = ap of_le (payload-part k w p (ENTRY-BYTES * d) HEADER-BYTES (omega arith))

  -- past the last entry it is 0
  pub header-past : k.datas ≤ d → header_at (view k w p PAYLOAD) d ≡ 0
  unfolding header_at view cut
  header-past h =
      let e : drop (ENTRY-BYTES * d) (take (ENTRY-BYTES * k.datas) p) ≡ [] = drop_of_length-le (take (ENTRY-BYTES * k.datas) p) {i = ENTRY-BYTES * d} (omega (arith, length-take (ENTRY-BYTES * k.datas) p)) in
      rw e
