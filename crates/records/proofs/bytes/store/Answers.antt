-- The part that is written is a store.
use Rattle.std.proofs.Common.{rules, ◌+◌, ◌-◌, ◌≡◌}
use native.Mathlib.Omega.{arith}
use Rattle.records.proofs.ByteLaws.{stored_part}
use Rattle.records.proofs.bytes.store.Goals as goal

pub returns : goal.returns
returns g c =
    let a = c.args in
    let n : a.at + g.row.N - a.at ≡ g.row.N = omega arith in
    rw (n, c.copy_from_slice.ensures.after) (stored_part a.at g.row.N a.s.now a.bytes (search rules) c.requires)
