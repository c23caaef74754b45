-- `sound::early_in` meets its contract.
use native.Mathlib.Omega.{arith}
use lib.Dec.{lit<}
use Prim.Native.Nat.{ℕ}
use lib.ListN.{length-replicate}
use Rattle.tables.specs.Columns.{STATE}
use Rattle.tables.proofs.ViewLaws.{view-full}
use Rattle.sound.proofs.StandingLaws.{clear}
use Rattle.sound.proofs.early_in.Goals as goal

pub stand-requires : goal.stand-requires
stand-requires g c =
    let v = view-full c.args.k c.args.t.now c.args.p.now c.requires.0.words STATE (lit< tt) in
    (rw c.column.ensures (omega (arith, v, c.requires.1, length-replicate {A = ℕ} g.row.N 0)), clear _)
