-- `tables::payload::zero` meets its contract.
use mathlib.Core.Path.{◌≡◌}
use native.Mathlib.Omega.{arith}
use Prim.Native.Nat.{ℕ}
use lib.ListN.{replicate, length-replicate}
use borrow.Author.Rules.{rules}
use Rattle.tables.proofs.LoopLaws.{sets_part}
use Rattle.tables.proofs.payload.zero.Goals as goal

pub returns : goal.returns
returns c =
    let e = length-replicate {A = ℕ} c.args.n 0 in
    let f : c.fill.new.self ≡ replicate c.args.n 0 = search rules in
    sets_part c.args.q.now _ (replicate c.args.n 0) c.args.from _ f (omega arith) (omega arith)
