-- `sound::messages::Entry::posted_ok` meets its contract.
use native.Mathlib.Omega.{arith}
use Prim.Native.Nat.{ℕ, ◌+◌, ◌-◌}
use mathlib.Core.Path.{◌≡◌, refl, ap}
use lib.Dec.{eqb}
use borrow.Author.Tests.{le-leb}
use Rattle.rules.specs.Terms.{header_at}
use Rattle.rules.proofs.Kept.Rules.{and_same}
use Rattle.tables.specs.Limits.{ENTRY-BYTES, HEADER-BYTES, PAYLOAD-MOST}
use Rattle.sound.proofs.messages.Entry.posted_ok.Goals as goal

pub returns : goal.returns
unfolding header_at
returns c =
    let a = c.args.self.now in
    let e : ENTRY-BYTES - (HEADER-BYTES + a.len) ≡ PAYLOAD-MOST - a.len = omega arith in
    and_same (and_same (ap (λ (h : ℕ). eqb h 0) c.load32-header.ensures) refl) (rw (le-leb a.len PAYLOAD-MOST (omega arith)) (rw e at c.rest_zero-zero.ensures))
