-- `sound::messages::Entry::message_ok` meets its contract.
use native.Mathlib.Omega.{arith}
use Prim.Native.Nat.{◌+◌, ◌-◌}
use mathlib.Core.Path.{◌≡◌}
use Rattle.rules.specs.Terms.{header_at}
use Rattle.rules.proofs.Kept.Rules.{and_same}
use Rattle.tables.specs.Limits.{ENTRY-BYTES, HEADER-BYTES, PAYLOAD-MOST}
use Rattle.sound.proofs.messages.Entry.message_ok.Goals as goal

pub returns : goal.returns
unfolding header_at
returns c =
    let a = c.args.self.now in
    let q = c.load32-header.ensures in
    let e : ENTRY-BYTES - (HEADER-BYTES + a.len) ≡ PAYLOAD-MOST - a.len = omega arith in
    and_same (rw q at c.header_ok-right.ensures) (and_same (rw (c.class_in.ensures, q) at c.sender_ok-from.ensures) (rw e at c.rest_zero-zero.ensures))
