-- `sound::messages::Entry::entry_ok` meets its contract.
use mathlib.Core.Path.{sym, ◌∙◌}
use lib.Bits.{bit_or}
use Rattle.rules.proofs.Kept.Rules.{and_same}
use Rattle.sound.proofs.JoinLaws.{or-test, pick_yes}
use Rattle.sound.proofs.messages.Entry.entry_ok.Goals as goal

pub returns-then-is_free : goal.returns-then-is_free
returns-then-is_free c =
    let a = c.args.self.now in
    pick_yes _ (sym c.is_free.ensures ∙ c.if-is_free.true) (or-test (bit_or a.sender a.len) c.joined-any.result ∙ and_same (or-test a.sender a.len) c.joined-any.ensures)
