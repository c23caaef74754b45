-- `sound::mails::Mails::keep_ok` meets its contract.
use Prim.Native.Nat.{ℕ, ◌-◌}
use mathlib.Core.Path.{sym, ap, ◌∙◌}
use Rattle.rules.specs.Terms.{awaits}
use Rattle.sound.proofs.MailLaws.{keep-waits, keep-other}
use Rattle.tables.specs.State.{view}
use Rattle.sound.proofs.mails.Mails.keep_ok.Goals as goal

pub returns-then-waits : goal.returns-then-waits
returns-then-waits c =
    let m = c.args.self.now in
    let owner = c.args.owner in
    let v = view m.k m.t.now m.p.now in
    rw c.lives-lives.ensures
    (keep-waits m.k v m.lent.1.stands owner c.args.entry (sym c.waits.ensures ∙ c.if-waits.true)
    (c.awaited.ensures ∙ ap (λ (x : ℕ). awaits v x c.named-then-waits.result) c.named.ensures ∙ ap (λ (x : ℕ). awaits v (owner - 1) x) c.named-then-waits.ensures))

pub returns : goal.returns
returns c =
    let m = c.args.self.now in
    rw c.lives-lives.ensures
    (keep-other m.k (view m.k m.t.now m.p.now) m.lent.1.stands c.args.owner c.args.entry (sym c.waits.ensures ∙ c.if-waits.false))
