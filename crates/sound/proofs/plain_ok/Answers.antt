-- `sound::plain_ok` meets its contract.
use mathlib.Core.Path.{sym, ◌∙◌}
use Rattle.rules.specs.Rule.{test}
use Rattle.rules.proofs.Kept.Rules.{reads, guard_yes, guard_no}
use Rattle.sound.specs.Kinds.{front_rules, body_rules}
use Rattle.sound.proofs.MailLaws.{plain-parts}
use Rattle.tables.specs.State.{view}
use Rattle.sound.proofs.plain_ok.Goals as goal

pub body_ok-requires : goal.body_ok-requires
body_ok-requires c =
    let a = c.args in
    let (_, (heads, _)) = (reads (front_rules a.k (view a.k a.t.now a.p.now))).0 (sym c.front_ok.ensures ∙ c.if-front_ok.true) in
    (c.requires.0, (c.requires.1, heads))

pub returns-then-front_ok : goal.returns-then-front_ok
returns-then-front_ok c =
    let a = c.args in
    guard_yes c.front_ok.ensures c.if-front_ok.true c.body_ok.ensures
    ∙ plain-parts a.k (view a.k a.t.now a.p.now)

pub returns-else-front_ok : goal.returns-else-front_ok
returns-else-front_ok c =
    let a = c.args in
    let v = view a.k a.t.now a.p.now in
    c.if-front_ok.false ∙ guard_no (test (body_rules a.k v)) c.front_ok.ensures c.if-front_ok.false ∙ plain-parts a.k v
