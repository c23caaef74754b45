-- `sound::rules_ok` meets its contract.
use mathlib.Core.Path.{sym, ◌∙◌}
use Rattle.rules.proofs.Kept.Rules.{reads, guard_yes, guard_no}
use Rattle.tables.specs.State.{view}
use Rattle.rules.specs.Rule.{test}
use Rattle.sound.specs.Kinds.{early_rules, count_rules}
use Rattle.sound.proofs.MailLaws.{late_parts}
use Rattle.sound.proofs.rules_ok.Goals as goal

pub late_ok-requires : goal.late_ok-requires
late_ok-requires c =
    let a = c.args in let v = view a.k a.t.now a.p.now in
    (c.requires, ((reads (early_rules a.k v)).0 (sym c.early_ok.ensures ∙ c.if-early_ok.true)).0)

pub returns-then-early_ok : goal.returns-then-early_ok
returns-then-early_ok c =
    let a = c.args in
    guard_yes c.early_ok.ensures c.if-early_ok.true c.late_ok.ensures
    ∙ late_parts a.k (view a.k a.t.now a.p.now)

pub returns-else-early_ok : goal.returns-else-early_ok
returns-else-early_ok c =
    let a = c.args in
    let v = view a.k a.t.now a.p.now in
    c.if-early_ok.false ∙ guard_no (test (count_rules a.k v)) c.early_ok.ensures c.if-early_ok.false ∙ late_parts a.k v
