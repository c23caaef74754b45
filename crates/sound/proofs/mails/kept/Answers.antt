-- `sound::mails::kept` meets its contract.
use Rattle.std.proofs.Common.{rules}
use native.Mathlib.Omega.{arith}
use mathlib.Core.Path.{◌∙◌}
use Rattle.rules.specs.Rule.{test}
use Rattle.sound.specs.Kinds.{kept_rule, mails_rule}
use Rattle.sound.proofs.EachLaws.{all_below}
use Rattle.sound.proofs.MailLaws.{runs_of}
use Rattle.tables.specs.State.{view}
use Rattle.sound.proofs.mails.kept.Goals as goal

pub returns : goal.returns
returns c =
    let a = c.args in
    let v = view a.k a.t.now a.p.now in
    all_below (λ j. test (mails_rule a.k v j)) c.div_ceil.result c.all.ensures.ran (λ x q k. search rules) (λ x q k. search rules)
    ∙ runs_of (λ e. kept_rule a.k v e) a.k.mails c.div_ceil.result (omega (arith, c.div_ceil.ensures))
