-- `sound::every::spares` meets its contract.
use Rattle.std.proofs.Common.{rules}
use Rattle.rules.specs.Rule.{test}
use Rattle.rules.specs.Sound.{spare_rule}
use Rattle.tables.specs.Sizes.{SPARES}
use Rattle.tables.specs.State.{view}
use Rattle.sound.proofs.EachLaws.{all_below}
use Rattle.sound.proofs.every.spares.Goals as goal

pub returns : goal.returns
returns c =
    let a = c.args in
    all_below (λ i. test (spare_rule (view a.k a.t.now a.p.now) i)) SPARES c.all.ensures.ran (λ x q k. search rules) (λ x q k. search rules)
