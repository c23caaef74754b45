-- `sound::marks::Marks::all` meets its contract.
use Rattle.std.proofs.Common.{rules}
use mathlib.Core.Path.{◌∙◌}
use Rattle.pools.specs.Bits.{free}
use Rattle.rules.specs.Rule.{test, imp, is, lt}
use Rattle.sound.specs.Marks.{full_rule}
use Rattle.sound.proofs.EachLaws.{all_below}
use Rattle.sound.proofs.MarkLaws.{full-each}
use Rattle.sound.proofs.WordLaws.{by_words}
use Rattle.tables.specs.Sizes.{BIT-WORDS}
use Rattle.sound.proofs.marks.Marks.all.Goals as goal

pub returns : goal.returns
returns c =
    let bits = c.args.self.now.bits in
    let n = c.args.n in
    all_below (λ j. test (full_rule n bits j)) BIT-WORDS c.all.ensures.ran (λ x q k. search rules) (λ x q k. search rules) ∙ by_words (λ e. imp (lt e n) (is (free bits e))) BIT-WORDS ∙ full-each n bits c.requires
