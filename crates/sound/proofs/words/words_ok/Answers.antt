-- `sound::words::words_ok` meets its contract.
use Rattle.std.proofs.Common.{rules}
use mathlib.Core.Path.{◌∙◌}
use Rattle.rules.specs.Rule.{test}
use Rattle.rules.specs.Sound.{bits_rule}
use Rattle.sound.specs.Kinds.{word_rule}
use Rattle.sound.proofs.EachLaws.{all_below}
use Rattle.sound.proofs.WordLaws.{by_words}
use Rattle.tables.specs.Sizes.{BIT-WORDS}
use Rattle.tables.specs.State.{view}
use Rattle.sound.proofs.words.words_ok.Goals as goal

pub returns : goal.returns
returns c =
    let a = c.args in
    let bits = view a.k a.t.now a.p.now a.c in
    all_below (λ j. test (word_rule a.n bits j)) BIT-WORDS c.all.ensures.ran (λ x q k. search rules) (λ x q k. search rules) ∙ by_words (λ e. bits_rule a.n bits e) BIT-WORDS
