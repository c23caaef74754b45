-- `sound::lists::list_ok` meets its contract.
use native.Mathlib.Omega.{arith}
use mathlib.Core.Path.{◌∙◌}
use Rattle.rules.proofs.Kept.Rules.{and_same}
use Rattle.sound.proofs.ListLaws.{list_parts, list_whole}
use Rattle.sound.proofs.lists.list_ok.Goals as goal

pub returns-then-count-n : goal.returns-then-count-n
returns-then-count-n c =
    let a = c.args in
    and_same c.below-low.ensures c.zero_from-rest.ensures ∙ list_parts a.s.now a.n a.m (omega arith)

pub returns : goal.returns
returns c =
    let a = c.args in
    c.below.ensures ∙ list_whole a.s.now a.n a.m (omega arith)
