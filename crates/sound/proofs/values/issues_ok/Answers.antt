-- `sound::values::issues_ok` meets its contract.
use Rattle.std.proofs.Common.{rules, take}
use Rattle.std.proofs.lemmas.Iterator.{cases_from_all, YieldsList-from_slice}
use native.Mathlib.Omega.{arith}
use Prim.Native.Nat.{ℕ}
use mathlib.Core.Path.{◌≡◌, ◌∙◌}
use mathlib.Core.Bool.{Bool, true, false, ◌&&◌}
use lib.Dec.{leb}
use lib.ListN.{get_or}
use Rattle.rules.specs.Rule.{test, both, each, le}
use Rattle.rules.proofs.Kept.Rules.{and_same}
use Rattle.sound.proofs.EachLaws.{told, first_words}
use Rattle.sound.proofs.ValueLaws.{issue-parts}
use Rattle.sound.proofs.values.issues_ok.Goals as goal

pub returns : goal.returns
returns c =
    let a = c.args in
    let list = a.list.now in
    let names : ℕ → Bool = λ x. leb 1 x && leb x a.n in
    let named : c.all-named.result ≡ test (each a.m (λ i. both (le 1 (get_or list i 0)) (le (get_or list i 0) a.n))) =
    told names (take a.m list)
    (cases_from_all _ _ _ (λ x. names x ≡ true) (λ x. names x ≡ false) c.all-named.ensures.ran (YieldsList-from_slice (take a.m list) cc) (λ x q k. search rules) (λ x q k. search rules))
    ∙ first_words names list a.m (omega (arith, c.requires)) in
    and_same named c.zero_from-rest.ensures ∙ issue-parts list a.n a.m c.requires.0
