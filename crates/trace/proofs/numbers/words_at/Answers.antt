-- All numbers are compared, each where it would stand.
use Rattle.std.proofs.Common.{◌∙◌, ◌+◌, ◌*◌, eqb, drop, ap, rules, tests, arith}
use Rattle.std.proofs.lemmas.Iterator.{YieldsList-from_slice}
use Rattle.std.proofs.lemmas.Iterator.Consumers.{YieldsList-from_enumerate}
use Rattle.std.proofs.lemmas.Iterator.Search.{all_from_yields_List}
use Rattle.records.specs.Bytes.{field}
use Rattle.trace.specs.Codec.{words}
use Rattle.trace.specs.Promises.{leads}
use Rattle.trace.proofs.MatchLaws.{all_lead}
use Rattle.trace.proofs.numbers.words_at.Goals as goal

pub returns : goal.returns
returns c =
    let a = c.args in
    all_from_yields_List (λ p. eqb (field 8 (a.at + 8 * p.0) a.s.now) p.1) _ _ c.all.result c.all.ensures.ran (YieldsList-from_enumerate (YieldsList-from_slice a.ns.now cc) cc) (λ x b q k. search (rules, tests))
    ∙ all_lead a.s.now a.at 0 a.ns.now (omega arith) (λ i. (c.type_inv.s i).fits) (λ i. (c.type_inv.ns i).fits)
    ∙ ap (λ k. leads (words a.ns.now) (drop k a.s.now)) (omega arith)
