-- `sound::zeros::zero_run` meets its contract.
use Rattle.std.proofs.Common.{rules, take, drop, nat_eq, ◌+◌, ◌-◌}
use Rattle.std.proofs.lemmas.Iterator.{cases_from_all, YieldsList-from_slice}
use mathlib.Core.Path.{◌≡◌, ◌∙◌}
use mathlib.Core.Bool.{true, false}
use Rattle.sound.proofs.EachLaws.{told}
use Rattle.sound.proofs.ZeroLaws.{run_of}
use Rattle.sound.proofs.zeros.zero_run.Goals as goal

pub returns : goal.returns
returns c =
    let a = c.args in
    let part = take (a.at + a.n - a.at) (drop a.at a.p.now) in
    told (λ x. nat_eq x 0) part
    (cases_from_all _ _ _ (λ x. nat_eq x 0 ≡ true) (λ x. nat_eq x 0 ≡ false) c.all.ensures.ran (YieldsList-from_slice part cc) (λ x q k. search rules) (λ x q k. search rules))
    ∙ run_of a.p.now a.at a.n c.requires
