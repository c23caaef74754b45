-- The entries of the run before e keep their rule.
use mathlib.Core.Path.{◌≡◌}
use Rattle.rules.specs.Rule.{test, each, imp, le}
use Rattle.sound.specs.Kinds.{kept_rule}
use Rattle.tables.specs.State.{view}
use Rattle.sound.proofs.mails.Mails.run_ok.Given as goal

abbrev pub invariant-loop-e : goal.invariant-loop-e
invariant-loop-e l =
    let m = l.self in l.ok ≡ test (each l.e (λ i. imp (le l.from i) (kept_rule m.k (view m.k m.t.now m.p.now) i)))
