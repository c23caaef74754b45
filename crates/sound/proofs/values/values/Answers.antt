-- `sound::values::values` meets its contract.
use native.Mathlib.Omega.{arith}
use mathlib.Core.Path.{sym, ◌∙◌}
use lib.Dec.{lit<}
use Rattle.rules.specs.Rule.{each}
use Rattle.rules.specs.Sound.{issue_rule}
use Rattle.rules.proofs.Kept.Rules.{reads}
use Rattle.tables.specs.Columns.{ISSUE}
use Rattle.tables.specs.State.{view}
use Rattle.tables.proofs.ViewLaws.{view-full}
use Rattle.sound.proofs.values.values.Goals as goal

pub issues_ok-requires : goal.issues_ok-requires
issues_ok-requires c =
    let a = c.args in
    (omega (arith, c.get-n.ensures, c.requires.1.1.1.0), rw c.column.ensures (omega (arith, view-full a.k a.t.now a.p.now c.requires.0.words ISSUE (lit< tt))))

pub some_stand-requires : goal.some_stand-requires
some_stand-requires c =
    let a = c.args in
    (c.requires.0, (c.requires.1, (reads (each a.k.datas (λ i. issue_rule a.k (view a.k a.t.now a.p.now) i))).0 (sym (rw (c.column.ensures, c.get-n.ensures) at c.issues_ok.ensures) ∙ c.if-issues_ok.true), c.get-n.ensures))
