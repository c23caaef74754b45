-- The row has the links below e.
use mathlib.Core.Path.{sym, ◌∙◌}
use Rattle.endings.proofs.PartnerLaws.{partners_none, partners-more, partners-same}
use lib.ListN.{length-replicate}
use Rattle.std.specs.Prelude.{ℕ, Option, None}
use Rattle.tables.specs.Limits.{MOST-ACTORS}
use Rattle.endings.proofs.partners.partners_in.Goals as goal
use Rattle.endings.proofs.partners.partners_in.Goals.{in-Some, in_default}

pub loop-e-init : goal.loop-e-init
loop-e-init c =
    let e = c.requires.3 in
    record { long = rw e (length-replicate {A = Option ℕ} MOST-ACTORS None); has = rw e (partners_none _ _ _) }

pub loop-e-preserved : goal.loop-e-preserved
loop-e-preserved c =
    let a = c.args in
    let l = c.loop-e in
    let o = sym c.other_end.ensures in
    elim c.match-other_end.branch [
      | in-Some w ↦ rw w.row-is (record { long = w.note.ensures.long ∙ l.invariant.long; has = partners-more a.one.now a.two.now a.x l.e l.row l.invariant.has _ _ (o ∙ w.in-Some.is) w.note.ensures })
      | in_default w ↦ rw w.row-is (record { long = l.invariant.long; has = partners-same a.one.now a.two.now a.x l.e l.row l.invariant.has (o ∙ w.in_default.is) })
    ]
