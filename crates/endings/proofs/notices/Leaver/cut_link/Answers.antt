-- The link ends, and then its partner is told.
use native.Mathlib.Omega.{arith}
use Rattle.tables.specs.State.{view}
use Rattle.endings.specs.Partners.{cut_entry}
use Rattle.endings.proofs.EndingLaws.{tie-short}
use Rattle.endings.proofs.notices.Leaver.cut_link.Goals as goal

pub tell-requires : goal.tell-requires
tell-requires c =
    let d = c.tie in
    let a = c.args in
    (d.ensures.room, (rw d.ensures.is (tie-short (view a.k a.t.now a.p.now) _ 0 0 c.requires.1.0), omega (arith, c.requires.1.1), c.requires.1.2))

pub returns : goal.returns
unfolding cut_entry
returns c = rw c.tie.ensures.is at c.tell.ensures
