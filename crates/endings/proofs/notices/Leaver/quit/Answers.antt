-- Step 5.
use mathlib.Core.Path.{refl}
use native.Mathlib.Omega.{arith}
use Rattle.tables.specs.State.{view}
use Rattle.rules.proofs.Kept.Clauses.{buses-fit}
use Rattle.endings.proofs.EndingLaws.{ending_small, quiet}
use Rattle.endings.proofs.notices.Leaver.quit.Goals as goal

pub quit_buses-requires : goal.quit_buses-requires
quit_buses-requires c =
    let e = c.requires.1.ending in
    (c.requires.0, (ending_small e, omega (arith, buses-fit e.good)))

pub returns : goal.returns
returns c =
    let a = c.args in
    quiet a.k a.self.slot a.self.id a.self.reason (view a.k a.t.now a.p.now) 5 (omega arith) c.requires.1 refl c.quit_buses.ensures
