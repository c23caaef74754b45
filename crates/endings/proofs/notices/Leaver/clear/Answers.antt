-- Step 0.
use mathlib.Core.Path.{refl}
use native.Mathlib.Omega.{arith}
use Rattle.tables.specs.State.{view}
use Rattle.rules.proofs.Kept.Clauses.{arrivals-fit}
use Rattle.endings.proofs.EndingLaws.{ending_small, quiet}
use Rattle.endings.proofs.notices.Leaver.clear.Goals as goal

pub clear-requires : goal.clear-requires
clear-requires c =
    let e = c.requires.1.ending in
    (c.requires.0, ending_small e, arrivals-fit e.good)

pub returns : goal.returns
returns c =
    let a = c.args in
    quiet a.k a.self.slot a.self.id a.self.reason (view a.k a.t.now a.p.now) 0 (omega arith) c.requires.1 refl c.clear.ensures
