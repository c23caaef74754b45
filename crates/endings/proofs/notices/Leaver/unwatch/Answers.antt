-- Step 3.
use mathlib.Core.Path.{refl}
use native.Mathlib.Omega.{arith}
use Rattle.tables.specs.State.{view}
use Rattle.endings.proofs.EndingLaws.{ending_small, quiet}
use Rattle.endings.proofs.notices.Leaver.unwatch.Goals as goal

pub drop_monitors-requires : goal.drop_monitors-requires
drop_monitors-requires c = (c.requires.0, ending_small c.requires.1.ending)

pub returns : goal.returns
returns c =
    let a = c.args in
    quiet a.k a.self.slot a.self.id a.self.reason (view a.k a.t.now a.p.now) 3 (omega arith) c.requires.1 refl c.drop_monitors.ensures
