-- Step 4.
use mathlib.Core.Path.{refl}
use native.Mathlib.Omega.{arith}
use Rattle.tables.specs.State.{view}
use Rattle.endings.proofs.EndingLaws.{ending_small, quiet}
use Rattle.endings.proofs.notices.Leaver.disarm.Goals as goal

pub drop_timers-requires : goal.drop_timers-requires
drop_timers-requires c = (c.requires.0, ending_small c.requires.1.ending)

pub returns : goal.returns
returns c =
    let a = c.args in
    quiet a.k a.self.slot a.self.id a.self.reason (view a.k a.t.now a.p.now) 4 (omega arith) c.requires.1 refl c.drop_timers.ensures
