-- Step 2: nothing is in hand and no mail.
use mathlib.Core.Path.{refl}
use native.Mathlib.Omega.{arith}
use Rattle.tables.specs.State.{view}
use Rattle.endings.proofs.EndingLaws.{midway_going, stepped}
use Rattle.endings.proofs.notices.Leaver.unsee.Goals as goal

pub cut_monitors-requires : goal.cut_monitors-requires
cut_monitors-requires c = (c.requires.0, midway_going 2 2 refl refl c.requires.1)

pub returns : goal.returns
returns c =
    let a = c.args in
    let d = c.cut_monitors.ensures in
    (stepped a.k a.self.slot a.self.id a.self.reason (view a.k a.t.now a.p.now) 2 (omega arith) c.requires.1 d.0, record { sent = omega (arith, d.1.sent); lost = omega (arith, d.1.lost) })
