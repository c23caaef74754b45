-- `broadcast` is a full bus's oldest value gone, and the newest issued.
use native.Mathlib.Omega.{arith}
use Rattle.tables.specs.Columns.{ISSUED}
use Rattle.tables.specs.State.{view}
use Rattle.tables.proofs.ViewLaws.{view-full}
use Rattle.rules.specs.Buses.{broadcast}
use Rattle.actions.proofs.BusLaws.{evict-issued}
use Rattle.actions.proofs.values.broadcast.Goals as goal

pub issue-requires : goal.issue-requires
issue-requires c =
    let a = c.args in
    let s = view a.k a.t.now a.p.now in
    let z = c.requires.1.0 in
    let few = evict-issued s a.b (view-full a.k a.t.now a.p.now c.requires.0.words ISSUED (omega arith)) in
    let e = c.evict.ensures in
    (e.room, (rw (c.data_for-d.ensures, e.is) z.room, z.small, c.requires.1.1, rw e.is (omega (arith, few, z.issued, c.requires.0.caps.few_datas))))

pub returns : goal.returns
unfolding broadcast
returns c =
    record { is = rw (c.issue.ensures.is, c.data_for-d.ensures, c.evict.ensures.is); room = c.issue.ensures.room }
