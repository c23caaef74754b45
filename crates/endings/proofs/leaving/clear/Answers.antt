-- The hand first, then the mailbox.
use Rattle.tables.specs.State.{view}
use Rattle.rules.proofs.Kept.Messages.{let_go-arrived_lem}
use Rattle.endings.proofs.leaving.clear.Goals as goal

pub drop_all-requires : goal.drop_all-requires
drop_all-requires c =
    let a = c.args in
    let g = c.let_go.ensures in
    (g.room, c.requires.1, rw (g.is, let_go-arrived_lem (view a.k a.t.now a.p.now) a.a) c.requires.2)

pub returns : goal.returns
returns c =
    let a = c.args in
    let d = c.drop_all.ensures in
    let e = let_go-arrived_lem (view a.k a.t.now a.p.now) a.a in
    record { is = rw (d.is, c.let_go.ensures.is, e); room = d.room }
