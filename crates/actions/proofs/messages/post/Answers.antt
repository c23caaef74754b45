-- `post` is a message in its data entry, in a mailbox, and what it stirs.
use native.Mathlib.Omega.{arith}
use Rattle.tables.specs.State.{view}
use Rattle.rules.specs.Actions.{post}
use Rattle.rules.proofs.Kept.Messages.{room_free}
use Rattle.actions.proofs.ActionLaws.{enlist_queued, fill-arrived, fill_queued}
use Rattle.actions.proofs.messages.post.Goals as goal

pub enlist-requires : goal.enlist-requires
enlist-requires c =
    let a = c.args in
    let g = (room_free a.k (view a.k a.t.now a.p.now) c.requires.1.0).0 in
    (c.fill.ensures.room, (c.requires.1.2, rw c.data_for-d.ensures (omega arith), rw (c.fill.ensures.is, fill-arrived) c.requires.1.4))

pub stir-requires : goal.stir-requires
stir-requires c =
    (c.enlist.ensures.room, rw (c.enlist.ensures.is, enlist_queued, c.fill.ensures.is, fill_queued) c.requires.1.3)

pub returns : goal.returns
unfolding post
returns c =
    record { is = rw (c.stir.ensures.is, c.enlist.ensures.is, c.fill.ensures.is, c.mail_for-e.ensures, c.data_for-d.ensures); room = c.stir.ensures.room }
