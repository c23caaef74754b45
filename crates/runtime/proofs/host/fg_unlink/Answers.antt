-- The call follows its rule, or is refused.
use Rattle.ledger.specs.Call.Op.{unlink}
use Rattle.runtime.proofs.HostLaws.{ready, stayed, went}
use Rattle.runtime.proofs.host.fg_unlink.Goals as goal

pub unlink_in-requires : goal.unlink_in-requires
unlink_in-requires c = ready c.args.t.now c.args.p.now c.in-Ok.ensures

pub returns-in-Ok : goal.returns-in-Ok
returns-in-Ok c =
    rw c.done.ensures (went c.args.t.now c.args.p.now c.in-Ok.ensures (unlink c.args.partner) c.unlink_in.ensures)

pub returns-in-Err : goal.returns-in-Err
returns-in-Err c =
    rw c.done-in-Err.ensures (stayed c.args.t.now c.args.p.now c.in-Err.ensures (unlink c.args.partner))
