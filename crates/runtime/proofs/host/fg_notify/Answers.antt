-- The call follows its rule, or is refused.
use Rattle.ledger.specs.Call.Op.{notify}
use Rattle.runtime.proofs.HostLaws.{ready, stayed, went}
use Rattle.runtime.proofs.host.fg_notify.Goals as goal

pub notify_in-requires : goal.notify_in-requires
notify_in-requires c = ready c.args.t.now c.args.p.now c.in-Ok.ensures

pub returns-in-Ok : goal.returns-in-Ok
returns-in-Ok c =
    rw c.done.ensures (went c.args.t.now c.args.p.now c.in-Ok.ensures (notify c.args.target c.args.tag c.args.payload.now) c.notify_in.ensures)

pub returns-in-Err : goal.returns-in-Err
returns-in-Err c =
    rw c.done-in-Err.ensures (stayed c.args.t.now c.args.p.now c.in-Err.ensures (notify c.args.target c.args.tag c.args.payload.now))
