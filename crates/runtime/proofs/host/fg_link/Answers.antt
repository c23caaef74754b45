-- The call follows its rule, or is refused.
use Rattle.ledger.specs.Call.Op.{link}
use Rattle.runtime.proofs.HostLaws.{ready, stayed, went}
use Rattle.runtime.proofs.host.fg_link.Goals as goal

pub link_in-requires : goal.link_in-requires
link_in-requires c = ready c.args.t.now c.args.p.now c.in-Ok.ensures

pub returns-in-Ok : goal.returns-in-Ok
returns-in-Ok c =
    rw c.done.ensures (went c.args.t.now c.args.p.now c.in-Ok.ensures (link c.args.partner) c.link_in.ensures)

pub returns-in-Err : goal.returns-in-Err
returns-in-Err c =
    rw c.done-in-Err.ensures (stayed c.args.t.now c.args.p.now c.in-Err.ensures (link c.args.partner))
