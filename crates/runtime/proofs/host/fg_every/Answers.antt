-- The call follows its rule, or is refused.
use Rattle.ledger.specs.Call.Op.{every}
use Rattle.runtime.proofs.HostLaws.{ready, stayed, went}
use Rattle.runtime.proofs.host.fg_every.Goals as goal

pub every_in-requires : goal.every_in-requires
every_in-requires c = ready c.args.t.now c.args.p.now c.in-Ok.ensures

pub returns-in-Ok : goal.returns-in-Ok
returns-in-Ok c =
    rw c.from.ensures (went c.args.t.now c.args.p.now c.in-Ok.ensures (every c.args.interval) c.every_in.ensures)

pub returns-in-Err : goal.returns-in-Err
returns-in-Err c =
    rw c.from-in-Err.ensures (stayed c.args.t.now c.args.p.now c.in-Err.ensures (every c.args.interval))
