-- The call follows its rule, or is refused.
use Rattle.ledger.specs.Call.Op.{bus}
use Rattle.runtime.proofs.HostLaws.{ready, stayed, went}
use Rattle.runtime.proofs.host.fg_bus.Goals as goal

pub bus_in-requires : goal.bus_in-requires
bus_in-requires c = ready c.args.t.now c.args.p.now c.in-Ok.ensures

pub returns-in-Ok : goal.returns-in-Ok
returns-in-Ok c =
    rw c.from.ensures (went c.args.t.now c.args.p.now c.in-Ok.ensures (bus c.args.entries c.args.subscribers c.args.reads c.args.age) c.bus_in.ensures)

pub returns-in-Err : goal.returns-in-Err
returns-in-Err c =
    rw c.from-in-Err.ensures (stayed c.args.t.now c.args.p.now c.in-Err.ensures (bus c.args.entries c.args.subscribers c.args.reads c.args.age))
