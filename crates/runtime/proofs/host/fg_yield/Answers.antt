-- The call follows its rule, or is refused.
use Rattle.ledger.specs.Call.Op.{yield}
use Rattle.runtime.proofs.HostLaws.{ready, stayed, went}
use Rattle.runtime.proofs.host.fg_yield.Goals as goal

pub yield_in-requires : goal.yield_in-requires
yield_in-requires c = ready c.args.t.now c.args.p.now c.in-Ok.ensures

pub returns-in-Ok : goal.returns-in-Ok
returns-in-Ok c =
    rw c.done.ensures (went c.args.t.now c.args.p.now c.in-Ok.ensures yield c.yield_in.ensures)

pub returns-in-Err : goal.returns-in-Err
returns-in-Err c =
    rw c.done-in-Err.ensures (stayed c.args.t.now c.args.p.now c.in-Err.ensures yield)
