-- The call follows its rule, or is refused.
use Rattle.ledger.specs.Call.Op.{advance}
use Rattle.runtime.proofs.HostLaws.{ready, stayed, went}
use Rattle.runtime.proofs.host.fg_advance.Goals as goal

pub advance_in-requires : goal.advance_in-requires
advance_in-requires c = ready c.args.t.now c.args.p.now c.in-Ok.ensures

pub returns-in-Ok : goal.returns-in-Ok
returns-in-Ok c =
    rw c.from.ensures (went c.args.t.now c.args.p.now c.in-Ok.ensures (advance c.args.micros) c.advance_in.ensures)

pub returns-in-Err : goal.returns-in-Err
returns-in-Err c =
    rw c.from-in-Err.ensures (stayed c.args.t.now c.args.p.now c.in-Err.ensures (advance c.args.micros))
