-- The call follows its rule, or is refused.
use Rattle.ledger.specs.Call.Op.{report}
use Rattle.runtime.proofs.HostLaws.{ready, stayed, went}
use Rattle.runtime.proofs.host.fg_report.Goals as goal

pub report_in-requires : goal.report_in-requires
report_in-requires c = ready c.args.t.now c.args.p.now c.in-Ok.ensures

pub returns-in-Ok : goal.returns-in-Ok
returns-in-Ok c =
    rw c.from.ensures (went c.args.t.now c.args.p.now c.in-Ok.ensures report c.report_in.ensures)

pub returns-in-Err : goal.returns-in-Err
returns-in-Err c =
    rw c.from-in-Err.ensures (stayed c.args.t.now c.args.p.now c.in-Err.ensures report)
