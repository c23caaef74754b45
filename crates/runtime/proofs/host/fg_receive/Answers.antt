-- The call follows its rule, or is refused.
use mir.Syntax.{w64}
use mir.ValLaws.{to_z-of_z}
use Rattle.ledger.specs.Call.Op.{receive}
use Rattle.runtime.proofs.HostLaws.{ready, stayed, went}
use Rattle.runtime.proofs.host.fg_receive.Goals as goal

pub receive_in-requires : goal.receive_in-requires
receive_in-requires c = ready c.args.t.now c.args.p.now c.in-Ok.ensures

pub returns-in-Ok : goal.returns-in-Ok
returns-in-Ok c =
    rw c.from.ensures (went c.args.t.now c.args.p.now c.in-Ok.ensures (receive c.args.sender c.args.class c.args.tag c.args.wait) (rw (to_z-of_z w64 c.args.wait c.ranges.wait) at c.receive_in.ensures))

pub returns-in-Err : goal.returns-in-Err
returns-in-Err c =
    rw c.from-in-Err.ensures (stayed c.args.t.now c.args.p.now c.in-Err.ensures (receive c.args.sender c.args.class c.args.tag c.args.wait))
