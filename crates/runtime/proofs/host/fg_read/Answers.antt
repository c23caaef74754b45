-- The call follows its rule, or is refused.
use mathlib.Core.Path.{refl}
use native.Mathlib.Omega.{arith}
use lib.ListN.{length}
use Rattle.ledger.specs.Call.Op.{read}
use Rattle.runtime.proofs.HostLaws.{ready, stayed, went}
use Rattle.runtime.proofs.host.fg_read.Goals as goal

pub read_in-requires : goal.read_in-requires
read_in-requires c = ready c.args.t.now c.args.p.now c.in-Ok.ensures

pub returns-in-Ok : goal.returns-in-Ok
returns-in-Ok c =
    record { meets = rw c.from.ensures (went c.args.t.now c.args.p.now c.in-Ok.ensures (read c.args.bus (length c.args.out.now)) c.read_in.ensures.0); onto = rw c.from.ensures c.read_in.ensures.1 }

pub returns-in-Err : goal.returns-in-Err
returns-in-Err c =
    record { meets = rw c.from-in-Err.ensures (stayed c.args.t.now c.args.p.now c.in-Err.ensures (read c.args.bus (length c.args.out.now))); onto = rw c.from-in-Err.ensures (omega arith, refl, refl) }
