-- Past the last entry there is nothing to wipe.
use mathlib.Core.Path.{sym}
use native.Mathlib.Omega.{arith}
use lib.ListN.{replicate}
use Rattle.tables.specs.Limits.{ENTRY-BYTES}
use Rattle.tables.specs.State.{view}
use Rattle.tables.proofs.ViewLaws.{view_full_p}
use Rattle.actions.proofs.ActionLaws.{write-out}
use Rattle.actions.proofs.messages.wipe.Goals as goal

pub returns-else-d-k : goal.returns-else-d-k
returns-else-d-k c =
    let a = c.args in
    record {
      is = sym (write-out (view a.k a.t.now a.p.now) a.d 0 (replicate ENTRY-BYTES 0) (omega (arith, view_full_p a.k a.t.now a.p.now c.requires.bytes)));
      room = c.requires;
    }
