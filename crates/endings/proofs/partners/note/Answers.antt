-- The slot has a place, or not.
use native.Mathlib.Omega.{arith}
use Rattle.endings.proofs.PartnerLaws.{placed_set}
use Rattle.endings.proofs.partners.note.Goals as goal

pub returns-then-b-lt-MOST_ACTORS : goal.returns-then-b-lt-MOST_ACTORS
returns-then-b-lt-MOST_ACTORS c = rw c.or.ensures (placed_set c.args.row.now c.args.b c.args.e (omega arith))
