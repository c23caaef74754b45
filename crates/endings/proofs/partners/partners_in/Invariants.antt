-- The row has the links below e.
use mathlib.Core.Path.{◌≡◌}
use lib.ListN.{length}
use Rattle.tables.specs.Limits.{MOST-ACTORS}
use Rattle.endings.specs.Partners.{Partners}
use Rattle.endings.proofs.partners.partners_in.Given as goal

abbrev pub invariant-loop-e : goal.invariant-loop-e
invariant-loop-e l = record { long : length l.row ≡ MOST-ACTORS; has : Partners l.one l.two l.x l.e l.row }
