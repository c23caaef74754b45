-- `sound::ties::Ends::marked_ok` meets its contract.
use mathlib.Core.Path.{◌≡◌}
use lib.ListN.{length}
use Rattle.sound.proofs.TieLaws.{Turned}
use Rattle.sound.proofs.ties.Ends.marked_ok.Given as goal

abbrev pub invariant-loop-e : goal.invariant-loop-e
invariant-loop-e l = (length l.seen ≡ length l.initial.seen) × Turned l.side l.self.row.now l.self.one.now l.self.two.now l.e l.ok l.seen
