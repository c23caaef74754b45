-- `sound::ties::Ends::marked_ok` meets its contract.
use mathlib.Core.Path.{refl}
use Rattle.sound.proofs.TieLaws.{turned_none, turned_more}
use borrow.Author.Rules.{rules}
use Rattle.sound.proofs.ties.Ends.marked_ok.Goals as goal

pub loop-e-init : goal.loop-e-init
loop-e-init c = (refl, turned_none _ _ _ c.requires.1 c.requires.2)

pub loop-e-preserved : goal.loop-e-preserved
loop-e-preserved c = let l = c.loop-e in (search rules, turned_more l.e c.requires.0 l.invariant.1 c.link_ok-ok.ensures)
