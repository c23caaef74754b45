-- `sound::marks::Marks::mark_each` meets its contract.
use native.Mathlib.Omega.{arith}
use Rattle.sound.proofs.MarkLaws.{marks_none, marks-more}
use Rattle.sound.proofs.marks.Marks.mark_each.Goals as goal

pub loop-i-init : goal.loop-i-init
loop-i-init c = let a = c.args in marks_none a.list.now (λ e. e) a.self.now.bits

pub loop-i-preserved : goal.loop-i-preserved
loop-i-preserved c = marks-more c.args.list.now (λ e. e) (omega (arith, c.requires.0)) c.loop-i.invariant c.mark-ok.ensures
