-- `sound::marks::Marks::mark_each_up` meets its contract.
use native.Mathlib.Omega.{arith}
use Prim.Native.Nat.{suc}
use Rattle.sound.proofs.MarkLaws.{marks_none, marks-more}
use Rattle.sound.proofs.marks.Marks.mark_each_up.Goals as goal

pub loop-word-init : goal.loop-word-init
loop-word-init c = let a = c.args in marks_none a.list.now (λ e. suc e) a.self.now.bits

pub loop-word-preserved : goal.loop-word-preserved
loop-word-preserved c = marks-more c.args.list.now (λ e. suc e) (omega arith) c.loop-word.invariant c.mark_up-ok.ensures
