-- `sound::marks::Marks::full` meets its contract.
use native.Mathlib.Omega.{arith}
use mathlib.Core.Path.{refl}
use Rattle.sound.proofs.MarkLaws.{full_none, full-some}
use Rattle.sound.proofs.marks.Marks.full.Goals as goal

pub returns-then-n-from : goal.returns-then-n-from
returns-then-n-from c = let a = c.args in full_none a.n a.self.now.bits a.j (omega arith)

pub returns : goal.returns
returns c = let a = c.args in full-some a.n a.self.now.bits a.j _ _ refl c.ones-low.ensures
