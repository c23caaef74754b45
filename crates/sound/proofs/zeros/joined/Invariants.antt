-- The numbers so far, joined, are 0 where their bytes are.
use Prim.Native.Nat.{◌*◌}
use mathlib.Core.Path.{◌≡◌}
use lib.Dec.{eqb}
use Rattle.rules.specs.Rule.{test}
use Rattle.rules.specs.Sound.{zeros}
use Rattle.sound.proofs.zeros.joined.Given as goal

abbrev pub invariant-loop-i : goal.invariant-loop-i
invariant-loop-i l = eqb l.any 0 ≡ test (zeros l.p l.at (8 * l.i))
