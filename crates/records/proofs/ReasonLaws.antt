-- The words of exit reasons fit eight bytes, and what is left of them stays zero.
use Prim.Native.Nat.{ℕ, ◌-◌, ◌≤◌}
use mathlib.Core.Path.{◌≡◌, refl}
use mathlib.Core.List.{[], ◌∷◌}
use native.Mathlib.Omega.{arith}
use lib.ListN.{length, drop, replicate}
use Rattle.records.specs.declared.reason.Word.{Word}
use Rattle.records.specs.declared.reason.Word.TheVariants.{App, Normal, Crash, Killed, Overflow}
use Rattle.records.specs.Reason.{letters}

pub letters_fit : (w : Word) → length (letters w) ≤ 8
letters_fit App = omega arith
letters_fit Normal = omega arith
letters_fit Crash = omega arith
letters_fit Killed = omega arith
letters_fit Overflow = omega arith

pub zeros_left : (w : Word) → drop {A = ℕ} (length (letters w)) (0 ∷ 0 ∷ 0 ∷ 0 ∷ 0 ∷ 0 ∷ 0 ∷ 0 ∷ []) ≡ replicate (8 - length (letters w)) 0
zeros_left App = refl
zeros_left Normal = refl
zeros_left Crash = refl
zeros_left Killed = refl
zeros_left Overflow = refl
