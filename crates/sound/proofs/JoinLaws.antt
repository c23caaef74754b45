-- Bytes joined by OR, and a rule that goes by a test.
use Prim.Native.Nat.{ℕ, zero, suc}
use native.Mathlib.Omega.{arith}
use mathlib.Core.Path.{◌≡◌, refl, sym, ◌∙◌}
use mathlib.Core.Bool.{Bool, true, false, not, ◌&&◌, ◌||◌}
use lib.Dec.{eqb}
use lib.Bits.{bit_or, or_add_and, and_le_r, or_zero_l}
use borrow.Author.Tests.{ne_eqb}

-- ---- bytes joined by OR are zero where both are
or_some : (x y : ℕ) → eqb (bit_or (suc x) y) 0 ≡ false
or_some x y = ne_eqb (bit_or (suc x) y) 0 (λ e. omega (arith, or_add_and (suc x) y, and_le_r (suc x) y))

pub or-test : (x y : ℕ) → eqb (bit_or x y) 0 ≡ eqb x 0 && eqb y 0
or-test zero y = rw or_zero_l
or-test (suc x) y = or_some x y ∙ sym (rw (ne_eqb (suc x) 0 (λ e. omega arith)))

-- ---- a test that is denied twice
pub twice : (b : Bool) → not (not b) ≡ b
twice true = refl
twice false = refl

-- ---- a rule of two parts, of which a test says which one counts
pub pick_yes : {b x : Bool} (y : Bool) {r : Bool} → b ≡ true → r ≡ x → r ≡ (not b || x) && (not (not b) || y)
pick_yes {b} {x} y e q = rw (e, q) (and_yes x)
  where
    and_yes : (a : Bool) → a ≡ a && true
    and_yes true = refl
    and_yes false = refl

pub pick_no : {b y : Bool} (x : Bool) {r : Bool} → b ≡ false → r ≡ y → r ≡ (not b || x) && (not (not b) || y)
pick_no x e q = rw (e, q)
