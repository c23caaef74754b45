-- A rule that a machine can test: `test` is its test, `Holds` what it says. proofs/Kept/Rules.antt joins the two, once for every rule.
use Rattle.std.specs.Prelude.{ℕ, zero, suc, ◌≤◌, ◌<◌, ◌≡◌, Bool, true, not, ◌&&◌, ◌||◌, leb, ltb, eqb}

pub data Rule : Type 0 where
  is : Bool → Rule
  le lt eq differ : ℕ → ℕ → Rule
  both imp : Rule → Rule → Rule
  each : ℕ → (ℕ → Rule) → Rule

-- every number below n passes
unfoldable pub all : (ℕ → Bool) → ℕ → Bool
all f zero = true
all f (suc n) = all f n && f n

abbrev pub test : Rule → Bool
test (is b) = b
test (le a b) = leb a b
test (lt a b) = ltb a b
test (eq a b) = eqb a b
test (differ a b) = not (eqb a b)
test (both r s) = test r && test s
test (imp r s) = not (test r) || test s
test (each n f) = all (λ i. test (f i)) n

abbrev pub Holds : Rule → Type 0
Holds (is b) = b ≡ true
Holds (le a b) = a ≤ b
Holds (lt a b) = a < b
Holds (eq a b) = a ≡ b
Holds (differ a b) = a ≡ b → ⊥
Holds (both r s) = Holds r × Holds s
Holds (imp r s) = Holds r → Holds s
Holds (each n f) = (i : ℕ) → i < n → Holds (f i)
