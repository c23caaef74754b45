-- A rule's test and what the rule says are the same, for every rule.
use Prim.Native.Nat.{ℕ, zero, suc, ◌<◌, ◌+◌}
use native.Mathlib.Nat.{not-suc-le-zero, le_of_suc-le-suc, eq-or-lt_of_le}
use native.Mathlib.Numerals.{add-one}
use native.Mathlib.Omega.{arith}
use mathlib.Core.Path.{◌≡◌, refl, sym, subst}
use mathlib.Core.Logic.{⊎_elim}
use mathlib.Core.Bool.{Bool, true, false, not, ◌&&◌, ◌||◌}
use lib.Dec.{eqb}
use borrow.Author.Tests.{ltb-true, lt-ltb, leb-true, le-leb, eqb-true, eqb-false, eq-eqb, ne_eqb, not-true}
use Rattle.pools.proofs.BoolLaws.{split, true_false, and_left, and_right, and_true}
use Rattle.rules.specs.Rule.{Rule, is, le, lt, eq, differ, both, imp, each, all, test, Holds}

-- ---- what a test of each number says
-- one turn of a loop
pub all_more : (f : ℕ → Bool) (i : ℕ) → all f (i + 1) ≡ all f i && f i
unfolding all
all_more f i = rw add-one

-- none is tested
pub all_none : (f : ℕ → Bool) → all f 0 ≡ true
unfolding all
all_none f = refl

-- each that was tested passes
pub all-at : (n : ℕ) (f : ℕ → Bool) → all f n ≡ true → (i : ℕ) → i < n → f i ≡ true
unfolding all
all-at zero f e i l = absurd (not-suc-le-zero l)
all-at (suc n) f e i l =
    ⊎_elim (λ q. subst (λ (k : ℕ). f k ≡ true) (sym q) (and_right (all f n) (f n) e)) (λ m. all-at n f (and_left (all f n) (f n) e) i m)
    (eq-or-lt_of_le (le_of_suc-le-suc l))

-- where each passes, all do
pub at_all : (n : ℕ) (f : ℕ → Bool) → ((i : ℕ) → i < n → f i ≡ true) → all f n ≡ true
unfolding all
at_all zero f h = refl
at_all (suc n) f h = and_true (all f n) (f n) (at_all n f (λ i l. h i (omega arith))) (h n (omega arith))

-- two tests that agree below n
pub all_same : (n : ℕ) (f g : ℕ → Bool) → ((i : ℕ) → i < n → f i ≡ g i) → all f n ≡ all g n
unfolding all
all_same zero f g h = refl
all_same (suc n) f g h = rw (all_same n f g (λ i l. h i (omega arith)), h n (omega arith))

-- ---- the code's joins of tests
-- two tests joined by `&`
pub and_same : {a b x y : Bool} → a ≡ x → b ≡ y → a && b ≡ x && y
and_same p q = rw (p, q)

-- `if f { return a; } false`, where f tests x and a, where x holds, tests y
pub guard_yes : {f a x y : Bool} → f ≡ x → f ≡ true → a ≡ y → a ≡ x && y
guard_yes e t q = rw (← e, t) q

pub guard_no : {f x : Bool} (y : Bool) → f ≡ x → f ≡ false → false ≡ x && y
guard_no y e n = rw (← e, n)

imp_use : (a b : Bool) → not a || b ≡ true → a ≡ true → b ≡ true
imp_use true b e p = e
imp_use false b e p = true_false false p refl

imp_make : (a b : Bool) → (a ≡ true → b ≡ true) → not a || b ≡ true
imp_make true b h = h refl
imp_make false b h = refl

-- ---- THE LAW: a rule is tested true exactly where it holds
pub reads : (r : Rule) → (test r ≡ true → Holds r) × (Holds r → test r ≡ true)
reads (is b) = (λ e. e, λ h. h)
reads (le a b) = (leb-true a b, le-leb a b)
reads (lt a b) = (ltb-true a b, lt-ltb a b)
reads (eq a b) = (eqb-true a b, eq-eqb a b)
reads (differ a b) = (λ e. eqb-false a b (not-true (eqb a b) e), λ h. rw (ne_eqb a b h))
reads (both r s) =
    (λ e. ((reads r).0 (and_left (test r) (test s) e), (reads s).0 (and_right (test r) (test s) e)), λ h. and_true (test r) (test s) ((reads r).1 h.0) ((reads s).1 h.1))
reads (imp r s) = (λ e h. (reads s).0 (imp_use (test r) (test s) e ((reads r).1 h)), λ h. imp_make (test r) (test s) (λ e. (reads s).1 (h ((reads r).0 e))))
reads (each n f) =
    (λ e i l. (reads (f i)).0 (all-at n (λ k. test (f k)) e i l), λ h. at_all n (λ k. test (f k)) (λ i l. (reads (f i)).1 (h i l)))

-- a rule that does not hold is tested false
pub broken : (r : Rule) → (Holds r → ⊥) → test r ≡ false
broken r n = split (test r) (λ t. absurd (n ((reads r).0 t))) (λ f. f)

-- a test that is true exactly where the rule holds is the rule's
pub same_test : (r : Rule) (b : Bool) → (Holds r → b ≡ true) → (b ≡ true → Holds r) → test r ≡ b
same_test r true f g = (reads r).1 (g refl)
same_test r false f g = broken r (λ h. true_false false (f h) refl)
