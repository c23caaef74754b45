-- Runs of zero bytes: as one number, one after the other, and two that meet.
use Prim.Native.Nat.{ℕ, zero, suc, ◌+◌, ◌-◌, ◌*◌, ◌≤◌, ◌<◌}
use native.Mathlib.Omega.{arith}
use native.Mathlib.Decide.{dec_lt}
use mathlib.Core.Path.{◌≡◌, refl, sym, ap, ◌∙◌}
use mathlib.Core.Bool.{◌&&◌}
use mathlib.Core.List.{List, [], ◌∷◌}
use lib.ListN.{get_or, length, take, drop, length-take, length-drop}
use lib.Seq.{get_or-take, get_or-drop}
use lib.Dec.{eqb}
use borrow.Author.Tests.{eqb-true, eq-eqb, ne_eqb}
use Rattle.records.specs.Bytes.{of_le, field}
use Rattle.rules.specs.Rule.{all, test, both}
use Rattle.rules.specs.Sound.{zeros}
use Rattle.rules.proofs.Kept.Rules.{all_same, reads, same_test}

-- ---- a number is 0 exactly where all its bytes are
bytes-zero : (l : List ℕ) → of_le l ≡ 0 → (i : ℕ) → get_or l i 0 ≡ 0
bytes-zero [] e i = refl
bytes-zero (b ∷ bs) e zero = omega (arith, e)
bytes-zero (b ∷ bs) e (suc i) = bytes-zero bs (omega (arith, e)) i

first-zero : (k : ℕ) (l : List ℕ) → ((i : ℕ) → i < k → get_or l i 0 ≡ 0) → of_le (take k l) ≡ 0
first-zero zero l h = refl
first-zero (suc k) [] h = refl
first-zero (suc k) (b ∷ bs) h = omega (arith, h 0 (omega arith), first-zero k bs (λ i m. h (suc i) (omega arith)))

pub field-zero : (k at : ℕ) (s : List ℕ) → eqb (field k at s) 0 ≡ test (zeros s at k)
unfolding zeros
field-zero k at s =
    sym (same_test (zeros s at k) (eqb (field k at s) 0)
    (λ h. eq-eqb (field k at s) 0 (first-zero k (drop at s) (λ i m. get_or-drop at s i 0 ∙ h i m)))
    (λ t i m. sym (get_or-drop at s i 0) ∙ sym (get_or-take k (drop at s) i 0 m) ∙ bytes-zero (take k (drop at s)) (eqb-true (field k at s) 0 t) i))

-- two numbers joined to a larger one
pub joint_zero : (x y : ℕ) → eqb (x + 4294967296 * y) 0 ≡ eqb x 0 && eqb y 0
joint_zero zero zero = refl
joint_zero zero (suc y) = ne_eqb (0 + 4294967296 * suc y) 0 (λ e. omega (arith, e)) ∙ sym (ne_eqb (suc y) 0 (λ e. omega arith))
joint_zero (suc x) y = ne_eqb (suc x + 4294967296 * y) 0 (λ e. omega (arith, e)) ∙ sym (rw (ne_eqb (suc x) 0 (λ e. omega arith)))

-- the bytes of a part, one by one
pub run_of : (s : List ℕ) (at n : ℕ) → at + n ≤ length s → all (λ i. eqb (get_or (take (at + n - at) (drop at s)) i 0) 0) (length (take (at + n - at) (drop at s))) ≡ test (zeros s at n)
unfolding zeros
run_of s at n l =
    let e : length (take (at + n - at) (drop at s)) ≡ n = omega (arith, length-take (at + n - at) (drop at s), length-drop at s) in
    rw e (all_same n _ _ (λ i m. ap (λ (x : ℕ). eqb x 0) (get_or-take (at + n - at) (drop at s) i 0 (omega arith) ∙ get_or-drop at s i 0)))

-- ---- one run after the other
pub zeros-after : (s : List ℕ) (at m n : ℕ) → test (zeros s at (m + n)) ≡ test (zeros s at m) && test (zeros s (at + m) n)
unfolding zeros
zeros-after s at m n =
    same_test (zeros s at (m + n)) (test (both (zeros s at m) (zeros s (at + m) n)))
    (λ h. (reads (both (zeros s at m) (zeros s (at + m) n))).1 (λ i l. h i (omega arith), λ i l. let e : at + m + i ≡ at + (m + i) = omega arith in rw e (h (m + i) (omega arith))))
    (λ t. let h = (reads (both (zeros s at m) (zeros s (at + m) n))).0 t in
    λ i l. elim (dec_lt i m) [ yes k ↦ h.0 i k | no k ↦ let e : at + i ≡ at + m + (i - m) = omega arith in rw e (h.1 (i - m) (omega arith)) ])

-- ---- two runs of m bytes that meet: one from the first byte on, and one up to the last
pub zeros_meet : (s : List ℕ) (at n m : ℕ) → m ≤ n → n ≤ m + m → test (zeros s at m) && test (zeros s (at + (n - m)) m) ≡ test (zeros s at n)
unfolding zeros
zeros_meet s at n m a b =
    sym (same_test (zeros s at n) (test (both (zeros s at m) (zeros s (at + (n - m)) m)))
    (λ h. (reads (both (zeros s at m) (zeros s (at + (n - m)) m))).1 (λ i l. h i (omega arith), λ i l. let e : at + (n - m) + i ≡ at + (n - m + i) = omega arith in rw e (h (n - m + i) (omega arith))))
    (λ t. let h = (reads (both (zeros s at m) (zeros s (at + (n - m)) m))).0 t in
    λ i l. elim (dec_lt i m) [ yes k ↦ h.0 i k | no k ↦ let e : at + i ≡ at + (n - m) + (i - (n - m)) = omega arith in rw e (h.1 (i - (n - m)) (omega arith)) ]))
