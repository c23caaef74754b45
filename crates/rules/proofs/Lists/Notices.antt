-- Lists by ascending number, and those that are left after some went: what the notices of an exit and the reckoning's lists after it go by.
use Prim.Native.Nat.{ℕ, zero, suc, ◌≤◌, ◌<◌}
use native.Mathlib.Omega.{arith}
use native.Mathlib.Decide.{dec_lt}
use mathlib.Core.Path.{◌≡◌, refl, sym, ap, ap₂, ◌∙◌, fun_ext}
use mathlib.Core.Bool.{Bool, true, false, cond, not, ◌&&◌, ◌||◌, and-false, or-false, or-true}
use mathlib.Core.List.{List, [], ◌∷◌, ◌++◌, map, map-append, append-nil}
use lib.Dec.{eqb}
use borrow.Author.Tests.{eqb-true, ne_eqb}
use Rattle.ledger.specs.Lists.{those, some, by_slot}
use Rattle.pools.specs.Pool.{occurs, Exact}
use Rattle.pools.specs.Lists.{keep}
use Rattle.pools.proofs.BoolLaws.{split}
use Rattle.pools.proofs.ListLaws.{keep-keep, keep_none_on, keep-same_on}
use Rattle.rules.proofs.Reckoned.Ledger.{those-keep}

-- ---- by ascending number
module _ {A : Type 0} where
  -- what the numbers below n that pass give, in their order
  unfoldable pub rows : (ℕ → Bool) → (ℕ → A) → ℕ → List A
  rows f g zero = []
  rows f g (suc n) = rows f g n ++ cond (f n) (g n ∷ []) []

  -- one more, which passes
  pub rows_yes : (f : ℕ → Bool) (g : ℕ → A) (n : ℕ) → f n ≡ true → rows f g (suc n) ≡ rows f g n ++ (g n ∷ [])
  unfolding rows
  rows_yes f g n q = rw q

  -- and which does not
  pub rows_no : (f : ℕ → Bool) (g : ℕ → A) (n : ℕ) → f n ≡ false → rows f g (suc n) ≡ rows f g n
  unfolding rows
  rows_no f g n q = rw (q, append-nil)

  -- they are the same where the same pass and give the same
  pub rows_same : (f h : ℕ → Bool) (g i : ℕ → A) (n : ℕ) → ((e : ℕ) → e < n → f e ≡ h e) → ((e : ℕ) → e < n → g e ≡ i e) → rows f g n ≡ rows h i n
  unfolding rows
  rows_same f h g i zero p q = refl
  rows_same f h g i (suc n) p q =
      ap₂ (λ (x y : List A). x ++ y) (rows_same f h g i n (λ e l. p e (omega arith)) (λ e l. q e (omega arith))) (rw (p n (omega arith), q n (omega arith)))

  -- none past m passes
  pub rows-past : (f : ℕ → Bool) (g : ℕ → A) (m n : ℕ) → m ≤ n → ((e : ℕ) → m ≤ e → f e ≡ false) → rows f g n ≡ rows f g m
  unfolding rows
  rows-past f g m zero l h = let e : m ≡ 0 = omega arith in rw e
  rows-past f g m (suc n) l h =
      elim (dec_lt n m) [
        | yes o ↦ let e : m ≡ suc n = omega arith in rw e
        | no o ↦ rw (h n (omega arith), append-nil) (rows-past f g m n (omega arith) h)
      ]

-- what is made of each
pub map_rows : {A : Type 0} {B : Type 0} (h : A → B) (f : ℕ → Bool) (g : ℕ → A) (n : ℕ) → map h (rows f g n) ≡ rows f (λ e. h (g e)) n
unfolding rows
map_rows h f g zero = refl
map_rows h f g (suc n) =
    map-append h (rows f g n) (cond (f n) (g n ∷ []) []) ∙ ap₂ (λ (x y : List _). x ++ y) (map_rows h f g n) (split (f n) (λ q. rw q) (λ q. rw q))

-- ---- of a list in which each number in use stands once, the number n alone
-- where it is not in the list
keep-gone : (p : ℕ → Bool) (n : ℕ) (es : List ℕ) → occurs n es ≡ 0 → keep (λ e. p e && eqb e n) es ≡ []
keep-gone p n es h =
    keep_none_on (λ e. p e && eqb e n) es (λ e o. rw (ne_eqb e n (λ q. omega (arith, rw q at o))) (and-false (p e)))

-- where it is, and passes
pub keep-once : (p : ℕ → Bool) (n : ℕ) (es : List ℕ) → p n ≡ true → occurs n es ≡ 1 → keep (λ e. p e && eqb e n) es ≡ n ∷ []
unfolding keep occurs
keep-once p n [] q h = absurd (omega arith)
keep-once p n (x ∷ es) q h =
    split (eqb x n)
    (λ r. let e = eqb-true x n r in
    let o : occurs n es ≡ 0 = omega (arith, rw r at h) in
    rw (r, e, q) (ap (λ (l : List ℕ). n ∷ l) (keep-gone p n es o)))
    (λ r. rw (r, and-false (p x)) (keep-once p n es q (omega (arith, rw r at h))))

-- it is there where it is in use and passes
keep_one : (u p : ℕ → Bool) (n : ℕ) (es : List ℕ) → Exact es u → keep (λ e. p e && eqb e n) es ≡ cond (u n && p n) (n ∷ []) []
keep_one u p n es x =
    split (u n)
    (λ q. split (p n)
    (λ r. rw (q, r) (keep-once p n es r (rw q at (x n))))
    (λ r. rw (q, r) (keep_none_on (λ e. p e && eqb e n) es (λ e o. split (eqb e n) (λ z. rw (eqb-true e n z, r)) (λ z. rw z (and-false (p e)))))))
    (λ q. rw q (keep-gone p n es (rw q at (x n))))

-- "by ascending slot": those in use that pass
pub slot_rows : (slot : ℕ → ℕ) (u p : ℕ → Bool) (es : List ℕ) → Exact es u → ((e : ℕ) → 0 < occurs e es → slot e ≡ e) → (n : ℕ) → by_slot slot n (keep p es) ≡ rows (λ e. u e && p e) (λ e. e) n
unfolding by_slot rows
slot_rows slot u p es x h zero = refl
slot_rows slot u p es x h (suc n) =
    ap₂ (λ (x y : List ℕ). x ++ y) (slot_rows slot u p es x h n)
    (those-keep (λ e. eqb (slot e) n) (keep p es) ∙ keep-keep (λ e. eqb (slot e) n) p es
    ∙ keep-same_on (λ e. p e && eqb (slot e) n) (λ e. p e && eqb e n) es (λ e o. rw (h e o)) ∙ keep_one u p n es x)

-- ---- some of the numbers below n
-- one of them passes
unfoldable pub upto : (ℕ → Bool) → ℕ → Bool
upto f zero = false
upto f (suc n) = upto f n || f n

-- one more
pub upto-more : {A : Type 0} (f : A → ℕ → Bool) (n : ℕ) (b : Bool) (q : A → Bool) → ((x : A) → f x n ≡ b && q x) → b ≡ true → ◌≡◌ {A = A → Bool} (λ x. upto (f x) n || q x) (λ x. upto (f x) (suc n))
unfolding upto
upto-more f n b q h e = fun_ext (λ x. rw (h x, e))

-- one more that passes nowhere
pub upto-less : {A : Type 0} (f : A → ℕ → Bool) (n : ℕ) (b : Bool) (q : A → Bool) → ((x : A) → f x n ≡ b && q x) → b ≡ false → ◌≡◌ {A = A → Bool} (λ x. upto (f x) n) (λ x. upto (f x) (suc n))
unfolding upto
upto-less f n b q h e = fun_ext (λ x. rw (h x, e) (sym (or-false (upto (f x) n))))

-- where one does
pub upto_yes : (f : ℕ → Bool) (i n : ℕ) → i < n → f i ≡ true → upto f n ≡ true
unfolding upto
upto_yes f i zero l q = absurd (omega arith)
upto_yes f i (suc n) l q =
    elim (dec_lt i n) [
      | yes o ↦ rw (upto_yes f i n o q)
      | no o ↦ let e : i ≡ n = omega arith in rw (rw e at q) (or-true (upto f n))
    ]

-- where none does
pub upto_no : (f : ℕ → Bool) (n : ℕ) → ((i : ℕ) → i < n → f i ≡ false) → upto f n ≡ false
unfolding upto
upto_no f zero h = refl
upto_no f (suc n) h = rw (upto_no f n (λ i l. h i (omega arith)), h n (omega arith))

-- ---- those that are left
module _ {A : Type 0} where
  -- some go, and then others
  pub those_then : (p q : A → Bool) (xs : List A) → those (λ x. not (q x)) (those (λ x. not (p x)) xs) ≡ those (λ x. not (p x || q x)) xs
  unfolding those
  those_then p q [] = refl
  those_then p q (x ∷ xs) =
      split (p x) (λ r. rw r (those_then p q xs))
      (λ r. rw r (split (q x) (λ s. rw s (those_then p q xs)) (λ s. rw s (ap (λ (l : List A). x ∷ l) (those_then p q xs)))))

  -- none goes
  pub those-all : (xs : List A) → those (λ x. true) xs ≡ xs
  unfolding those
  those-all [] = refl
  those-all (x ∷ xs) = ap (λ (l : List A). x ∷ l) (those-all xs)

  -- one of those that pass another test
  pub some-those : (p q : A → Bool) (xs : List A) → some p (those q xs) ≡ some (λ x. q x && p x) xs
  unfolding some those
  some-those p q [] = refl
  some-those p q (x ∷ xs) = split (q x) (λ r. rw r (ap (λ (b : Bool). p x || b) (some-those p q xs))) (λ r. rw r (some-those p q xs))
