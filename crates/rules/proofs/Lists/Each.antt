-- Something is so of each of a list: of its parts, of what is read of it, of one of it. Nothing here knows a call.
use Prim.Native.Nat.{ℕ, zero, suc, ◌<◌}
use native.Mathlib.Omega.{arith}
use mathlib.Core.Path.{◌≡◌, refl, sym}
use mathlib.Core.Bool.{Bool, true, false}
use mathlib.Core.List.{List, [], ◌∷◌, ◌++◌, map}
use lib.Dec.{eqb}
use borrow.Author.Tests.{eqb-true}
use Rattle.ledger.specs.Lists.{first, some, those}
use Rattle.pools.specs.Pool.{occurs}
use Rattle.pools.proofs.BoolLaws.{and_left, and_right, neither, split, true_false}
use Rattle.rules.specs.Agrees.{up_to}
use Rattle.rules.proofs.Frames.Wrote.{All, mem, within}

-- ---- of each of a list of columns
module _ (P : ℕ → Type 0) where
  -- of one of them
  pub all_one : (cs : List ℕ) → All P cs → (c : ℕ) → mem c cs ≡ true → P c
  all_one [] h c m = true_false false m refl
  all_one (d ∷ cs) h c m = split (eqb c d) (λ q. rw (eqb-true c d q) h.0) (λ q. all_one cs h.1 c (rw q at m))

  -- of some of them
  pub all-within : (ds cs : List ℕ) → within ds cs ≡ true → All P cs → All P ds
  all-within [] cs e h = tt
  all-within (d ∷ ds) cs e h = (all_one cs h d (and_left (mem d cs) (within ds cs) e), all-within ds cs (and_right (mem d cs) (within ds cs) e) h)

  -- of a number that stands among them
  pub all_stands : (es : List ℕ) → All P es → (e : ℕ) → 0 < occurs e es → P e
  unfolding occurs
  all_stands [] h e o = absurd (omega arith)
  all_stands (x ∷ es) h e o = split (eqb x e) (λ q. rw (sym (eqb-true x e q)) h.0) (λ q. all_stands es h.1 e (omega (arith, rw q at o)))

-- ---- of each of any list
module _ {A : Type 0} (P : A → Type 0) where
  -- where it is so of anything
  pub all_any : (xs : List A) → ((x : A) → P x) → All P xs
  all_any [] h = tt
  all_any (x ∷ xs) h = (h x, all_any xs h)

  -- of two lists
  pub all_both : (xs ys : List A) → All P xs → All P ys → All P (xs ++ ys)
  all_both [] ys h i = i
  all_both (x ∷ xs) ys h i = (h.0, all_both xs ys h.1 i)

  -- of those that pass
  pub all-those : (p : A → Bool) (xs : List A) → All P xs → All P (those p xs)
  unfolding those
  all-those p [] h = tt
  all-those p (x ∷ xs) h = split (p x) (λ q. rw q (h.0, all-those p xs h.1)) (λ q. rw q (all-those p xs h.1))

  -- of the first that passes
  pub all_first : (p : A → Bool) (xs : List A) → All P xs → All P (first p xs)
  unfolding first
  all_first p [] h = tt
  all_first p (x ∷ xs) h = split (p x) (λ q. rw q (h.0, tt)) (λ q. rw q (all_first p xs h.1))

  -- of the first that passes, where it is so of whatever passes
  pub all_passing : (p : A → Bool) (xs : List A) → ((x : A) → p x ≡ true → P x) → All P (first p xs)
  unfolding first
  all_passing p [] h = tt
  all_passing p (x ∷ xs) h = split (p x) (λ q. rw q (h x q, tt)) (λ q. rw q (all_passing p xs h))

  -- of one that passes
  pub all-some : (p : A → Bool) (xs : List A) → All P xs → some p xs ≡ true → (x : A) × P x × (p x ≡ true)
  unfolding some
  all-some p [] h e = true_false false e refl
  all-some p (x ∷ xs) h e = split (p x) (λ q. (x, h.0, q)) (λ q. all-some p xs h.1 (rw q at e))

-- where none of a list passes, none does
pub all_none : {A : Type 0} (p : A → Bool) (xs : List A) → All (λ (x : A). p x ≡ false) xs → some p xs ≡ false
unfolding some
all_none p [] h = refl
all_none p (x ∷ xs) h = rw h.0 (all_none p xs h.1)

-- and back
pub none_all : {A : Type 0} (p : A → Bool) (xs : List A) → some p xs ≡ false → All (λ (x : A). p x ≡ false) xs
unfolding some
none_all p [] e = tt
none_all p (x ∷ xs) e = let (y, z) = neither (p x) (some p xs) e in (y, none_all p xs z)

-- another thing, that follows from it
pub all_then : {A : Type 0} (P Q : A → Type 0) (xs : List A) → ((x : A) → P x → Q x) → All P xs → All Q xs
all_then P Q [] f h = tt
all_then P Q (x ∷ xs) f h = (f x h.0, all_then P Q xs f h.1)

-- ---- of what is read of a list
module _ {A : Type 0} {B : Type 0} (Q : B → Type 0) (f : A → B) where
  -- where it follows from what is so of the list
  pub all_map : (P : A → Type 0) (xs : List A) → ((x : A) → P x → Q (f x)) → All P xs → All Q (map f xs)
  all_map P [] g h = tt
  all_map P (x ∷ xs) g h = (g x h.0, all_map P xs g h.1)

  -- and back
  pub all_read : (xs : List A) → All Q (map f xs) → All (λ x. Q (f x)) xs
  all_read [] h = tt
  all_read (x ∷ xs) h = (h.0, all_read xs h.1)

-- each of the first numbers is below their count
pub all-up_to : (n : ℕ) → All (λ i. i < n) (up_to n)
unfolding up_to
all-up_to zero = tt
all-up_to (suc n) = all_both (λ i. i < suc n) (up_to n) (n ∷ []) (all_then (λ i. i < n) (λ i. i < suc n) (up_to n) (λ i h. omega arith) (all-up_to n)) (omega arith, tt)
