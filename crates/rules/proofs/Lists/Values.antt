-- Lists of values, of ranks and of the first numbers: one of them leaves, one joins. Nothing here knows a call.
use Prim.Native.Nat.{ℕ, zero, suc, ◌+◌, ◌≤◌, ◌<◌}
use native.Mathlib.Decide.{dec_lt}
use native.Mathlib.Nat.{le_of_suc-le-suc}
use native.Mathlib.Omega.{arith}
use mathlib.Core.Path.{◌≡◌, refl, sym, ap, ap₂, ◌∙◌}
use mathlib.Core.Bool.{Bool, true, false, cond}
use mathlib.Core.List.{List, [], ◌∷◌, ◌++◌, map, map-append}
use lib.ListN.{length, get_or, take, drop, length-append, get_or-append}
use lib.Dec.{eqb, ltb}
use lib.Seq.{take-suc, get_or-append-add, get_or_at}
use borrow.Author.Tests.{eqb-true, eqb-false, le-ltb, lt-ltb, ltb-true, ltb-false}
use Rattle.ledger.specs.Lists.{those}
use Rattle.pools.specs.Pool.{Exact, occurs}
use Rattle.pools.specs.Lists.{keep, without}
use Rattle.pools.proofs.BoolLaws.{split}
use Rattle.pools.proofs.ListLaws.{keep-all_on, length_without, occurs-append, occurs-place, without_at, without-before}
use Rattle.rules.specs.Agrees.{Ascending, up_to}

-- ---- numbers of entries: those that there were, and v for entry i
abbrev pub anew : ℕ → ℕ → (ℕ → ℕ) → ℕ → ℕ
anew i v f j = cond (eqb j i) v (f j)

-- ---- a list, read
module _ {A : Type 0} {B : Type 0} (f : A → B) where
  -- its beginning
  map-take : (n : ℕ) (l : List A) → map f (take n l) ≡ take n (map f l)
  map-take zero l = refl
  map-take (suc n) [] = refl
  map-take (suc n) (x ∷ l) = ap (λ (m : List B). f x ∷ m) (map-take n l)

  -- its rest
  map-drop : (n : ℕ) (l : List A) → map f (drop n l) ≡ drop n (map f l)
  map-drop zero l = refl
  map-drop (suc n) [] = refl
  map-drop (suc n) (x ∷ l) = map-drop n l

  -- the list without one
  pub map-without : (j : ℕ) (l : List A) → map f (without j l) ≡ without j (map f l)
  map-without j l = map-append f (take j l) (drop (suc j) l) ∙ ap₂ (λ (x y : List B). x ++ y) (map-take j l) (map-drop (suc j) l)

  -- one of it
  pub map_at : (l : List A) (i : ℕ) (a : A) (b : B) → i < length l → get_or (map f l) i b ≡ f (get_or l i a)
  map_at [] i a b h = absurd (omega arith)
  map_at (x ∷ l) zero a b h = refl
  map_at (x ∷ l) (suc i) a b h = map_at l i a b (le_of_suc-le-suc h)

-- ---- the first numbers
-- each is there once
pub up_to_exact : (n : ℕ) → Exact (up_to n) (λ i. ltb i n)
unfolding up_to occurs
up_to_exact zero i = rw (le-ltb i 0 (omega arith))
up_to_exact (suc n) i =
    occurs-append i (up_to n) (n ∷ [])
    ∙ rw (up_to_exact n i)
    (split (eqb n i)
    (λ q. let e = eqb-true n i q in rw (q, le-ltb i n (omega arith), lt-ltb i (suc n) (omega arith)))
    (λ q. let e = eqb-false n i q in rw q (split (ltb i n)
    (λ p. let h = ltb-true i n p in rw (p, lt-ltb i (suc n) (omega arith)))
    (λ p. let h = ltb-false i n p in rw (p, le-ltb i (suc n) (omega (arith, e)))))))

-- there are n
pub up_to-length : (n : ℕ) → length (up_to n) ≡ n
unfolding up_to
up_to-length zero = refl
up_to-length (suc n) = length-append (up_to n) (n ∷ []) ∙ omega (arith, up_to-length n)

-- what is read of the first words of a column, by their numbers
pub map-up_to : {A : Type 0} (f : ℕ → A) (q : List ℕ) (n : ℕ) → n ≤ length q → map (λ i. f (get_or q i 0)) (up_to n) ≡ map f (take n q)
unfolding up_to
map-up_to f q zero h = refl
map-up_to f q (suc n) h =
    map-append (λ i. f (get_or q i 0)) (up_to n) (n ∷ [])
    ∙ ap (λ (m : List _). m ++ (f (get_or q n 0) ∷ [])) (map-up_to f q n (omega arith))
    ∙ sym (map-append f (take n q) (get_or q n 0 ∷ []))
    ∙ ap (map f) (sym (take-suc q n 0 h))

-- the i-th of them
pub up_to-at : (n i : ℕ) → i < n → get_or (up_to n) i 0 ≡ i
unfolding up_to
up_to-at zero i h = absurd (omega arith)
up_to-at (suc n) i h =
    let l = up_to-length n in
    elim (dec_lt i n) [
      | yes p ↦ get_or-append (up_to n) (n ∷ []) 0 i (omega arith) ∙ up_to-at n i p
      | no p ↦ let e : i ≡ n = omega arith in rw e (get_or_at (up_to n) n [] 0 n l)
    ]

-- ---- those of the first that pass, and the rest: one more of the first
module _ {A : Type 0} (p : A → Bool) where
  -- which does not pass
  pub those-gone : (xs : List A) (i : ℕ) (x : A) → i < length xs → p (get_or xs i x) ≡ false →
      those p (take i (without i xs)) ++ drop i (without i xs) ≡ those p (take (suc i) xs) ++ drop (suc i) xs
  unfolding those
  those-gone [] i x h q = absurd (omega arith)
  those-gone (y ∷ xs) zero x h q = rw q
  those-gone (y ∷ xs) (suc i) x h q =
      let e = those-gone xs i x (le_of_suc-le-suc h) q in
      split (p y) (λ c. rw c (ap (λ (m : List A). y ∷ m) e)) (λ c. rw c e)

  -- which passes
  pub those_stays : (xs : List A) (i : ℕ) (x : A) → i < length xs → p (get_or xs i x) ≡ true →
      those p (take i xs) ++ drop i xs ≡ those p (take (suc i) xs) ++ drop (suc i) xs
  unfolding those
  those_stays [] i x h q = absurd (omega arith)
  those_stays (y ∷ xs) zero x h q = rw q
  those_stays (y ∷ xs) (suc i) x h q =
      let e = those_stays xs i x (le_of_suc-le-suc h) q in
      split (p y) (λ c. rw c (ap (λ (m : List A). y ∷ m) e)) (λ c. rw c e)

-- ---- ascending numbers
-- one of them leaves
pub ascending_without : (ns : List ℕ) (j : ℕ) → j < length ns → Ascending ns → Ascending (without j ns)
ascending_without ns j l a i m h b =
    let n = length_without ns j l in
    elim (dec_lt m j) [
      | yes p ↦ rw (without-before ns j i (omega arith) l, without-before ns j m p l) (a i m h (omega arith))
      | no p ↦ elim (dec_lt i j) [
        | yes q ↦ rw (without-before ns j i q l, without_at ns j m (omega arith) l) (a i (m + 1) (omega arith) (omega arith))
        | no q ↦ rw (without_at ns j i (omega arith) l, without_at ns j m (omega arith) l) (a (i + 1) (m + 1) (omega arith) (omega arith))
      ]
    ]

-- one that is greater than each joins the end
pub ascending_snoc : (ns : List ℕ) (v : ℕ) → ((i : ℕ) → i < length ns → get_or ns i 0 < v) → Ascending ns → Ascending (ns ++ (v ∷ []))
ascending_snoc ns v u a i m h b =
    let n = length-append ns (v ∷ []) in
    let last : get_or (ns ++ (v ∷ [])) (length ns + 0) 0 ≡ v = get_or-append-add ns (v ∷ []) 0 0 in
    elim (dec_lt m (length ns)) [
      | yes p ↦ rw (get_or-append ns (v ∷ []) 0 i (omega arith), get_or-append ns (v ∷ []) 0 m p) (a i m h p)
      | no p ↦ let e : m ≡ length ns + 0 = omega arith in rw (e, last, get_or-append ns (v ∷ []) 0 i (omega arith)) (u i (omega arith))
    ]

-- ---- how often a number stands in what is read of a list
pub occurs-map : {A : Type 0} (d : ℕ) (f : A → ℕ) (xs : List A) → occurs d (map f xs) ≡ length (keep (λ x. eqb (f x) d) xs)
unfolding occurs keep
occurs-map d f [] = refl
occurs-map d f (x ∷ xs) = split (eqb (f x) d) (λ q. rw (q, occurs-map d f xs) (omega arith)) (λ q. rw (q, occurs-map d f xs) (omega arith))

-- ---- one that alone does not pass leaves a list
pub keep-but : (p : ℕ → Bool) (es : List ℕ) (j : ℕ) → j < length es → p (get_or es j 0) ≡ false →
    ((i : ℕ) → i < length es → (i ≡ j → ⊥) → p (get_or es i 0) ≡ true) → keep p es ≡ without j es
unfolding keep
keep-but p [] j h q w = absurd (omega arith)
keep-but p (x ∷ es) zero h q w = rw q (keep-all_on p es (λ e o. let i = occurs-place e es o in ap p (sym i.2) ∙ w (suc i.0) (omega (arith, i.1)) (λ z. omega arith)))
keep-but p (x ∷ es) (suc j) h q w =
    let yes : p x ≡ true = w 0 (omega arith) (λ z. omega arith) in
    rw yes (ap (λ (m : List ℕ). x ∷ m) (keep-but p es j (le_of_suc-le-suc h) q (λ i l n. w (suc i) (omega arith) (λ z. n (omega arith)))))
