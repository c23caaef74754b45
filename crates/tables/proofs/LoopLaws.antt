-- What the loops over a lent list turn on: stores from the front, and a list that closes up over one of its words.
use Prim.Native.Nat.{ℕ, zero, suc, ◌+◌, ◌-◌, ◌≤◌, ◌<◌}
use native.Mathlib.Nat.{le_of_suc-le-suc, zero-add, add-zero, zero-sub, sub-zero}
use native.Mathlib.Numerals.{add-one}
use native.Mathlib.Omega.{arith}
use mathlib.Core.Path.{◌≡◌, refl, sym, ap, ◌∙◌}
use mathlib.Core.List.{List, [], ◌∷◌, ◌++◌, append-nil}
use lib.ListN.{length, get_or, set, take, drop, replicate, length-append, length-set, length-take, length-drop, take-append-drop, drop_of_length-le, length-replicate, replicate-append-replicate}
use lib.Seq.{length-take-le, take_all, take-length, drop-length, take-suc, drop-cons, append_snoc, get_or-append-add, get_or-set_same, get_or-set_other, take-set-lt, drop-set-add, get_or-take, get_or-drop, ext_get_or, set_at, take_at, sets, length-sets, sets-eq, paste, paste-suc}
use Rattle.std.specs.List.{copy_within}
use Rattle.std.proofs.lemmas.Slice.{put_mid-paste}
use borrow.Rule.Slice.PartMut.{put_mid}
use Rattle.pools.specs.Lists.{without}
use Rattle.pools.proofs.ListLaws.{length_without}
use Rattle.tables.specs.Action.{closed}

-- ---- stores one after the other
-- they are a list written over a part
pub sets_paste : (l : List ℕ) (i : ℕ) (m : List ℕ) → i + length m ≤ length l → sets l i m ≡ paste l i m (length m)
sets_paste l i m h = rw (take-length m) (sets-eq m l i h)

-- a part written anew, of k words, is m stored there
pub sets_part : (l q m : List ℕ) (i k : ℕ) → q ≡ m → k ≡ length m → i + k ≤ length l → put_mid i k l q ≡ sets l i m
sets_part l q m i k e f h = put_mid-paste i k l q m k e refl f ∙ sym (rw f (sets_paste l i m (omega arith)))

-- two lists stored end to end
pub sets_append : (l : List ℕ) (i : ℕ) (m n : List ℕ) → sets l i (m ++ n) ≡ sets (sets l i m) (i + length m) n
sets_append l i [] n = ap (λ (j : ℕ). sets l j n) (omega arith)
sets_append l i (x ∷ m) n = sets_append (set l i x) (suc i) m n ∙ ap (λ (j : ℕ). sets (sets (set l i x) (suc i) m) j n) (omega arith)

-- a place where none is stored is as it was
pub sets_other : (l : List ℕ) (i : ℕ) (m : List ℕ) (j : ℕ) → ((n : ℕ) → n < length m → j ≡ i + n → ⊥) → get_or (sets l i m) j 0 ≡ get_or l j 0
sets_other l i [] j h = refl
sets_other l i (x ∷ m) j h =
    sets_other (set l i x) (suc i) m j (λ n g e. h (suc n) (omega arith) (omega arith)) ∙ get_or-set_other l i j x 0 (λ e. h 0 (omega arith) (omega arith))

-- and the others hold what is stored
pub sets_same : (l : List ℕ) (i : ℕ) (m : List ℕ) (j : ℕ) → i + length m ≤ length l → j < length m → get_or (sets l i m) (i + j) 0 ≡ get_or m j 0
sets_same l i [] j h g = absurd (omega arith)
sets_same l i (x ∷ m) zero h g = rw (add-zero i) (sets_other (set l i x) (suc i) m i (λ n o e. omega arith) ∙ get_or-set_same l i x 0 (omega arith))
sets_same l i (x ∷ m) (suc j) h g =
    ap (λ (o : ℕ). get_or (sets (set l i x) (suc i) m) o 0) (omega arith) ∙ sets_same (set l i x) (suc i) m j (rw length-set (omega arith)) (le_of_suc-le-suc g)

-- stored over a whole list they are the list
pub sets_all : (l m : List ℕ) → length m ≡ length l → sets l 0 m ≡ m
sets_all l m h = sets-eq m l 0 (omega arith) ∙ rw (drop_of_length-le l {i = 0 + length m} (omega arith)) (append-nil m)

-- among the N words from the A-th on, seen there
pub sets_within : (l : List ℕ) (A N i : ℕ) (m : List ℕ) → i + length m ≤ N → take N (drop A (sets l (A + i) m)) ≡ sets (take N (drop A l)) i m
sets_within l A N i [] h = refl
sets_within l A N i (x ∷ m) h =
    ap (λ (j : ℕ). take N (drop A (sets (set l (A + i) x) j m))) (omega arith)
    ∙ sets_within (set l (A + i) x) A N (suc i) m (omega arith)
    ∙ rw (drop-set-add A l i x, take-set-lt N (drop A l) i x (omega arith))

-- none of them stored there, those words are as they were
pub sets_apart : (l : List ℕ) (A N i : ℕ) (m : List ℕ) → ((j n : ℕ) → j < N → n < length m → A + j ≡ i + n → ⊥) → take N (drop A (sets l i m)) ≡ take N (drop A l)
sets_apart l A N i m h =
    ext_get_or 0 (take N (drop A (sets l i m))) (take N (drop A l)) (simp (length-take, length-drop, length-sets))
    (λ j g.
    let b : j < N = omega (arith, length-take N (drop A (sets l i m))) in
    get_or-take N (drop A (sets l i m)) j 0 b ∙ get_or-drop A (sets l i m) j 0 ∙ sets_other l i m (A + j) (λ n o. h j n b o)
    ∙ sym (get_or-take N (drop A l) j 0 b ∙ get_or-drop A l j 0))

-- over zeros
pub sets_zeros : (N : ℕ) (m : List ℕ) → length m ≤ N → sets (replicate N 0) 0 m ≡ m ++ replicate (N - length m) 0
sets_zeros N m h =
    let e : length (replicate {A = ℕ} N 0) ≡ N = length-replicate N 0 in
    sets-eq m (replicate N 0) 0 (omega arith) ∙ rw (zero-add (length m)) (ap (λ (r : List ℕ). m ++ r) (drop-zeros (length m) N))
  where
    -- zeros after the first n
    drop-zeros : (n N : ℕ) → drop n (replicate {A = ℕ} N 0) ≡ replicate (N - n) 0
    drop-zeros zero N = rw (sub-zero N)
    drop-zeros (suc n) zero = rw (zero-sub (suc n))
    drop-zeros (suc n) (suc N) = let e : suc N - suc n ≡ N - n = omega arith in rw e (drop-zeros n N)

-- a turn of the loop that copies m
pub copy-turn : (l : List ℕ) (a : ℕ) (m : List ℕ) (i : ℕ) → i < length m → set (sets l a (take i m)) (a + i) (get_or m i 0) ≡ sets l a (take (i + 1) m)
copy-turn l a m i h =
    let e : length (take i m) ≡ i = length-take-le i m (omega arith) in
    rw (add-one i, take-suc m i 0 h, sets_append l a (take i m) (get_or m i 0 ∷ []), e)

-- a turn of the loop that writes zeros
pub zero_turn : (l : List ℕ) (a i : ℕ) → set (sets l a (replicate i 0)) (a + i) 0 ≡ sets l a (replicate (i + 1) 0)
zero_turn l a i = rw (← replicate-append-replicate {A = ℕ} i 1 0, sets_append l a (replicate i 0) (0 ∷ []), length-replicate {A = ℕ} i 0)

-- ---- a list s written over d from the front: after i turns
abbrev pub part : List ℕ → List ℕ → ℕ → List ℕ
part s d i = take i s ++ drop i d

module _ (s d : List ℕ) where
  -- a turn
  pub part-turn : (i : ℕ) → i < length s → i < length d → set (part s d i) i (get_or s i 0) ≡ part s d (i + 1)
  part-turn i h g = rw add-one (simp zero-add at (paste-suc d 0 s i 0 (rw zero-add g) h))

  -- what it has not reached is as it was
  pub part_rest : (i m : ℕ) → i ≤ m → i ≤ length s → get_or (part s d i) m 0 ≡ get_or d m 0
  part_rest i m l h =
      let e : m ≡ length (take i s) + (m - i) = omega (arith, length-take-le i s h) in
      let f : i + (m - i) ≡ m = omega arith in
      ap (λ (x : ℕ). get_or (part s d i) x 0) e ∙ get_or-append-add (take i s) (drop i d) (m - i) 0 ∙ get_or-drop i d (m - i) 0 ∙ ap (λ (x : ℕ). get_or d x 0) f

  -- its last store, where s is one shorter than d
  pub part-last : (v n : ℕ) → length s ≡ n → length d ≡ n + 1 → set (part s d n) n v ≡ s ++ (v ∷ [])
  part-last v n e f =
      let t : take n s ≡ s = take_all n s (omega arith) in
      let o : drop n d ≡ get_or d n 0 ∷ [] = drop-cons d n 0 (omega arith) ∙ ap (λ (l : List ℕ). get_or d n 0 ∷ l) (drop_of_length-le d {i = suc n} (omega arith)) in
      rw (t, o) (set_at s (get_or d n 0) [] v n e)

-- ---- a list that closes up over its j-th
-- before the first turn
pub part_without : (l : List ℕ) (j : ℕ) → j < length l → l ≡ part (without j l) l j
part_without l j h = sym (rw (take_at (take j l) (drop (suc j) l) j (length-take-le j l (omega arith))) (take-append-drop j l))

-- all words of a list
pub closed_all : (l : List ℕ) (j : ℕ) → closed (length l) j l ≡ without j l ++ (0 ∷ [])
closed_all l j = rw (take-length l, drop-length l)

-- the words after the j-th copied down by one, and the last one 0
pub copy_closes : (l : List ℕ) (j : ℕ) → j < length l → set (copy_within l (j + 1) (length l) j) (length l - 1) 0 ≡ closed (length l) j l
copy_closes l j h =
    let n = length l - 1 in
    let s = without j l in
    let e : length s ≡ n = omega (arith, length_without l j h) in
    let t : take (length l - suc j) (drop (suc j) l) ≡ drop (suc j) l = take_all (length l - suc j) (drop (suc j) l) (omega (arith, length-drop (suc j) l)) in
    let m : j + (length l - suc j) ≡ n = omega arith in
    let o : drop n l ≡ get_or l n 0 ∷ [] = drop-cons l n 0 (omega arith) ∙ ap (λ (r : List ℕ). get_or l n 0 ∷ r) (drop_of_length-le l {i = suc n} (omega arith)) in
    rw (add-one j, t, m, o) (set_at s (get_or l n 0) [] 0 n e ∙ sym (closed_all l j))

-- it stays as long
pub length-closed : (n j : ℕ) (l : List ℕ) → j < n → n ≤ length l → length (closed n j l) ≡ length l
length-closed n j l h g =
    let t = length-take-le n l g in
    length-append (without j (take n l)) (0 ∷ drop n l) ∙ omega (arith, length-drop n l, length_without (take n l) j (omega arith))

-- its first n words closed up, with those after them
pub closed_front : (n j : ℕ) (l : List ℕ) → closed (length (take n l)) j (take n l) ++ drop n l ≡ closed n j l
closed_front n j l = rw (closed_all (take n l) j) (append_snoc (without j (take n l)) 0 (drop n l))
