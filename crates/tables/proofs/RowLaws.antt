-- A buffer as a row of columns: what a store into it and a list written over a part of it do to each column, for any sizes.
use Prim.Native.Nat.{ℕ, zero, suc, ◌+◌, ◌-◌, ◌*◌, ◌≤◌, ◌<◌}
use native.Mathlib.Nat.{le_of_suc-le-suc, add_assoc, zero-add, suc-add, zero-mul, suc-mul}
use native.Mathlib.Omega.{arith}
use mathlib.Core.Path.{◌≡◌, refl, sym, ap, ◌∙◌}
use mathlib.Core.List.{List, [], ◌∷◌, ◌++◌, append_assoc}
use lib.ListN.{length, get_or, set, take, drop, replicate, length-append, length-take, length-drop, take-append-drop}
use lib.Seq.{take-set-le, drop-set-lt, take-set-lt, drop-set-add, take_at, drop_at, length-take-le, take-nil, drop-nil, take-take, drop-drop, take-append-add, drop-append-add, take-append-le, take-add, paste, length_paste_head, get_or-append-add}
use lib.Dec.{eqb-zero-suc, eqb-suc-zero, eqb-suc-suc}
use Rattle.tables.specs.State.{State, with_col, poke, cut, sum, glue}

-- ---- one word
-- a store into a column is that column's own, and every other column is as it was
pub cut-put : (ns w : List ℕ) (c i v : ℕ) → i < get_or ns c 0 → (d : ℕ) → cut ns (set w (sum (take c ns) + i) v) d ≡ poke (cut ns w) c i v d
unfolding cut with_col poke
cut-put [] w c i v h d = absurd (omega arith)
cut-put (n ∷ ns) w zero i v h zero = rw (zero-add i) (take-set-lt n w i v h)
cut-put (n ∷ ns) w zero i v h (suc d) = rw (eqb-suc-zero d, zero-add i, drop-set-lt n w i v h)
cut-put (n ∷ ns) w (suc c) i v h zero = rw (eqb-zero-suc c) (take-set-le n w (n + sum (take c ns) + i) v (omega arith))
cut-put (n ∷ ns) w (suc c) i v h (suc d) = rw (eqb-suc-suc d c, add_assoc n (sum (take c ns)) i, drop-set-add n w (sum (take c ns) + i) v) (cut-put ns (drop n w) c i v h d)

-- a column has no word past its size
pub cut_short : (ns w : List ℕ) (c : ℕ) → c < length ns → length (cut ns w c) ≤ get_or ns c 0
unfolding cut
cut_short [] w c h = absurd (omega arith)
cut_short (n ∷ ns) w zero h = rw (length-take n w) (omega arith)
cut_short (n ∷ ns) w (suc c) h = cut_short ns (drop n w) c (le_of_suc-le-suc h)

-- ---- sizes
-- every column ends within the sum of all
pub ends-all : (ns : List ℕ) (c : ℕ) → sum (take c ns) + get_or ns c 0 ≤ sum ns
ends-all [] zero = omega arith
ends-all [] (suc c) = omega arith
ends-all (n ∷ ns) zero = omega arith
ends-all (n ∷ ns) (suc c) = omega (arith, ends-all ns c)

-- in a buffer that holds them all each column has its size
pub cut-full : (ns w : List ℕ) → sum ns ≤ length w → (c : ℕ) → c < length ns → length (cut ns w c) ≡ get_or ns c 0
unfolding cut
cut-full [] w h c l = absurd (omega arith)
cut-full (n ∷ ns) w h zero l = length-take-le n w (omega arith)
cut-full (n ∷ ns) w h (suc c) l = cut-full ns (drop n w) (rw (length-drop n w) (omega arith)) c (le_of_suc-le-suc l)

-- and a buffer in which each has its size holds them all
pub full-cut : (ns w : List ℕ) → ((c : ℕ) → c < length ns → length (cut ns w c) ≡ get_or ns c 0) → sum ns ≤ length w
unfolding cut
full-cut [] w h = omega arith
full-cut (n ∷ ns) w h =
    omega (arith, h 0 (omega arith), length-take n w, length-drop n w, full-cut ns (drop n w) (λ c l. h (suc c) (omega arith)))

-- ---- there and back
-- the columns of a buffer, one after the other, are the buffer
pub glue-cut : (ns w : List ℕ) → glue (length ns) (cut ns w) ≡ w
unfolding cut glue
glue-cut [] w = refl
glue-cut (n ∷ ns) w = rw (glue-cut ns (drop n w)) (take-append-drop n w)

-- columns that have their sizes, one after the other, are cut at the same places
pub cut-glue : (ns : List ℕ) (f : State) → ((c : ℕ) → c < length ns → length (f c) ≡ get_or ns c 0) → (c : ℕ) → c ≤ length ns → cut ns (glue (length ns) f) c ≡ f c
unfolding cut glue
cut-glue [] f h zero l = refl
cut-glue [] f h (suc c) l = absurd (omega arith)
cut-glue (n ∷ ns) f h zero l = take_at (f 0) _ n (h 0 (omega arith))
cut-glue (n ∷ ns) f h (suc c) l = rw (drop_at (f 0) _ n (h 0 (omega arith))) (cut-glue ns (λ d. f (suc d)) (λ d m. h (suc d) (omega arith)) c (le_of_suc-le-suc l))

-- what is past columns that have their sizes is the last one
pub drop-glue : (ns : List ℕ) (f : State) → ((c : ℕ) → c < length ns → length (f c) ≡ get_or ns c 0) → drop (sum ns) (glue (length ns) f) ≡ f (length ns)
unfolding glue
drop-glue [] f h = refl
drop-glue (n ∷ ns) f h =
    ap (λ (m : ℕ). drop (m + sum ns) (f 0 ++ glue (length ns) (λ c. f (suc c)))) (sym (h 0 (omega arith)))
    ∙ drop-append-add (f 0) _ (sum ns)
    ∙ drop-glue ns (λ c. f (suc c)) (λ c l. h (suc c) (omega arith))

-- and all of them together are as long as their sizes and that one
pub length-glue : (ns : List ℕ) (f : State) → ((c : ℕ) → c < length ns → length (f c) ≡ get_or ns c 0) → length (glue (length ns) f) ≡ sum ns + length (f (length ns))
unfolding glue
length-glue [] f h = omega arith
length-glue (n ∷ ns) f h =
    omega (arith, length-append (f 0) (glue (length ns) (λ c. f (suc c))), h 0 (omega arith), length-glue ns (λ c. f (suc c)) (λ c l. h (suc c) (omega arith)))

-- there is no column past the last one
pub cut-past : (ns w : List ℕ) (c : ℕ) → length ns < c → cut ns w c ≡ []
unfolding cut
cut-past [] w zero l = absurd (omega arith)
cut-past [] w (suc c) l = refl
cut-past (n ∷ ns) w zero l = absurd (omega arith)
cut-past (n ∷ ns) w (suc c) l = cut-past ns (drop n w) c (le_of_suc-le-suc l)

-- ---- a list written over a part
-- the last r of the first m + r are the first r after m
drop-take : (m r : ℕ) (l : List ℕ) → drop m (take (m + r) l) ≡ take r (drop m l)
drop-take zero r l = rw (zero-add r)
drop-take (suc m) r [] = rw (take-nil (suc m + r), drop-nil (suc m), take-nil r)
drop-take (suc m) r (x ∷ l) = rw (suc-add m r) (drop-take m r l)

module _ (p m : List ℕ) (at n N : ℕ) (h : at + n ≤ N) (g : N ≤ length p) (l : n ≤ length m) where
  -- what is before the part's end is as long as it should be
  front : length (take at p ++ take n m) ≡ at + n
  front = length_paste_head p at m n (omega arith) l

  -- N is past that
  split_N : N ≡ length (take at p ++ take n m) + (N - (at + n))
  split_N = omega (arith, front)

  -- and past the part
  whole : N ≡ at + n + (N - (at + n))
  whole = omega arith

  -- a part within the first N, seen among them
  pub take_pasted : take N (paste p at m n) ≡ paste (take N p) at m n
  take_pasted =
      ap (λ k. take k (paste p at m n)) split_N
      ∙ take-append-add (take at p ++ take n m) (drop (at + n) p) (N - (at + n))
      ∙ sym (rw (take-take at N p (omega arith)) (ap (λ r. (take at p ++ take n m) ++ r) (ap (λ k. drop (at + n) (take k p)) whole ∙ drop-take (at + n) (N - (at + n)) p)))

  -- what is past the first N is as it was
  pub drop_pasted : drop N (paste p at m n) ≡ drop N p
  drop_pasted =
      ap (λ k. drop k (paste p at m n)) split_N
      ∙ drop-append-add (take at p ++ take n m) (drop (at + n) p) (N - (at + n))
      ∙ drop-drop (N - (at + n)) (at + n) p
      ∙ ap (λ k. drop k p) (sym whole)

module _ (w l : List ℕ) (m a n : ℕ) (h : m + a ≤ length w) where
  -- what is before the part is as it was
  take-before : take m (paste w (m + a) l n) ≡ take m w
  take-before =
      let e : m ≤ length (take (m + a) w) = rw (length-take-le (m + a) w h) (omega arith) in
      rw (append_assoc (take (m + a) w) (take n l) (drop (m + a + n) w))
      (take-append-le m (take (m + a) w) (take n l ++ drop (m + a + n) w) e ∙ take-take m (m + a) w (omega arith))

  -- the part as seen from a place before it
  drop-before : drop m (paste w (m + a) l n) ≡ paste (drop m w) a l n
  drop-before =
      rw (append_assoc (take (m + a) w) (take n l) (drop (m + a + n) w), take-add m a w, append_assoc (take m w) (take a (drop m w)) (take n l ++ drop (m + a + n) w), add_assoc m a n, ← drop-drop (a + n) m w)
      (drop_at (take m w) _ m (length-take-le m w (omega arith)) ∙ sym (append_assoc (take a (drop m w)) (take n l) (drop (a + n) (drop m w))))

-- a list written into a column is that column's own, and every other column is as it was
pub cut_paste : (ns w l : List ℕ) (c i n : ℕ) → c < length ns → i + n ≤ get_or ns c 0 → sum ns ≤ length w → n ≤ length l → (d : ℕ) → cut ns (paste w (sum (take c ns) + i) l n) d ≡ with_col (cut ns w) c (paste (cut ns w c) i l n) d
unfolding cut with_col
cut_paste [] w l c i n b h g k d = absurd (omega arith)
cut_paste (m ∷ ns) w l zero i n b h g k zero = rw (zero-add i) (take_pasted w l i n m h (omega arith) k)
cut_paste (m ∷ ns) w l zero i n b h g k (suc d) = rw (eqb-suc-zero d, zero-add i) (ap (λ x. cut ns x d) (drop_pasted w l i n m h (omega arith) k))
cut_paste (m ∷ ns) w l (suc c) i n b h g k zero =
    rw (eqb-zero-suc c, add_assoc m (sum (take c ns)) i) (take-before w l m (sum (take c ns) + i) n (omega (arith, ends-all ns c)))
cut_paste (m ∷ ns) w l (suc c) i n b h g k (suc d) =
    rw (eqb-suc-suc d c, add_assoc m (sum (take c ns)) i)
    (ap (λ x. cut ns x d) (drop-before w l m (sum (take c ns) + i) n (omega (arith, ends-all ns c)))
    ∙ cut_paste ns (drop m w) l c i n (le_of_suc-le-suc b) h (rw (length-drop m w) (omega arith)) k d)

-- the first n words of a column lie where the column starts
pub cut-first : (ns w : List ℕ) (c n : ℕ) → c < length ns → n ≤ get_or ns c 0 → take n (drop (sum (take c ns)) w) ≡ take n (cut ns w c)
unfolding cut
cut-first [] w c n b g = absurd (omega arith)
cut-first (m ∷ ns) w zero n b g = sym (take-take n m w g)
cut-first (m ∷ ns) w (suc c) n b g = ap (λ x. take n x) (sym (drop-drop (sum (take c ns)) m w)) ∙ cut-first ns (drop m w) c n (le_of_suc-le-suc b) g

-- ---- columns of one size in a row: where the i-th of n columns of x words lies, past the columns a
-- it starts after i of them
rep_start : (n x i : ℕ) (r : List ℕ) → i < n → sum (take i (replicate n x ++ r)) ≡ i * x
rep_start zero x i r h = absurd (omega arith)
rep_start (suc n) x zero r h = sym (zero-mul x)
rep_start (suc n) x (suc i) r h = rw (suc-mul i x, rep_start n x i r (le_of_suc-le-suc h)) (omega arith)

-- it has x words
rep_size : (n x i : ℕ) (r : List ℕ) → i < n → get_or (replicate n x ++ r) i 0 ≡ x
rep_size zero x i r h = absurd (omega arith)
rep_size (suc n) x zero r h = refl
rep_size (suc n) x (suc i) r h = rep_size n x i r (le_of_suc-le-suc h)

-- a place past the columns a is past their sum
sum_past : (a r : List ℕ) (i : ℕ) → sum (take (length a + i) (a ++ r)) ≡ sum a + sum (take i r)
sum_past [] r i = rw (zero-add i) (omega arith)
sum_past (x ∷ a) r i = rw (suc-add (length a) i) (omega (arith, sum_past a r i))

-- both together: where it starts
nth-start : (a : List ℕ) (n x : ℕ) (r : List ℕ) (i : ℕ) → i < n → sum (take (length a + i) (a ++ (replicate n x ++ r))) ≡ sum a + i * x
nth-start a n x r i h = rw (sum_past a (replicate n x ++ r) i, rep_start n x i r h)

-- and how many words it has
nth-size : (a : List ℕ) (n x : ℕ) (r : List ℕ) (i : ℕ) → i < n → get_or (a ++ (replicate n x ++ r)) (length a + i) 0 ≡ x
nth-size a n x r i h = get_or-append-add a (replicate n x ++ r) i 0 ∙ rep_size n x i r h

-- the same, of column number c itself
pub nth-place : (a r : List ℕ) (n x c f z : ℕ) → length a ≤ c → c < length a + n → f ≡ sum a + (c - length a) * x → z ≡ x →
    (f ≡ sum (take c (a ++ (replicate n x ++ r)))) × (z ≡ get_or (a ++ (replicate n x ++ r)) c 0)
nth-place a r n x c f z l h e q =
    let i = c - length a in
    let m : length a + i ≡ c = omega arith in
    let g : i < n = omega arith in (
      e ∙ sym (nth-start a n x r i g) ∙ ap (λ (d : ℕ). sum (take d (a ++ (replicate n x ++ r)))) m,
      q ∙ sym (nth-size a n x r i g) ∙ ap (λ (d : ℕ). get_or (a ++ (replicate n x ++ r)) d 0) m,
    )
