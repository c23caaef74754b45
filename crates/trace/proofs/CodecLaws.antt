-- Writing and reading are inverse both ways, for every form.
use Prim.Native.Nat.{ℕ, zero, suc, ◌+◌, ◌-◌, ◌*◌, ◌^◌, ◌<◌, ◌≤◌}
use mathlib.Core.Path.{◌≡◌, refl, sym, ap, ◌∙◌}
use mathlib.Core.Bool.{true}
use mathlib.Core.List.{List, [], ◌∷◌, ◌++◌, append_assoc, append-nil}
use native.Mathlib.Omega.{arith}
use lib.ListN.{length, take, drop, length-append, length-drop, take-append-drop}
use lib.Seq.{take_at, drop_at, drop-drop, length-take-le, take-add, take_all}
use lib.Dec.{eqb}
use borrow.Author.Tests.{eqb-true, eq-eqb}
use Rattle.pools.proofs.BoolLaws.{and_left, and_right, and_true}
use Rattle.records.specs.Bytes.{Bytes, le, of_le}
use Rattle.records.proofs.ByteLaws.{bytes_drop, bytes_take, le-of_le, length-le, of_le-le}
use Rattle.trace.specs.Codec.{Form, Note, Small, Stated, Whole, back_of, body, bytes, extent, formed, front_of, kind_of, note, numbers_in, text_length, text_of, words}

pub length-words : (xs : List ℕ) → length (words xs) ≡ 8 * length xs
length-words [] = refl
length-words (x ∷ xs) = length-append (le 8 x) (words xs) ∙ omega (arith, length-le 8 x, length-words xs)

-- numbers are read back
pub numbers-words : (k : ℕ) (xs ys : List ℕ) → length xs ≡ k → Small xs → numbers_in k (words xs ++ ys) ≡ xs
numbers-words zero [] ys e s = refl
numbers-words zero (x ∷ xs) ys e s = cc
numbers-words (suc k) [] ys e s = cc
numbers-words (suc k) (x ∷ xs) ys e s =
    rw (append_assoc (le 8 x) (words xs) ys, take_at (le 8 x) (words xs ++ ys) 8 (length-le 8 x), drop_at (le 8 x) (words xs ++ ys) 8 (length-le 8 x), of_le-le 8 x s.0, numbers-words k xs ys (omega arith) s.1)

-- bytes are those of the numbers that are read from them
pub words-numbers : (k : ℕ) (bs : List ℕ) → Bytes bs → 8 * k ≤ length bs → words (numbers_in k bs) ≡ take (8 * k) bs
words-numbers zero bs b h = refl
words-numbers (suc k) bs b h =
    let d : length (drop 8 bs) ≡ length bs - 8 = length-drop 8 bs in
    let e : le 8 (of_le (take 8 bs)) ≡ take 8 bs = le-of_le 8 (take 8 bs) (length-take-le 8 bs (omega arith)) (bytes_take 8 bs b) in
    let m : 8 * suc k ≡ 8 + 8 * k = omega arith in
    rw (m, e, words-numbers k (drop 8 bs) (bytes_drop 8 bs b) (omega arith)) (sym (take-add 8 (8 * k) bs))

-- ---- a note's bytes
module _ (n : Note) where
  pub drop-four : drop 4 (bytes n) ≡ body n
  unfolding bytes
  drop-four = rw (← append_assoc) (drop_at (le 2 (2 + length (body n)) ++ le 2 n.kind) (body n) 4 (length-append (le 2 (2 + length (body n))) (le 2 n.kind) ∙ omega (arith, length-le 2 (2 + length (body n)), length-le 2 n.kind)))

  pub kind_bytes : n.kind < 256 ^ 2 → kind_of (bytes n) ≡ n.kind
  unfolding bytes
  kind_bytes h =
      rw (drop_at (le 2 (2 + length (body n))) (le 2 n.kind ++ body n) 2 (length-le 2 _), take_at (le 2 n.kind) (body n) 2 (length-le 2 _)) (of_le-le 2 n.kind h)

  pub size-bytes : 2 + length (body n) < 256 ^ 2 → of_le (take 2 (bytes n)) ≡ 2 + length (body n)
  unfolding bytes
  size-bytes h = rw (take_at (le 2 (2 + length (body n))) (le 2 n.kind ++ body n) 2 (length-le 2 _)) (of_le-le 2 (2 + length (body n)) h)

  pub length-bytes : length (bytes n) ≡ 4 + length (body n)
  unfolding bytes
  length-bytes = length-append (le 2 (2 + length (body n))) (le 2 n.kind ++ body n) ∙ omega (arith, length-le 2 (2 + length (body n)), length-append (le 2 n.kind) (body n), length-le 2 n.kind)

module _ (f : Form) (n : Note) (h : Stated f n) where
  pub front_bytes : front_of f (bytes n) ≡ n.front
  front_bytes = rw (drop-four n) (numbers-words f.fore n.front (n.text ++ words n.back) h.fronts h.small_front)

  rest : drop (8 * f.fore) (drop 4 (bytes n)) ≡ n.text ++ words n.back
  rest = rw (drop-four n) (drop_at (words n.front) (n.text ++ words n.back) (8 * f.fore) (length-words n.front ∙ ap (λ (k : ℕ). 8 * k) h.fronts))

  pub text_bytes : text_of f (bytes n) ≡ n.text
  text_bytes = rw (front_bytes, rest) (take_at n.text (words n.back) (text_length f n.front) h.texts)

module _ (f : Form) (n : Note) (h : Whole f n) where
  back-bytes : back_of f (bytes n) ≡ n.back
  back-bytes =
      rw (front_bytes f n h.stated, rest f n h.stated, drop_at n.text (words n.back) (text_length f n.front) h.stated.texts)
      (ap (numbers_in f.aft) (sym (append-nil (words n.back))) ∙ numbers-words f.aft n.back [] h.backs h.small_back)

  -- READING WHAT WAS WRITTEN gives it back
  pub note-bytes : note f (bytes n) ≡ n
  unfolding note
  note-bytes = rw (kind_bytes n h.stated.kinds, back-bytes, text_bytes f n h.stated, front_bytes f n h.stated)

module _ (f : Form) (n : Note) (h : Stated f n) (k : length n.back ≡ f.aft) where
  length-body : length (body n) ≡ 8 * f.fore + (text_length f n.front + 8 * f.aft)
  length-body =
      length-append (words n.front) (n.text ++ words n.back)
      ∙ omega (arith, length-append n.text (words n.back), length-words n.front, length-words n.back, h.fronts, h.texts, k)

  pub formed-bytes : 2 + length (body n) < 256 ^ 2 → formed f (bytes n) ≡ true
  unfolding formed
  formed-bytes z =
      rw (front_bytes f n h)
      (and_true (eqb (length (bytes n)) (extent f n.front)) (eqb (of_le (take 2 (bytes n)) + 2) (length (bytes n)))
      (eq-eqb (length (bytes n)) (extent f n.front) (length-bytes n ∙ ap (λ (k : ℕ). 4 + k) length-body))
      (eq-eqb (of_le (take 2 (bytes n)) + 2) (length (bytes n)) (omega (arith, size-bytes n z, length-bytes n))))

-- WHAT READS AS A RECORD is byte for byte what the writer writes
module _ (f : Form) (bs : List ℕ) (b : Bytes bs) (h : formed f bs ≡ true) where
  pub long : length bs ≡ extent f (front_of f bs)
  unfolding formed
  long = eqb-true _ _ (and_left (eqb (length bs) (extent f (front_of f bs))) (eqb (of_le (take 2 bs) + 2) (length bs)) h)

  says : of_le (take 2 bs) + 2 ≡ length bs
  unfolding formed
  says = eqb-true _ _ (and_right (eqb (length bs) (extent f (front_of f bs))) (eqb (of_le (take 2 bs) + 2) (length bs)) h)

  body-note : body (note f bs) ≡ drop 4 bs
  unfolding note
  body-note =
      let d = drop 4 bs in
      let t = text_length f (front_of f bs) in
      let n₁ : length d ≡ length bs - 4 = length-drop 4 bs in
      let n₂ : length (drop (8 * f.fore) d) ≡ length d - 8 * f.fore = length-drop (8 * f.fore) d in
      let n₃ : length (drop t (drop (8 * f.fore) d)) ≡ length (drop (8 * f.fore) d) - t = length-drop t (drop (8 * f.fore) d) in
      let l = long in
      let e₁ : words (front_of f bs) ≡ take (8 * f.fore) d = words-numbers f.fore d (bytes_drop 4 bs b) (omega arith) in
      let e₃ : words (back_of f bs) ≡ drop t (drop (8 * f.fore) d) =
      words-numbers f.aft (drop t (drop (8 * f.fore) d)) (bytes_drop t (drop (8 * f.fore) d) (bytes_drop (8 * f.fore) d (bytes_drop 4 bs b))) (omega arith)
      ∙ take_all (8 * f.aft) (drop t (drop (8 * f.fore) d)) (omega arith) in
      ap (λ (x : List ℕ). x ++ (text_of f bs ++ words (back_of f bs))) e₁
      ∙ ap (λ (x : List ℕ). take (8 * f.fore) d ++ (text_of f bs ++ x)) e₃
      ∙ ap (λ (x : List ℕ). take (8 * f.fore) d ++ x) (take-append-drop t (drop (8 * f.fore) d))
      ∙ take-append-drop (8 * f.fore) d

  kind_note : (note f bs).kind ≡ kind_of bs
  unfolding note
  kind_note = refl

  pub bytes-note : bytes (note f bs) ≡ bs
  unfolding bytes
  bytes-note =
      let l = long in
      let s = says in
      let n₁ : length (drop 4 bs) ≡ length bs - 4 = length-drop 4 bs in
      let n₂ : length (drop 2 bs) ≡ length bs - 2 = length-drop 2 bs in
      let z : 2 + length (drop 4 bs) ≡ of_le (take 2 bs) = omega arith in
      let e₀ : le 2 (of_le (take 2 bs)) ≡ take 2 bs = le-of_le 2 (take 2 bs) (length-take-le 2 bs (omega arith)) (bytes_take 2 bs b) in
      let e₁ : le 2 (kind_of bs) ≡ take 2 (drop 2 bs) = le-of_le 2 (take 2 (drop 2 bs)) (length-take-le 2 (drop 2 bs) (omega arith)) (bytes_take 2 (drop 2 bs) (bytes_drop 2 bs b)) in
      rw (body-note, kind_note, z, e₀, e₁, ← drop-drop 2 2 bs, take-append-drop 2 (drop 2 bs)) (take-append-drop 2 bs)
