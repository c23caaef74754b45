-- A record is compared where it stands, number by number.
use Prim.Native.Nat.{ℕ, zero, suc, ◌+◌, ◌-◌, ◌*◌, ◌/◌, ◌%◌, ◌^◌, ◌<◌, ◌≤◌}
use mathlib.Core.Path.{◌≡◌, refl, sym, ap, ◌∙◌}
use mathlib.Core.Bool.{Bool, true, false, ◌&&◌}
use mathlib.Core.List.{List, [], ◌∷◌, ◌++◌}
use native.Mathlib.Nat.{pow-suc}
use native.Mathlib.Omega.{arith}
use lib.ListN.{length, get_or, take, drop, length-drop}
use lib.Seq.{drop-drop}
use lib.Dec.{eqb}
use borrow.Author.Tests.{eqb-true, eq-eqb}
use Rattle.pools.proofs.BoolLaws.{and_left, and_right, and_true, same_bool, split, true_false}
use Rattle.records.specs.Bytes.{Bytes, field, le, of_le}
use Rattle.records.specs.Records.{is_record}
use Rattle.records.proofs.ByteLaws.{bytes_drop, length-le}
use Rattle.std.proofs.lemmas.Slice.{between_to_end}
use Rattle.std.specs.List.{enumerate_from, list_all, starts_with}
use Rattle.trace.specs.Codec.{body, bytes, words}
use Rattle.trace.specs.Promises.{leads}
use Rattle.trace.specs.Kinds.{noted}
use Rattle.trace.specs.Verdict.{same}
use Rattle.trace.proofs.CodecLaws.{length-words}
use Rattle.trace.proofs.KindLaws.{length-body}
use Rattle.trace.proofs.NumberLaws.{not_as_long}
use Rattle.trace.proofs.WriterLaws.{length-note}

and-and : (a b c : Bool) → (a && b) && c ≡ a && (b && c)
and-and true b c = refl
and-and false b c = refl

-- all of them hold but perhaps the last; the third does not
pub ands_last : (i f t b : Bool) → i ≡ true → f ≡ true → t ≡ true → i && (f && (t && b)) ≡ b
ands_last i f t b p q r = rw (p, q, r) refl

pub ands_third : (i f t b : Bool) → i ≡ true → f ≡ true → t ≡ false → i && (f && (t && b)) ≡ false
ands_third i f t b p q r = rw (p, q, r) refl

-- ---- one after the other
leads-append : (xs ys s : List ℕ) → leads (xs ++ ys) s ≡ leads xs s && leads ys (drop (length xs) s)
leads-append [] ys s = refl
leads-append (x ∷ xs) ys [] = refl
leads-append (x ∷ xs) ys (y ∷ s) = ap (λ (b : Bool). eqb x y && b) (leads-append xs ys s) ∙ sym (and-and (eqb x y) (leads xs s) (leads ys (drop (length xs) s)))

same-append : (xs ys s : List ℕ) → same (xs ++ ys) s ≡ leads xs s && same ys (drop (length xs) s)
same-append [] ys s = refl
same-append (x ∷ xs) ys [] = refl
same-append (x ∷ xs) ys (y ∷ s) = ap (λ (b : Bool). eqb x y && b) (same-append xs ys s) ∙ sym (and-and (eqb x y) (leads xs s) (same ys (drop (length xs) s)))

same-leads : (xs s : List ℕ) → length xs ≡ length s → same xs s ≡ leads xs s
same-leads [] [] e = refl
same-leads [] (y ∷ s) e = cc
same-leads (x ∷ xs) [] e = cc
same-leads (x ∷ xs) (y ∷ s) e = ap (λ (b : Bool). eqb x y && b) (same-leads xs s (omega arith))

-- ---- a number
digit : (x y z : ℕ) → y < 256 → eqb (x % 256) y && eqb z (x / 256) ≡ eqb (y + 256 * z) x
digit x y z h =
    same_bool (eqb (x % 256) y && eqb z (x / 256)) (eqb (y + 256 * z) x)
    (λ p. eq-eqb (y + 256 * z) x (omega (arith, eqb-true (x % 256) y (and_left (eqb (x % 256) y) (eqb z (x / 256)) p), eqb-true z (x / 256) (and_right (eqb (x % 256) y) (eqb z (x / 256)) p))))
    (λ p. let e = eqb-true (y + 256 * z) x p in and_true (eqb (x % 256) y) (eqb z (x / 256)) (eq-eqb (x % 256) y (omega arith)) (eq-eqb z (x / 256) (omega arith)))

leads-le : (k x : ℕ) (s : List ℕ) → x < 256 ^ k → k ≤ length s → Bytes s → leads (le k x) s ≡ eqb (of_le (take k s)) x
unfolding le
leads-le zero x s f h b = sym (eq-eqb 0 x (omega arith))
leads-le (suc k) x [] f h b = absurd (omega arith)
leads-le (suc k) x (y ∷ s) f h b =
    ap (λ (c : Bool). eqb (x % 256) y && c) (leads-le k (x / 256) s (omega (arith, pow-suc 256 k)) (omega arith) (λ i. b (suc i)))
    ∙ digit x y (of_le (take k s)) (b 0)

-- ---- numbers, and a text
-- numbers lead where each of them does, the i-th from the place at on
pub all_lead : (s : List ℕ) (at i : ℕ) (ns : List ℕ) → at + 8 * (i + length ns) ≤ length s → Bytes s → ((j : ℕ) → get_or ns j 0 < 256 ^ 8) →
    list_all (λ (p : ℕ × ℕ). eqb (field 8 (at + 8 * p.0) s) p.1) (enumerate_from i ns) ≡ leads (words ns) (drop (at + 8 * i) s)
all_lead s at i [] h b f = refl
all_lead s at i (x ∷ ns) h b f =
    let d = drop (at + 8 * i) s in
    let l : length d ≡ length s - (at + 8 * i) = length-drop (at + 8 * i) s in
    let p : at + 8 * i + 8 ≡ at + 8 * (i + 1) = omega arith in
    let n : drop (length (le 8 x)) d ≡ drop (at + 8 * (i + 1)) s = ap (λ (k : ℕ). drop k d) (length-le 8 x) ∙ drop-drop 8 (at + 8 * i) s ∙ ap (λ (k : ℕ). drop k s) p in
    sym
    (leads-append (le 8 x) (words ns) d
    ∙ ap (λ (z : List ℕ). leads (le 8 x) d && leads (words ns) z) n
    ∙ ap (λ (z : Bool). z && leads (words ns) (drop (at + 8 * (i + 1)) s)) (leads-le 8 x d (f 0) (omega arith) (bytes_drop (at + 8 * i) s b))
    ∙ ap (λ (z : Bool). eqb (field 8 (at + 8 * i) s) x && z) (sym (all_lead s at (i + 1) ns (omega arith) b (λ j. f (suc j)))))

-- a text leads where the bytes start with it
leads_text : (m s : List ℕ) → starts_with eqb s m ≡ leads m s
leads_text [] s = refl
leads_text (x ∷ m) [] = refl
leads_text (x ∷ m) (y ∷ s) = ap (λ (b : Bool). eqb x y && b) (leads_text m s)

pub leads_there : (m s : List ℕ) (at : ℕ) → starts_with eqb (take (length s - at) (drop at s)) m ≡ leads m (drop at s)
leads_there m s at = ap (λ (l : List ℕ). starts_with eqb l m) (between_to_end s at (length s) (omega arith)) ∙ leads_text m (drop at s)

-- ---- a record
-- it is the note's where its length and kind are, and its numbers and its text
module _ (kind : ℕ) (front text back r : List ℕ) (size : ℕ) where
  abbrev pub there : Bool
  there = leads (words front) (drop 4 r) && (leads text (drop (4 + 8 * length front) r) && leads (words back) (drop (4 + 8 * length front + length text) r))

  pub note-same : size ≡ 2 + 8 * length front + length text + 8 * length back → size < 256 ^ 2 → kind < 256 ^ 2 → Bytes r → same (bytes (noted kind front text back)) r ≡ is_record size kind r && there
  unfolding bytes
  note-same e z k b = split (eqb (length r) (2 + size)) yes no
    where
      yes : eqb (length r) (2 + size) ≡ true → same (bytes (noted kind front text back)) r ≡ is_record size kind r && there
      yes q =
          let n : length r ≡ 2 + size = eqb-true (length r) (2 + size) q in
          let t = text ++ words back in
          let v : 2 + length (body (noted kind front text back)) ≡ size = omega (arith, length-body (noted kind front text back)) in
          let d₂ : length (drop 2 r) ≡ length r - 2 = length-drop 2 r in
          let dₑ : length (drop (4 + 8 * length front + length text) r) ≡ length r - (4 + 8 * length front + length text) = length-drop (4 + 8 * length front + length text) r in
          let s₁ : leads (le 2 size) r ≡ eqb (field 2 0 r) size = leads-le 2 size r z (omega arith) b in
          let s₂ : leads (le 2 kind) (drop 2 r) ≡ eqb (field 2 2 r) kind = leads-le 2 kind (drop 2 r) k (omega arith) (bytes_drop 2 r b) in
          let p₁ : same (le 2 size ++ (le 2 kind ++ (words front ++ t))) r ≡ leads (le 2 size) r && same (le 2 kind ++ (words front ++ t)) (drop 2 r) =
          same-append (le 2 size) (le 2 kind ++ (words front ++ t)) r ∙ rw (length-le 2 size) in
          let p₂ : same (le 2 kind ++ (words front ++ t)) (drop 2 r) ≡ leads (le 2 kind) (drop 2 r) && same (words front ++ t) (drop 4 r) =
          same-append (le 2 kind) (words front ++ t) (drop 2 r) ∙ rw (length-le 2 kind, drop-drop 2 2 r) in
          let p₃ : same (words front ++ t) (drop 4 r) ≡ leads (words front) (drop 4 r) && same t (drop (4 + 8 * length front) r) =
          same-append (words front) t (drop 4 r) ∙ rw (length-words front, drop-drop (8 * length front) 4 r) in
          let p₄ : same t (drop (4 + 8 * length front) r) ≡ leads text (drop (4 + 8 * length front) r) && same (words back) (drop (4 + 8 * length front + length text) r) =
          same-append text (words back) (drop (4 + 8 * length front) r) ∙ rw (drop-drop (length text) (4 + 8 * length front) r) in
          let p₅ : same (words back) (drop (4 + 8 * length front + length text) r) ≡ leads (words back) (drop (4 + 8 * length front + length text) r) =
          same-leads (words back) (drop (4 + 8 * length front + length text) r) (length-words back ∙ omega arith) in
          rw (v, p₁, p₂, p₃, p₄, p₅, s₁, s₂, q) (sym (and-and (eqb (field 2 0 r) size) (eqb (field 2 2 r) kind) there))

      no : eqb (length r) (2 + size) ≡ false → same (bytes (noted kind front text back)) r ≡ is_record size kind r && there
      no q = rw q (sym (not_as_long (bytes (noted kind front text back)) r (λ w. absurd (differ w))))
        where
          differ : length (bytes (noted kind front text back)) ≡ length r → ⊥
          differ w = true_false (eqb (length r) (2 + size)) (eq-eqb (length r) (2 + size) (sym w ∙ length-note kind front text back ∙ omega arith)) q
