-- What the functions on numbers and bytes cite.
use Prim.Native.Nat.{ℕ, suc, ◌+◌, ◌*◌, ◌<◌}
use mathlib.Core.Path.{◌≡◌, refl, sym, ap, ◌∙◌}
use mathlib.Core.Bool.{Bool, true, false, ◌&&◌}
use mathlib.Core.List.{List, [], ◌∷◌, ◌++◌, append_assoc, append-nil}
use native.Mathlib.Numerals.{add-one}
use native.Mathlib.Omega.{arith}
use lib.ListN.{length, get_or, take}
use lib.Seq.{length-take-le, sets, take-suc}
use lib.Dec.{eqb}
use Rattle.records.specs.Bytes.{le}
use Rattle.records.proofs.ByteLaws.{stored_on}
use Rattle.trace.specs.Codec.{words}
use Rattle.trace.specs.Verdict.{same}
use Rattle.trace.proofs.CodecLaws.{length-words}

-- ---- a turn of the loop that writes numbers
words_append : (xs ys : List ℕ) → words (xs ++ ys) ≡ words xs ++ words ys
words_append [] ys = refl
words_append (x ∷ xs) ys = ap (λ (l : List ℕ). le 8 x ++ l) (words_append xs ys) ∙ sym (append_assoc (le 8 x) (words xs) (words ys))

pub words-turn : (l s t : List ℕ) (at i : ℕ) (ns : List ℕ) → i < length ns → s ≡ sets l at (words (take i ns)) → t ≡ sets s (at + 8 * i) (le 8 (get_or ns i 0)) → t ≡ sets l at (words (take (i + 1) ns))
words-turn l s t at i ns h p q =
    let n : length (words (take i ns)) ≡ 8 * i = length-words (take i ns) ∙ ap (λ (k : ℕ). 8 * k) (length-take-le i ns (omega arith)) in
    let r : t ≡ sets l at (words (take i ns) ++ le 8 (get_or ns i 0)) = stored_on l at (words (take i ns)) (le 8 (get_or ns i 0)) p (q ∙ ap (λ (k : ℕ). sets s (at + k) (le 8 (get_or ns i 0))) (sym n)) in
    let e : words (take (i + 1) ns) ≡ words (take i ns) ++ le 8 (get_or ns i 0) =
    rw (add-one i, take-suc ns i 0 h) (words_append (take i ns) (get_or ns i 0 ∷ []) ∙ ap (λ (x : List ℕ). words (take i ns) ++ x) (append-nil (le 8 (get_or ns i 0)))) in
    rw e r

-- ---- the comparison
same_longer : (a b : List ℕ) → (length a ≡ length b → ⊥) → same a b ≡ false
same_longer [] [] n = absurd (n refl)
same_longer [] (y ∷ ys) n = refl
same_longer (x ∷ xs) [] n = refl
same_longer (x ∷ xs) (y ∷ ys) n = rw (same_longer xs ys (λ e. n (ap suc e))) (and_false (eqb x y))
  where
    and_false : (b : Bool) → b && false ≡ false
    and_false true = refl
    and_false false = refl

pub not_as_long : (a b : List ℕ) → (length a ≡ length b → ⊥) → false ≡ same a b
not_as_long a b n = sym (same_longer a b n)
