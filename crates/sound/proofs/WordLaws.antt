-- The bits of a word past a place, two words that have no bit in common, and a column of words tested word by word.
use Prim.Native.Nat.{ℕ, zero, suc, ◌+◌, ◌-◌, ◌*◌, ◌/◌, ◌%◌, ◌^◌, ◌≤◌, ◌<◌}
use native.Mathlib.Nat.{pow-suc, div-one, div-le_self}
use native.Mathlib.Decide.{dec_lt}
use native.Mathlib.Omega.{arith}
use mathlib.Core.Path.{◌≡◌, sym, ap, subst, ◌∙◌}
use mathlib.Core.Bool.{true, not}
use mathlib.Core.List.{List}
use lib.ListN.{get_or}
use lib.Bits.{bit_and, and_shr, and_mod, and_le_l, and_zero_l, and_zero_r, and_self}
use lib.Dec.{eqb}
use lib.Pow.{shr-shr}
use borrow.Author.Tests.{eqb-true, eqb-false, eq-eqb, not-true}
use Rattle.pools.specs.Bits.{bit, free}
use Rattle.pools.proofs.BitLaws.{bit-zero, bit_suc, bit_none, bit_cases}
use Rattle.rules.specs.Rule.{Rule, Holds, each, test}
use Rattle.rules.proofs.Kept.Rules.{same_test, reads}
use Rattle.sound.proofs.ListLaws.{same_rule}
use Rattle.sound.specs.Kinds.{word_rule}

-- ---- a number with no bit is 0
zero_bits : (w y : ℕ) → y < 2 ^ w → ((j : ℕ) → j < w → bit y j ≡ 0) → y ≡ 0
zero_bits zero y l h = omega arith
zero_bits (suc w) y l h =
    let half : y / 2 ≡ 0 = zero_bits w (y / 2) (omega (arith, pow-suc 2 w)) (λ j m. sym (bit_suc y j) ∙ h (suc j) (omega arith)) in
    omega (arith, sym (bit-zero y) ∙ h 0 (omega arith))

-- bit i of what is left from bit lo on
pub bit-after : (x lo i : ℕ) → bit (x / 2 ^ lo) i ≡ bit x (lo + i)
bit-after x lo i = ap (λ (y : ℕ). y % 2) (shr-shr x lo i)

-- where nothing is left from bit lo on, no later bit is set
bit_past : (x lo j : ℕ) → x / 2 ^ lo ≡ 0 → lo ≤ j → bit x j ≡ 0
bit_past x lo j z l =
    let e : j ≡ lo + (j - lo) = omega arith in
    ap (λ (i : ℕ). bit x i) e ∙ sym (bit-after x lo (j - lo)) ∙ ap (λ (y : ℕ). bit y (j - lo)) z ∙ bit_none (j - lo)

-- and the other way round, in a word of 64 bits
none_past : (x lo : ℕ) → x < 2 ^ 64 → x / 2 ^ lo < 2 ^ 64 → ((j : ℕ) → lo ≤ j → j < 64 → bit x j ≡ 0) → x / 2 ^ lo ≡ 0
none_past x lo b q h = zero_bits 64 (x / 2 ^ lo) q (λ j m. bit-after x lo j ∙ there j)
  where
    there : (j : ℕ) → bit x (lo + j) ≡ 0
    there j = elim (dec_lt (lo + j) 64) [ yes l ↦ h (lo + j) (omega arith) l | no n ↦ bit_past x 64 (lo + j) (omega arith) (omega arith) ]

-- a bit that is not 1
pub bit-clear : (x i : ℕ) → not (eqb (bit x i) 1) ≡ true → bit x i ≡ 0
bit-clear x i t = let n : bit x i ≡ 1 → ⊥ = eqb-false (bit x i) 1 (not-true (eqb (bit x i) 1) t) in omega arith

-- ---- two words that have no bit in common
-- a bit of what two words have in common
bit-and : (x y i : ℕ) → bit (bit_and x y) i ≡ bit_and (bit x i) (bit y i)
bit-and x y i = ap (λ (z : ℕ). z % 2) (and_shr x y i) ∙ and_mod (x / 2 ^ i) (y / 2 ^ i) 1

-- where they have nothing in common, what is a bit of the one is none of the other
pub common_none : (x y : ℕ) → bit_and x y ≡ 0 → (i : ℕ) → bit x i ≡ 1 → bit y i ≡ 0
common_none x y z i e =
    bit_cases y i
    (λ f. let q : bit_and (bit x i) (bit y i) ≡ 0 = sym (bit-and x y i) ∙ ap (λ (w : ℕ). bit w i) z ∙ bit_none i in
    absurd (omega (arith, rw (e, f, and_self 1) at q)))
    (λ f. f)

-- and the other way round, where the one has w bits
pub none_common : (w x y : ℕ) → x < 2 ^ w → ((i : ℕ) → i < w → bit x i ≡ 1 → bit y i ≡ 0) → bit_and x y ≡ 0
none_common w x y l h =
    zero_bits w (bit_and x y) (omega (arith, and_le_l x y)) (λ i m. bit-and x y i ∙
    bit_cases x i (λ e. rw (h i m e) (and_zero_r (bit x i))) (λ e. rw e (and_zero_l (bit y i))))

-- ---- a column of words
module _ (n : ℕ) (bits : List ℕ) (j : ℕ) where
  -- an entry's bit in its word
  pub free-at : (i : ℕ) → i < 64 → free bits (64 * j + i) ≡ eqb (bit (get_or bits j 0) i) 1
  free-at i l =
      let d : (64 * j + i) / 64 ≡ j = omega arith in
      let m : (64 * j + i) % 64 ≡ i = omega arith in
      rw (d, m)

  -- a word is clear past the last entry where nothing of it is left from there on
  pub clear-word : (x lo : ℕ) → x ≡ get_or bits j 0 → lo ≡ n - 64 * j → x < 2 ^ 64 → eqb (x / 2 ^ lo) 0 ≡ test (word_rule n bits j)
  clear-word x lo g e b =
      let q : x / 2 ^ lo ≤ x = div-le_self x (2 ^ lo) in
      sym (same_test (word_rule n bits j) (eqb (x / 2 ^ lo) 0)
      (λ h. eq-eqb (x / 2 ^ lo) 0 (none_past x lo b (omega arith) (λ i l m. bit-clear x i (rw (free-at i m, ← g) at (h i m (omega arith))))))
      (λ t i m l. let z : bit x i ≡ 0 = bit_past x lo i (eqb-true (x / 2 ^ lo) 0 t) (omega arith) in rw (free-at i m, ← g, z)))

  -- all of it, where none of its bits is an entry's
  pub zero_word : (x : ℕ) → x ≡ get_or bits j 0 → n ≤ 64 * j → x < 2 ^ 64 → eqb x 0 ≡ test (word_rule n bits j)
  zero_word x g l b = ap (λ (y : ℕ). eqb y 0) (sym (div-one x)) ∙ clear-word x 0 g (omega arith) b

  -- a word whose bits are all entries' is clear
  pub whole_word : 64 * j + 64 ≤ n → true ≡ test (word_rule n bits j)
  whole_word h = sym ((reads (word_rule n bits j)).1 (λ i m l. absurd (omega arith)))

-- ---- words after words
pub by_words : (f : ℕ → Rule) (n : ℕ) → test (each n (λ j. each 64 (λ i. f (64 * j + i)))) ≡ test (each (64 * n) f)
by_words f n =
    same_rule (each (64 * n) f) (each n (λ j. each 64 (λ i. f (64 * j + i))))
    (λ h j l i m. h (64 * j + i) (omega arith))
    (λ h e l. let q : 64 * (e / 64) + e % 64 ≡ e = omega arith in subst (λ (x : ℕ). Holds (f x)) q (h (e / 64) (omega arith) (e % 64) (omega arith)))
