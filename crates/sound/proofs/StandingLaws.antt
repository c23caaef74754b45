-- The row of how slots stand: filled slot by slot, and what a word that is looked up there says of its slot.
use Prim.Native.Nat.{ℕ, zero, suc, ◌+◌, ◌-◌, ◌*◌, ◌≤◌, ◌<◌}
use native.Mathlib.Decide.{dec_lt}
use native.Mathlib.Omega.{arith}
use mathlib.Core.Path.{◌≡◌, sym, ap, ◌∙◌}
use mathlib.Core.Bool.{true, not, ◌&&◌}
use mathlib.Core.List.{List}
use mir.Val.{bool_byte}
use lib.ListN.{length, get_or, replicate, length-replicate, get_or-replicate, get_or-eq_default}
use lib.Dec.{eqb, leb}
use borrow.Author.Tests.{eqb-true, ne_eqb, le-leb, leb-true}
use Rattle.pools.proofs.BoolLaws.{split, and_left, flag≤, true_false}
use Rattle.rules.specs.Terms.{WAITS, alive}
use Rattle.sound.specs.Standing.{Clear, Spans, Standing, standing_of, lives_in, waits_in_of}

-- a place of a row of zeros
pub clear : (n : ℕ) → Clear (replicate n 0)
clear n i =
    elim (dec_lt i n) [
      | yes l ↦ get_or-replicate {A = ℕ} n i 0 0 l
      | no m ↦ get_or-eq_default {A = ℕ} (replicate n 0) 0 (omega (arith, length-replicate {A = ℕ} n 0))
    ]

-- ---- the row while it is filled
-- the first i slots are in it, and the places above them are still 0
pub record Stood (states : List ℕ) (i : ℕ) (row : List ℕ) : Type 0 where
  pub none : get_or row 0 0 ≡ 0
  pub done : (a : ℕ) → a < i → get_or row (suc a) 0 ≡ standing_of (get_or states a 0)
  pub rest : (a : ℕ) → i ≤ a → get_or row (suc a) 0 ≡ 0

-- a slot past the last is free
past : (states : List ℕ) (a : ℕ) → length states ≤ a → get_or states a 0 ≡ 0
past states a l = get_or-eq_default states 0 l

-- ---- a standing says whether its state is free, and whether it waits
stands_none : (s : ℕ) → eqb (standing_of s) 0 ≡ eqb s 0
stands_none s =
    split (eqb s 0)
    (λ t. rw (eqb-true s 0 t))
    (λ t. rw t (ne_eqb (1 + 2 * bool_byte (eqb s WAITS)) 0 (λ e. omega arith)))

stands_waits : (s : ℕ) → eqb (standing_of s) 3 ≡ eqb s WAITS
stands_waits s =
    split (eqb s WAITS)
    (λ t. rw (eqb-true s WAITS t))
    (λ t. rw t (ne_eqb (bool_byte (not (eqb s 0)) + 0) 3 (λ e. omega (arith, flag≤ (not (eqb s 0))))))

-- ---- a word, one up, that is looked up
module _ (a : ℕ) where
  up : leb 1 (suc a) ≡ true
  up = le-leb 1 (suc a) (omega arith)

  down : suc a - 1 ≡ a
  down = omega arith

module _ {states row : List ℕ} (h : Standing states row) where
  pub lives_in_lem : (word : ℕ) → lives_in row word ≡ leb 1 word && alive states (word - 1)
  unfolding alive
  lives_in_lem zero = rw h.none
  lives_in_lem (suc a) = rw (h.slots a, up a, down a) (ap not (stands_none (get_or states a 0)))

  pub waits_in : (word : ℕ) → waits_in_of row word ≡ leb 1 word && eqb (get_or states (word - 1) 0) WAITS
  waits_in zero = rw h.none
  waits_in (suc a) = rw (h.slots a, up a, down a) (stands_waits (get_or states a 0))

  -- one that lives is among the states
  live_among : (word : ℕ) → lives_in row word ≡ true → word ≤ length states
  live_among zero t = omega arith
  live_among (suc a) t =
      elim (dec_lt a (length states)) [
        | yes l ↦ omega arith
        | no n ↦ let z : get_or row (suc a) 0 ≡ 0 = h.slots a ∙ ap standing_of (past states a (omega arith)) in true_false (lives_in row (suc a)) t (rw z)
      ]

  pub spans : {n : ℕ} → length states ≤ n → Spans (suc n) row
  spans l = record {
    none = omega arith;
    live = λ word t. (leb-true 1 word (and_left (leb 1 word) (alive states (word - 1)) (sym (lives_in_lem word) ∙ t)), omega (arith, live_among word t));
  }

-- more places span it too
pub spans_more : {n m : ℕ} {row : List ℕ} → n ≤ m → Spans n row → Spans m row
spans_more l w = record { none = omega (arith, w.none); live = λ word t. let (up, below) = w.live word t in (up, omega (arith, below)) }
