-- The square of marks: what two marks more say of the pairs of links.
use Prim.Native.Nat.{ℕ, suc, ◌+◌, ◌-◌, ◌*◌, ◌/◌, ◌%◌, ◌≤◌, ◌<◌}
use native.Mathlib.Nat.{mul-le-mul}
use native.Mathlib.Omega.{arith}
use mathlib.Core.Path.{◌≡◌, refl, sym, ap, ap₂, ◌∙◌}
use mathlib.Core.Bool.{Bool, true, false, not, ◌&&◌, ◌||◌}
use mathlib.Core.List.{List}
use lib.ListN.{length, get_or, replicate, length-replicate}
use lib.Dec.{eqb}
use borrow.Author.Tests.{eqb-true, eqb-false, eq-eqb, ne_eqb}
use Rattle.pools.specs.Bits.{WORD-BITS, free, released}
use Rattle.pools.specs.Slot.{id_of}
use Rattle.pools.proofs.BoolLaws.{split, and_left, and_right, and_true, same_bool}
use Rattle.pools.proofs.BitLaws.{bit_none}
use Rattle.pools.proofs.FreeLaws.{released-same, released-other, length-released}
use Rattle.pools.proofs.SlotLaws.{id_one}
use Rattle.rules.specs.Rule.{test}
use Rattle.rules.specs.Terms.{joins}
use Rattle.rules.proofs.Kept.Rules.{all_none, all_more}
use Rattle.sound.specs.Pairs.{apart, place, square_words, Marked, Square}
use Rattle.sound.specs.Standing.{FEW-ACTORS, Clear}
use Rattle.sound.specs.Ties.{pair_in}
use Rattle.sound.proofs.JoinLaws.{twice}
use Rattle.tables.specs.Limits.{MOST-ACTORS}
use Rattle.tables.specs.Sizes.{COLUMN-BITS}

-- ---- the squares
-- of a box of few actors, and of any box
pub square_few : Square FEW-ACTORS (square_words FEW-ACTORS)
square_few = record { few = omega arith; holds = λ a b l m. omega arith }

pub square_many : Square MOST-ACTORS (square_words MOST-ACTORS)
square_many = record { few = omega arith; holds = λ a b l m. omega arith }

-- of that many zeros
pub square_of : {side words : ℕ} → Square side words → Square side (length (replicate {A = ℕ} words 0))
square_of {side} {words} q = rw (length-replicate {A = ℕ} words 0) q

-- the number of a row's first bit is small
pub place-few : (side a : ℕ) → side ≤ COLUMN-BITS → a < side → a * side ≤ COLUMN-BITS * COLUMN-BITS
place-few side a s l = mul-le-mul {n₂ = COLUMN-BITS} {m₂ = COLUMN-BITS} (omega arith) s

-- ---- one bit more
mark : (w : List ℕ) (x i : ℕ) → x / WORD-BITS < length w → free (released w x) i ≡ eqb i x || free w i
mark w x i h =
    split (eqb i x)
    (λ t. rw (t, eqb-true i x t) (released-same w x h))
    (λ t. rw t (released-other w x i (eqb-false i x t)))

-- the place of two slots in the square is theirs alone
place-only : {side : ℕ} (a b one two : ℕ) → a < side → b < side → (1 ≤ one) × (one ≤ side) → (1 ≤ two) × (two ≤ side) →
    eqb (id_of side a b) (place side one two) ≡ eqb one (suc a) && eqb two (suc b)
place-only {side} a b one two l m o t =
    same_bool (eqb (id_of side a b) (place side one two)) (eqb one (suc a) && eqb two (suc b))
    (λ e. let q = id_one side a (one - 1) b (two - 1) m (omega arith) (eqb-true (id_of side a b) (place side one two) e) in
    and_true (eqb one (suc a)) (eqb two (suc b)) (eq-eqb one (suc a) (omega (arith, q.0))) (eq-eqb two (suc b) (omega (arith, q.1))))
    (λ e. let x : a ≡ one - 1 = omega (arith, eqb-true one (suc a) (and_left (eqb one (suc a)) (eqb two (suc b)) e)) in
    let y : b ≡ two - 1 = omega (arith, eqb-true two (suc b) (and_right (eqb one (suc a)) (eqb two (suc b)) e)) in
    eq-eqb (id_of side a b) (place side one two) (ap₂ (id_of side) x y))

or_swap : (x y f : Bool) → y || (x || f) ≡ (x || y) || f
or_swap true true f = refl
or_swap true false f = refl
or_swap false y f = refl

and_swap : (x y : Bool) → x && y ≡ y && x
and_swap true true = refl
and_swap true false = refl
and_swap false true = refl
and_swap false false = refl

or-not : (j a : Bool) → j || not a ≡ not (a && not j)
or-not true true = refl
or-not true false = refl
or-not false true = refl
or-not false false = refl

and_true' : (x : Bool) → x && true ≡ x
and_true' true = refl
and_true' false = refl

module _ (ones twos : List ℕ) (e : ℕ) where
  -- an entry that is not in use joins nothing
  none_joins : (a b : ℕ) → get_or ones e 0 ≡ 0 → joins ones twos (suc a) (suc b) e ≡ false
  unfolding joins
  none_joins a b z = rw (z, ne_eqb 0 (suc a) (λ q. omega arith), ne_eqb 0 (suc b) (λ q. omega arith))

  -- so the marks are those of one entry more
  pub marked_none : {side : ℕ} {seen : List ℕ} → Marked side ones twos e seen → get_or ones e 0 ≡ 0 → Marked side ones twos (e + 1) seen
  marked_none m z = record {
    room = m.room;
    marks = λ a b l h. m.marks a b l h ∙ ap not (sym (same a b));
  }
    where
      same : (a b : ℕ) → apart ones twos (e + 1) a b ≡ apart ones twos e a b
      same a b = rw (all_more, none_joins a b z) (and_true' (apart ones twos e a b))

  pub rule_none : get_or ones e 0 ≡ 0 → test (pair_in ones twos e) ≡ true
  rule_none z = rw (eq-eqb (get_or ones e 0) 0 z)

  -- one that is in use: two marks more
  module _ {side : ℕ} {seen : List ℕ} (m : Marked side ones twos e seen) (o : (1 ≤ get_or ones e 0) × (get_or ones e 0 ≤ side)) (t : (1 ≤ get_or twos e 0) × (get_or twos e 0 ≤ side)) where
    abbrev there : ℕ
    there = place side (get_or ones e 0) (get_or twos e 0)

    abbrev back : ℕ
    back = place side (get_or twos e 0) (get_or ones e 0)

    there-fits : there / WORD-BITS < length seen
    there-fits = m.room.holds (get_or ones e 0 - 1) (get_or twos e 0 - 1) (omega (arith, o)) (omega (arith, t))

    back_fits : back / WORD-BITS < length (released seen there)
    back_fits = rw (length-released seen there) (m.room.holds (get_or twos e 0 - 1) (get_or ones e 0 - 1) (omega (arith, t)) (omega (arith, o)))

    both-marks : (a b : ℕ) → a < side → b < side → free (released (released seen there) back) (id_of side a b) ≡ joins ones twos (suc a) (suc b) e || not (apart ones twos e a b)
    unfolding joins
    both-marks a b l h =
        let one = get_or ones e 0 in let two = get_or twos e 0 in
        let i = id_of side a b in
        mark (released seen there) back i back_fits
        ∙ ap (λ (x : Bool). eqb i back || x) (mark seen there i there-fits)
        ∙ or_swap (eqb i there) (eqb i back) (free seen i)
        ∙ rw (place-only a b one two l h o t, place-only a b two one l h t o, and_swap (eqb two (suc a)) (eqb one (suc b)), m.marks a b l h)

    pub marked_more : Marked side ones twos (e + 1) (released (released seen there) back)
    marked_more = record {
      room = rw (length-released (released seen there) back, length-released seen there) m.room;
      marks = λ a b l h. both-marks a b l h ∙ or-not (joins ones twos (suc a) (suc b) e) (apart ones twos e a b) ∙ ap not (sym (more a b));
    }
      where
        more : (a b : ℕ) → apart ones twos (e + 1) a b ≡ apart ones twos e a b && not (joins ones twos (suc a) (suc b) e)
        more a b = rw all_more

    pub rule_more : not (free seen there) ≡ test (pair_in ones twos e)
    rule_more =
        let one = get_or ones e 0 in let two = get_or twos e 0 in
        let x : suc (one - 1) ≡ one = omega arith in
        let y : suc (two - 1) ≡ two = omega arith in
        let q : free seen there ≡ not (apart ones twos e (one - 1) (two - 1)) = m.marks (one - 1) (two - 1) (omega arith) (omega arith) in
        rw (q, x, y, ne_eqb one 0 (λ z. omega arith)) (twice _)

-- ---- no mark at first
pub marked-first : {side : ℕ} {seen : List ℕ} (ones twos : List ℕ) → Square side (length seen) → Clear seen → Marked side ones twos 0 seen
marked-first {side} ones twos q z = record { room = q; marks = λ a b l h. rw (z (id_of side a b / WORD-BITS), bit_none (id_of side a b % WORD-BITS), all_none) }
