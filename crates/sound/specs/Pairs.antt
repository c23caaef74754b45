-- The square of bits that the pairs of links are marked in: a row and a column for each slot below its side.
use Rattle.std.specs.Prelude.{ℕ, suc, ◌-◌, ◌*◌, ◌/◌, ◌≤◌, ◌<◌, ◌≡◌, Bool, cond, not, List, length, leb}
use Rattle.pools.specs.Bits.{WORD-BITS, free, released}
use Rattle.pools.specs.Slot.{id_of}
use Rattle.rules.specs.Rule.{all}
use Rattle.rules.specs.Terms.{joins}
use Rattle.tables.specs.Limits.{MOST-ACTORS}
use Rattle.tables.specs.Sizes.{COLUMN-BITS}
use Rattle.sound.specs.Standing.{FEW-ACTORS}

-- its side in a box of so many actors
abbrev pub side_of : ℕ → ℕ
side_of actors = cond (leb actors FEW-ACTORS) FEW-ACTORS MOST-ACTORS

-- its words
abbrev pub square_words : ℕ → ℕ
square_words side = side * side / WORD-BITS

-- a square of so many words has a bit for each two slots below its side
pub record Square (side words : ℕ) : Type 0 where
  pub few : side ≤ COLUMN-BITS
  pub holds : (a b : ℕ) → a < side → b < side → id_of side a b / WORD-BITS < words

-- no entry before d joins the slots a and b
abbrev pub apart : List ℕ → List ℕ → ℕ → ℕ → ℕ → Bool
apart ones twos d a b = all (λ i. not (joins ones twos (suc a) (suc b) i)) d

-- the bit of a and b is set where an entry before d joins them
pub record Marked (side : ℕ) (ones twos : List ℕ) (d : ℕ) (seen : List ℕ) : Type 0 where
  pub room : Square side (length seen)
  pub marks : (a b : ℕ) → a < side → b < side → free seen (id_of side a b) ≡ not (apart ones twos d a b)

-- the bit of two slots, written one up
abbrev pub place : ℕ → ℕ → ℕ → ℕ
place side one two = id_of side (one - 1) (two - 1)

-- what is told of their pair, and the square once it is marked in both orders
pub record PairSeen (side one two : ℕ) (seen : List ℕ) (r : Bool) (seen' : List ℕ) : Type 0 where
  pub new : r ≡ not (free seen (place side one two))
  pub marks : seen' ≡ released (released seen (place side one two)) (place side two one)
