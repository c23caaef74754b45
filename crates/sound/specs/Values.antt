-- The rules of the values, of the columns that they read; the masks of the seats that are empty, and the counts of values.
use Rattle.std.specs.Prelude.{ℕ, ◌-◌, ◌<◌, ◌≡◌, Bool, not, List, length, get_or, eqb}
use mir.Val.{bool_byte}
use Rattle.pools.specs.Bits.{bit, free}
use Rattle.tables.specs.Columns.{VALUE-BUS}
use Rattle.tables.specs.Limits.{MOST-BUSES, MOST-SEATS}
use Rattle.tables.specs.State.{State, at}
use Rattle.rules.specs.Buses.{has_read, may_read, seat_at}
use Rattle.rules.specs.Rule.{Rule, is, le, lt, eq, differ, both, imp, each}
use Rattle.rules.specs.Sound.{value_rule}
use Rattle.sound.specs.Marks.{Flags}

-- ---- the row of values: word i of n, of which the first m count
abbrev pub issue_in : ℕ → ℕ → List ℕ → ℕ → Rule
issue_in n m list i = both (imp (lt i m) (both (le 1 (get_or list i 0)) (le (get_or list i 0) n))) (imp (le m i) (eq (get_or list i 0) 0))

-- ---- masks
-- of the first n seats of a bus those that are empty have their bit
abbrev pub Empty : List ℕ → ℕ → ℕ → Type 0
Empty seats n mask = Flags (λ i. eqb (get_or seats i 0) 0) n mask

-- the masks of the first n buses
pub record Empties (seats : List ℕ) (n : ℕ) (masks : List ℕ) : Type 0 where
  pub long : length masks ≡ MOST-BUSES
  pub bits : (b : ℕ) → b < n → Flags (λ i. eqb (get_or seats (seat_at b i) 0) 0) MOST-SEATS (get_or masks b 0)

-- the one in seat n, where it may read a value, has not read it, and its seat is not empty
abbrev pub mask_in : ℕ → ℕ → ℕ → Rule
mask_in mask readers n = imp (is (may_read readers n)) (both (is (not (has_read readers n))) (eq (bit mask n) 0))

-- ---- a data entry that holds a value, or none: by the masks of its bus, how many buses are made, the clock, and whether the row has it
abbrev pub value_in : List ℕ → ℕ → ℕ → Bool → ℕ → ℕ → ℕ → Rule
value_in masks made clock named bus readers published =
    both (imp (eq bus 0) (both (is (not named)) (both (eq readers 0) (eq published 0))))
    (imp (differ bus 0)
    (both (is named) (both (both (le bus made) (le published clock)) (each MOST-SEATS (λ n. mask_in (get_or masks (bus - 1) 0) readers n)))))

-- the rule of a value, and that those are marked that hold one
abbrev pub named_rule : List ℕ → State → ℕ → Rule
named_rule seen s d = both (value_rule s d) (eq (bool_byte (free seen d)) (bool_byte (not (eqb (at s VALUE-BUS d) 0))))

-- ---- counts
-- each bus has so many
pub record Counts (c : ℕ → ℕ) (counts : List ℕ) : Type 0 where
  pub long : length counts ≡ MOST-BUSES
  pub of : (b : ℕ) → b < MOST-BUSES → get_or counts b 0 ≡ c b
