-- The links of one slot, noted beforehand in a row with a place for each slot.
use Rattle.std.specs.Prelude.{ℕ, zero, suc, ◌<◌, ◌≡◌, cond, List, Option, None, Some, length, get_or, eqb, ltb}
use Rattle.std.specs.Option.{option_or}
use Rattle.pools.specs.Pool.{lowest}
use Rattle.tables.specs.declared.Caps.{Caps}
use Rattle.tables.specs.Limits.{MOST-ACTORS}
use Rattle.rules.specs.Terms.{joins}
use Rattle.rules.specs.Calls.{Told, tell, tie, told}

-- of a link's two ends the one that is not x; 0 where x is neither
abbrev pub other_end : ℕ → ℕ → ℕ → ℕ
other_end one two x = cond (eqb one x) two (cond (eqb two x) one 0)

-- a number below n one up; 0 for any other
abbrev pub up : ℕ → ℕ → ℕ
up n i = cond (ltb i n) (suc i) 0

-- a slot that is one up, with 0 for none
abbrev pub slot_of : ℕ → Option ℕ
slot_of zero = None
slot_of (suc a) = Some a

-- the place of slot b is e where it had none, and no other place changed
pub record Placed (row : List (Option ℕ)) (b e : ℕ) (row' : List (Option ℕ)) : Type 0 where
  pub long : length row' ≡ length row
  pub entry : (c : ℕ) → c < MOST-ACTORS → get_or row' c None ≡ cond (eqb b c) (option_or (get_or row c None) (Some e)) (get_or row c None)

-- the place of each slot has the lowest of the first n links that joins it with slot x, which is one up, or none
pub record Partners (one two : List ℕ) (x n : ℕ) (row : List (Option ℕ)) : Type 0 where
  pub entry : (b : ℕ) → b < MOST-ACTORS → get_or row b None ≡ slot_of (up n (lowest (joins one two x (suc b)) n))

-- link e ends, and slot b is told; nothing where there is none
unfoldable pub cut_entry : Caps → ℕ → ℕ → ℕ → Option ℕ → Told → Told
cut_entry k me reason b None t = t
cut_entry k me reason b (Some e) t = tell k (told t.sent t.lost (tie t.state e 0 0)) b me reason 0
