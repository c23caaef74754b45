-- How the slots stand, in a row that has them one up, as words name them, and what the test of the mailboxes is lent.
use Rattle.std.specs.Prelude.{ℕ, suc, ◌+◌, ◌*◌, ◌≤◌, ◌<◌, ◌≡◌, Bool, true, cond, not, List, get_or, eqb, leb}
use mir.Val.{bool_byte}
use Rattle.rules.specs.Terms.{FREE, WAITS}
use Rattle.tables.specs.Columns.{MAIL-DATA, MAIL-FREE, MAIL-OWNER, STATE}
use Rattle.tables.specs.State.{State}

-- a box of so many actors is one of few; the places of a row of bytes for its slots, one up, and for those of any box
abbrev pub FEW-ACTORS : ℕ
FEW-ACTORS = 64

abbrev pub FEW-PLACES : ℕ
FEW-PLACES = 128

abbrev pub PLACES : ℕ
PLACES = 512

-- the places of such a row in a box of so many actors
abbrev pub places : ℕ → ℕ
places actors = cond (leb actors FEW-ACTORS) FEW-PLACES PLACES

-- each place of a row is 0
abbrev pub Clear : List ℕ → Type 0
Clear row = (i : ℕ) → get_or row i 0 ≡ 0

-- by its state: 0 where the slot is free, 1 where its actor lives, 3 where it waits
abbrev pub standing_of : ℕ → ℕ
standing_of state = bool_byte (not (eqb state FREE)) + 2 * bool_byte (eqb state WAITS)

-- the row says of each slot how it stands; place 0, which names none, is free, and so is each place past the row
pub record Standing (states row : List ℕ) : Type 0 where
  pub none : get_or row 0 0 ≡ 0
  pub slots : (a : ℕ) → get_or row (suc a) 0 ≡ standing_of (get_or states a 0)

-- a word, one up, names a live actor; a waiting one
abbrev pub lives_in : List ℕ → ℕ → Bool
lives_in row word = not (eqb (get_or row word 0) 0)

abbrev pub waits_in_of : List ℕ → ℕ → Bool
waits_in_of row word = eqb (get_or row word 0) 3

-- n places have one for 0, which names nobody, and for each word that names a live actor
pub record Spans (n : ℕ) (row : List ℕ) : Type 0 where
  pub none : 0 < n
  pub live : (word : ℕ) → lives_in row word ≡ true → (1 ≤ word) × (word < n)

-- the row and the columns of free bits, owners and entries
pub record Lent (s : State) (row bits owners entries : List ℕ) : Type 0 where
  pub stands : Standing (s STATE) row
  pub free : bits ≡ s MAIL-FREE
  pub owned : owners ≡ s MAIL-OWNER
  pub held : entries ≡ s MAIL-DATA
