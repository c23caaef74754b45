-- What the calls do to a column: a counted list, free bits, the payload bytes.
use Rattle.std.specs.Prelude.{ℕ, ◌+◌, ◌-◌, ◌*◌, List, ◌∷◌, ◌++◌, take, drop, replicate}
use Rattle.std.proofs.lemmas.List.Edits.{sets}
use Rattle.pools.specs.Bits.{taken, released}
use Rattle.pools.specs.Lists.{without}
use Rattle.tables.specs.Columns.{PAYLOAD}
use Rattle.tables.specs.Limits.{ENTRY-BYTES}
use Rattle.tables.specs.State.{State, head, with_col, poke}

-- ---- a list is a column whose first words count; the word `count` of the head says how many
-- v joins the tail
unfoldable pub push : State → ℕ → ℕ → ℕ → State
push s list count v = poke (poke s list (head s count) v) count 0 (head s count + 1)

-- the n words of a list close up over the j-th, and a 0 comes after them
abbrev pub closed : ℕ → ℕ → List ℕ → List ℕ
closed n j l = without j (take n l) ++ (0 ∷ drop n l)

-- the j-th leaves
unfoldable pub pull : State → ℕ → ℕ → ℕ → State
pull s list count j = poke (with_col s list (closed (head s count) j (s list))) count 0 (head s count - 1)

-- ---- free bits: entry e of the bits in column c is taken, and released
unfoldable pub take_bit : State → ℕ → ℕ → State
take_bit s c e = with_col s c (taken (s c) e)

unfoldable pub free_bit : State → ℕ → ℕ → State
free_bit s c e = with_col s c (released (s c) e)

-- ---- "Data entry n begins at byte 256 × n of the area": bytes written into entry d from its byte i on
unfoldable pub write : State → ℕ → ℕ → List ℕ → State
write s d i m = with_col s PAYLOAD (sets (s PAYLOAD) (ENTRY-BYTES * d + i) m)

-- the bytes of entry d
abbrev pub entry : State → ℕ → List ℕ
entry s d = take ENTRY-BYTES (drop (ENTRY-BYTES * d) (s PAYLOAD))

-- all bytes of entry d zero
abbrev pub blank : State → ℕ → State
blank s d = write s d 0 (replicate ENTRY-BYTES 0)
