-- The rules of buses and of who sits on them, of the columns that they read.
use Rattle.std.specs.Prelude.{ℕ, suc, ◌*◌, ◌≤◌, ◌<◌, ◌≡◌, Bool, List, get_or, length, take, drop}
use Rattle.tables.specs.Limits.{LONGEST-AGE, MOST-BUSES, MOST-READS, MOST-SEATS, MOST-VALUES}
use Rattle.tables.specs.Sizes.{ALL-SEATS}
use Rattle.rules.specs.Rule.{Rule, is, le, lt, eq, differ, both, imp, each, test}
use Rattle.sound.specs.Standing.{lives_in}

-- ---- what a bus is made with
abbrev pub settings_in : ℕ → ℕ → ℕ → ℕ → Rule
settings_in size seats reads age =
    both (both (both (le 1 size) (le size MOST-VALUES)) (both (le 1 seats) (le seats MOST-SEATS)))
    (both (le reads MOST-READS) (le age LONGEST-AGE))

abbrev pub unmade_in : ℕ → ℕ → ℕ → ℕ → Rule
unmade_in size seats reads age = both (both (eq size 0) (eq seats 0)) (both (eq reads 0) (eq age 0))

-- bus b, where n are made
abbrev pub bus_in : List ℕ → List ℕ → List ℕ → List ℕ → ℕ → ℕ → Rule
bus_in sizes seats reads ages n b =
    both (imp (lt b n) (settings_in (get_or sizes b 0) (get_or seats b 0) (get_or reads b 0) (get_or ages b 0)))
    (imp (le n b) (unmade_in (get_or sizes b 0) (get_or seats b 0) (get_or reads b 0) (get_or ages b 0)))

-- ---- who sits on a bus, by the words of its seats
-- word n is 0, or names a live actor, and the bus has the seat
abbrev pub sitter_in : List ℕ → ℕ → ℕ → ℕ → Rule
sitter_in row limit word n = imp (differ word 0) (both (lt n limit) (is (lives_in row word)))

-- it is 0, or no word before it is the same
abbrev pub new_in : List ℕ → ℕ → Rule
new_in list n = imp (differ (get_or list n 0) 0) (each n (λ m. differ (get_or list m 0) (get_or list n 0)))

-- all words of a bus
abbrev pub row_in : List ℕ → ℕ → List ℕ → Rule
row_in row limit list = both (each MOST-SEATS (λ n. sitter_in row limit (get_or list n 0) n)) (each MOST-SEATS (λ n. new_in list n))

-- ---- the seats of all buses, and the limits of the first n
-- there are so many words
abbrev pub Seats : List ℕ → List ℕ → ℕ → Type 0
Seats seats limits n = (n ≤ MOST-BUSES) × (ALL-SEATS ≤ length seats) × (n ≤ length limits)

-- the words of the first n buses
abbrev pub rows_in : List ℕ → List ℕ → List ℕ → ℕ → Rule
rows_in row seats limits n = each n (λ b. row_in row (get_or limits b 0) (take MOST-SEATS (drop (MOST-SEATS * b) seats)))

-- ---- stamps: at the place of a slot, one up, the number of the last bus, one up, that it was seen on
-- no bus of this stamp or a later one was looked at
abbrev pub Before : ℕ → List ℕ → Type 0
Before stamp stamps = (i : ℕ) → get_or stamps i 0 < stamp

-- what is told of the bus of this stamp, and the stamps then
abbrev pub Told : Rule → ℕ → Bool → List ℕ → Type 0
Told rule stamp r stamps = (r ≡ test rule) × Before (suc stamp) stamps
