-- One who leaves all buses: which seats are given up, and one pass over the data entries for all of those buses. The slot is written one up.
use Rattle.std.specs.Prelude.{ℕ, zero, suc, ◌+◌, ◌≡◌, Bool, false, cond, ◌||◌, List, length, get_or, set, ltb}
use Rattle.pools.specs.Bits.{cleared}
use Rattle.tables.specs.Columns.{READERS, SEAT, VALUE-BUS}
use Rattle.tables.specs.Limits.{MOST-BUSES, MOST-SEATS}
use Rattle.tables.specs.State.{State, at, poke}
use Rattle.rules.specs.Buses.{seat_at, seat_of, sits}

-- ---- the seats
-- slot x gives up its seat on bus b, if it has one
abbrev pub give_up_on : ℕ → ℕ → State → State
give_up_on x b s = cond (sits s b x) (poke s SEAT (seat_at b (seat_of s b x)) 0) s

-- its seats on the first so many buses
unfoldable pub give_up : ℕ → ℕ → State → State
give_up x zero s = s
give_up x (suc b) s = give_up_on x b (give_up x b s)

-- it had one of them
unfoldable pub gave_up : ℕ → ℕ → State → Bool
gave_up x zero s = false
gave_up x (suc b) s = gave_up x b s || sits (give_up x b s) b x

-- a row in which the seat on bus b is noted, if there is one
abbrev pub noted : ℕ → ℕ → State → List ℕ → List ℕ
noted x b s seats = cond (sits s b x) (set seats b (seat_of s b x)) seats

-- the row says of each of the first so many buses which seat was given up: past the last where there was none, and on every bus after them
pub record GivenUp (s : State) (x made : ℕ) (seats : List ℕ) : Type 0 where
  pub long : length seats ≡ MOST-BUSES
  pub seat : (b : ℕ) → get_or seats b MOST-SEATS ≡ cond (ltb b made) (seat_of (give_up x b s) b x) MOST-SEATS

-- ---- the data entries
-- the seat that was given up on the bus whose number, one up, a data entry has; past the last where that is 0: it holds no value
abbrev pub given_up : List ℕ → ℕ → ℕ
given_up seats zero = MOST-SEATS
given_up seats (suc b) = get_or seats b MOST-SEATS

-- the one in seat n may not read data entry d any more
abbrev pub strike : ℕ → ℕ → State → State
strike n d s = poke s READERS d (cleared (at s READERS d) (MOST-SEATS + n))

-- data entry d may be read no more from the seat that was given up on its bus
abbrev pub strike_by : List ℕ → ℕ → State → State
strike_by seats d s =
    let n = given_up seats (at s VALUE-BUS d) in
    cond (ltb n MOST-SEATS) (strike n d s) s

-- nor any of the first d data entries
unfoldable pub forget_by : List ℕ → ℕ → State → State
forget_by seats zero s = s
forget_by seats (suc d) s = strike_by seats d (forget_by seats d s)
