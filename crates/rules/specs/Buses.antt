-- Buses, in terms of the tables: their values, their seats, and what the calls do to them.
-- What was published and still stands on a bus is a value. A subscriber sits in a seat of the bus, the lowest that was free; it keeps it while it is subscribed.
use Rattle.std.specs.Prelude.{ℕ, zero, suc, ◌+◌, ◌-◌, ◌*◌, ◌^◌, Bool, cond, not, ◌&&◌, ◌||◌, List, take, drop, eqb, ltb, leb}
use Rattle.pools.specs.Pool.{count, lowest, occurs}
use Rattle.pools.specs.Bits.{bit, cleared, marked}
use Rattle.tables.specs.declared.Caps.{Caps}
use Rattle.tables.specs.Columns.{BUS-AGE, BUS-READS, BUS-SEATS, BUS-SIZE, BUSES, CLOCK, ISSUE, ISSUED, LENGTH, PAYLOAD, PUBLISHED, READERS, SEAT, VALUE-BUS}
use Rattle.tables.specs.Limits.{ENTRY-BYTES, HEADER-BYTES, LONGEST-AGE, MOST-READS, MOST-SEATS, MOST-VALUES}
use Rattle.tables.specs.State.{State, at, head, poke}
use Rattle.tables.specs.Action.{pull, push}
use Rattle.rules.specs.Actions.{data_for, fill, unfill}

-- ---- buses: "numbered from 0", and never unmade
abbrev pub is_bus : State → ℕ → Bool
is_bus s b = ltb b (head s BUSES)

-- "1 to 16 entries and 1 to 32 subscribers"; "a number of reads (to 32) or an age (to 2^31 - 1 ms), 0 for neither"
abbrev pub bad_bus : ℕ → ℕ → ℕ → ℕ → Bool
bad_bus entries subscribers reads age =
    (eqb entries 0 || ltb MOST-VALUES entries) || ((eqb subscribers 0 || ltb MOST-SEATS subscribers) || (ltb MOST-READS reads || ltb LONGEST-AGE age))

-- the next bus, with these four
unfoldable pub make_bus : State → ℕ → ℕ → ℕ → ℕ → State
make_bus s entries subscribers reads age =
    let b = head s BUSES in
    poke (poke (poke (poke (poke s BUS-SIZE b entries) BUS-SEATS b subscribers) BUS-READS b reads) BUS-AGE b age) BUSES 0 (b + 1)

-- ---- seats
-- seat n of bus b among the seats of all buses
abbrev pub seat_at : ℕ → ℕ → ℕ
seat_at b n = MOST-SEATS * b + n

-- the slot in it, one up; 0 where nobody sits there
abbrev pub in_seat : State → ℕ → ℕ → ℕ
in_seat s b n = at s SEAT (seat_at b n)

-- the seat of a slot, written one up, on bus b; past the last where it has none
abbrev pub seat_of : State → ℕ → ℕ → ℕ
seat_of s b a = lowest (λ n. eqb (in_seat s b n) a) MOST-SEATS

-- the slot, written one up, is subscribed to bus b
abbrev pub sits : State → ℕ → ℕ → Bool
sits s b a = ltb (seat_of s b a) MOST-SEATS

-- the lowest seat that is free; past the last where there is none
abbrev pub seat_for : State → ℕ → ℕ
seat_for s b = lowest (λ n. eqb (in_seat s b n) 0) (at s BUS-SEATS b)

-- a slot, written one up, sits down
unfoldable pub sit_down : State → ℕ → ℕ → ℕ → State
sit_down s b n a = poke s SEAT (seat_at b n) a

-- ---- who reads: two masks of 32 bits in one word, "who has read it" in bits 0 to 31, who may still read it in bits 32 to 63
-- the one in seat n has read it
abbrev pub has_read : ℕ → ℕ → Bool
has_read mask n = eqb (bit mask n) 1

-- it may still read it
abbrev pub may_read : ℕ → ℕ → Bool
may_read mask n = eqb (bit mask (MOST-SEATS + n)) 1

-- how many have read it
abbrev pub read_by : ℕ → ℕ
read_by mask = count (has_read mask) MOST-SEATS

-- the one in seat n reads it: its bit goes from one mask to the other
abbrev pub signed : ℕ → ℕ → ℕ
signed mask n = marked (cleared mask (MOST-SEATS + n)) n

-- "a new subscriber sees nothing published before": what is published now may be read by those who sit in the first n seats now
unfoldable pub audience : State → ℕ → ℕ → ℕ
audience s b zero = 0
audience s b (suc n) = audience s b n + cond (eqb (in_seat s b n) 0) 0 (2 ^ (MOST-SEATS + n))

-- ---- values: they stand in one row for all buses, in the order of publishing; a bus's values are those of that row with its number
-- the data entry of the i-th
abbrev pub value_at : State → ℕ → ℕ
value_at s i = at s ISSUE i - 1

-- it is bus b's
abbrev pub is_on : State → ℕ → ℕ → Bool
is_on s b i = eqb (at s VALUE-BUS (value_at s i)) (suc b)

-- the oldest of bus b; past the row where it has none
abbrev pub oldest_on : State → ℕ → ℕ
oldest_on s b = lowest (is_on s b) (head s ISSUED)

-- bus b has as many as it can have
abbrev pub bus_full : State → ℕ → Bool
bus_full s b = leb (at s BUS-SIZE b) (occurs (suc b) (s VALUE-BUS))

-- the payload of data entry d
abbrev pub value_of : State → ℕ → List ℕ
value_of s d = take (at s LENGTH d) (drop (ENTRY-BYTES * d + HEADER-BYTES) (s PAYLOAD))

-- the i-th is bus b's, and the one in seat n may still read it
abbrev pub is_unread : State → ℕ → ℕ → ℕ → Bool
is_unread s b n i = is_on s b i && may_read (at s READERS (value_at s i)) n

-- "the oldest unread" of bus b for a slot, written one up; past the row where there is none, or where it is not subscribed
abbrev pub oldest_unread : State → ℕ → ℕ → ℕ
oldest_unread s b a = cond (sits s b a) (lowest (is_unread s b (seat_of s b a)) (head s ISSUED)) (head s ISSUED)

-- how long it is
abbrev pub unread_length : State → ℕ → ℕ → ℕ
unread_length s b a =
    cond (ltb (oldest_unread s b a) (head s ISSUED)) (at s LENGTH (value_at s (oldest_unread s b a))) 0

-- ---- a value begins and ends
-- "A bus entry takes one data entry, header 0": it comes last in the row
unfoldable pub issue : State → ℕ → ℕ → List ℕ → State
issue s d b payload =
    push
    (poke (poke (poke (fill s d 0 0 payload) VALUE-BUS d (suc b)) READERS d (audience s b MOST-SEATS)) PUBLISHED d (head s CLOCK))
    ISSUE ISSUED (suc d)

-- the j-th ends: the row closes up, and its data entry is freed
unfoldable pub retire : State → ℕ → State
retire s j =
    let d = value_at s j in
    pull (poke (poke (poke (unfill s d) VALUE-BUS d 0) READERS d 0) PUBLISHED d 0) ISSUE ISSUED j

-- "a full bus evicts its oldest entry first"
unfoldable pub evict : State → ℕ → State
evict s b = cond (bus_full s b) (retire s (oldest_on s b)) s

-- what is published stands last
unfoldable pub broadcast : Caps → State → ℕ → List ℕ → State
broadcast k s b payload = let u = evict s b in issue u (data_for k u) b payload

-- ---- reading
-- "Entries can end after a number of reads": it has been read as often as its bus asks
abbrev pub read_out_of : State → ℕ → ℕ → Bool
read_out_of s b d = not (eqb (at s BUS-READS b) 0) && leb (at s BUS-READS b) (read_by (at s READERS d))

-- the one in seat n reads the j-th, which is bus b's
unfoldable pub read_off : State → ℕ → ℕ → ℕ → State
read_off s b n j =
    let d = value_at s j in
    let u = poke s READERS d (signed (at s READERS d) n) in
    cond (read_out_of u b d) (retire u j) u

-- ---- leaving
-- the one in seat n of bus b may read nothing of the first d data entries any more
unfoldable pub forget : ℕ → ℕ → ℕ → State → State
forget b n zero s = s
forget b n (suc d) s =
    let u = forget b n d s in
    cond (eqb (at u VALUE-BUS d) (suc b)) (poke u READERS d (cleared (at u READERS d) (MOST-SEATS + n))) u

-- seat n of bus b is given up
unfoldable pub stand_up : Caps → State → ℕ → ℕ → State
stand_up k s b n = poke (forget b n k.datas s) SEAT (seat_at b n) 0

-- those of slot a, on the first buses
unfoldable pub leave_buses : Caps → ℕ → ℕ → State → State
leave_buses k a zero s = s
leave_buses k a (suc b) s =
    let u = leave_buses k a b s in
    cond (sits u b (suc a)) (stand_up k u b (seat_of u b (suc a))) u

-- ---- ageing
-- the i-th has reached its age: 1,000 × so many milliseconds after it was published is at or before the clock
abbrev pub is_stale : State → ℕ → Bool
is_stale s i =
    let d = value_at s i in
    let age = at s BUS-AGE (at s VALUE-BUS d - 1) in
    not (eqb age 0) && leb (at s PUBLISHED d + 1000 * age) (head s CLOCK)

-- "Entries that have reached their age end": those among the first, the last of them first
unfoldable pub airing : ℕ → State → State
airing zero s = s
airing (suc i) s = airing i (cond (is_stale s i) (retire s i) s)

abbrev pub aired : State → State
aired s = airing (head s ISSUED) s
