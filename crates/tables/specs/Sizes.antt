-- How many words a column has where no capacity says so, and how many columns there are for each entry of a pool.
use Rattle.std.specs.Prelude.{ℕ, ◌+◌, ◌-◌, ◌*◌}
use Rattle.pools.specs.Bits.{WORD-BITS}
use Rattle.tables.specs.Columns.{ACTORS, BUS-SIZE, LINK-ONE, MAIL-FREE, MAIL-OWNER, REST, SEAT, SENDER, SPARE, STATE, TIMER-OWNER, WATCHER}
use Rattle.tables.specs.Limits.{MOST-BUSES, MOST-SEATS}

-- ---- sizes that no capacity changes: the spare words of the head; the words of a column of free bits, and the bits in them; the seats of all buses
abbrev pub SPARES : ℕ
SPARES = 4

abbrev pub BIT-WORDS : ℕ
BIT-WORDS = 4

abbrev pub COLUMN-BITS : ℕ
COLUMN-BITS = BIT-WORDS * WORD-BITS

abbrev pub ALL-SEATS : ℕ
ALL-SEATS = MOST-BUSES * MOST-SEATS

-- ---- how many columns there are of each size: a group ends where the next one begins
abbrev pub HEADS : ℕ
HEADS = SPARE - ACTORS

abbrev pub BITS : ℕ
BITS = BUS-SIZE - MAIL-FREE

abbrev pub PER-BUS : ℕ
PER-BUS = SEAT - BUS-SIZE

abbrev pub SEATINGS : ℕ
SEATINGS = STATE - SEAT

abbrev pub PER-ACTOR : ℕ
PER-ACTOR = MAIL-OWNER - STATE

abbrev pub PER-MAIL : ℕ
PER-MAIL = SENDER - MAIL-OWNER

abbrev pub PER-DATA : ℕ
PER-DATA = LINK-ONE - SENDER

abbrev pub PER-LINK : ℕ
PER-LINK = WATCHER - LINK-ONE

abbrev pub PER-MONITOR : ℕ
PER-MONITOR = TIMER-OWNER - WATCHER

abbrev pub PER-TIMER : ℕ
PER-TIMER = REST - TIMER-OWNER

-- the words that every table has, whatever its capacities
abbrev pub FIXED : ℕ
FIXED = HEADS + SPARES + BITS * BIT-WORDS + PER-BUS * MOST-BUSES + SEATINGS * ALL-SEATS
