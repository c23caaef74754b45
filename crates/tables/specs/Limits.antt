-- The numbers of document 01 that stand for a limit, each by its meaning: two that are equal today are two names.
use Rattle.std.specs.Prelude.{ℕ, ◌+◌, ◌-◌, ◌^◌}

-- ---- "Range at start": the most that each pool can have
abbrev pub MOST-ACTORS : ℕ
MOST-ACTORS = 256

abbrev pub MOST-MAILS : ℕ
MOST-MAILS = 256

abbrev pub MOST-DATAS : ℕ
MOST-DATAS = 256

abbrev pub MOST-LINKS : ℕ
MOST-LINKS = 128

abbrev pub MOST-MONITORS : ℕ
MOST-MONITORS = 128

abbrev pub MOST-TIMERS : ℕ
MOST-TIMERS = 64

-- ---- buses: "up to 32 buses .., each with 1 to 16 entries and 1 to 32 subscribers"
abbrev pub MOST-BUSES : ℕ
MOST-BUSES = 32

abbrev pub MOST-VALUES : ℕ
MOST-VALUES = 16

abbrev pub MOST-SEATS : ℕ
MOST-SEATS = 32

-- "Entries can end after a number of reads (to 32) or an age (to 2^31 - 1 ms)"
abbrev pub MOST-READS : ℕ
MOST-READS = 32

abbrev pub LONGEST-AGE : ℕ
LONGEST-AGE = 2 ^ 31 - 1

-- ---- "an actor id is age × 256 + slot"; "A .. timer id is age × 64 + slot, a monitor id age × 128 + slot"
abbrev pub ACTOR-FACTOR : ℕ
ACTOR-FACTOR = 256

abbrev pub TIMER-FACTOR : ℕ
TIMER-FACTOR = 64

abbrev pub MONITOR-FACTOR : ℕ
MONITOR-FACTOR = 128

-- "Ages go to 2^40"
abbrev pub OLDEST : ℕ
OLDEST = 2 ^ 40

-- ---- "data entries, 256 bytes each": "a four-byte little-endian header and the payload"; "Payloads are 0 to 252 bytes"
abbrev pub ENTRY-BYTES : ℕ
ENTRY-BYTES = 256

abbrev pub HEADER-BYTES : ℕ
HEADER-BYTES = 4

abbrev pub PAYLOAD-MOST : ℕ
PAYLOAD-MOST = 252

-- ---- "Any-sender becomes 2^64 - 1"; ".. 15 and 134,217,727 for any"
abbrev pub ANY-SENDER : ℕ
ANY-SENDER = 2 ^ 64 - 1

abbrev pub ANY-CLASS : ℕ
ANY-CLASS = 15

abbrev pub ANY-TAG : ℕ
ANY-TAG = 134217727

-- ---- "Priorities are 0 (first) to 3": the last level, and how many there are
abbrev pub LAST-LEVEL : ℕ
LAST-LEVEL = 3

abbrev pub LEVELS : ℕ
LEVELS = LAST-LEVEL + 1

-- ---- times. "The clock counts microseconds from 0, at most 2^62"
abbrev pub CLOCK-END : ℕ
CLOCK-END = 2 ^ 62

-- "a delay of 0 to 2^32 - 1 µs", "an interval of .. to 2^32 - 1"; "Advance adds 0 to 2^32 - 1"
abbrev pub LONGEST : ℕ
LONGEST = 2 ^ 32 - 1

-- "periodic intervals below 100 µs become malformed"
abbrev pub SHORTEST-INTERVAL : ℕ
SHORTEST-INTERVAL = 100

-- "Positive waits above 86,400,000 .. become malformed": a wait in milliseconds, so a day
abbrev pub LONGEST-WAIT : ℕ
LONGEST-WAIT = 86400000

-- "due times at most 2^62 + 2^32"; a deadline "at most 2^62 + 2^41"
abbrev pub DUE-END : ℕ
DUE-END = 2 ^ 62 + 2 ^ 32

abbrev pub DEADLINE-END : ℕ
DEADLINE-END = 2 ^ 62 + 2 ^ 41

-- no time is later
abbrev pub ALWAYS : ℕ
ALWAYS = 2 ^ 64 - 1

-- ---- exit: "a reason .. to 65,535"
abbrev pub LAST-REASON : ℕ
LAST-REASON = 65535

-- ---- "the number of words needed"; "The table may have up to 8,192 words"
abbrev pub WORDS-MOST : ℕ
WORDS-MOST = 8192

-- a slot, an entry or a count below this is small enough that no sum of a few of them overflows
abbrev pub SAFE : ℕ
SAFE = 8192
