-- The limits of document 01 by name.
use Rattle.std.specs.Prelude.{ℕ, ◌-◌, ◌^◌}

-- ---- ids: "an actor id is age × 256 + slot"; "A .. timer id is age × 64 + slot, a monitor id age × 128 + slot"; every slot is below the factor
abbrev pub ACTOR-FACTOR : ℕ
ACTOR-FACTOR = 256

abbrev pub TIMER-FACTOR : ℕ
TIMER-FACTOR = 64

abbrev pub MONITOR-FACTOR : ℕ
MONITOR-FACTOR = 128

-- "Ages go to 2^40"
abbrev pub OLDEST : ℕ
OLDEST = 2 ^ 40

-- ---- actors
-- "Priorities are 0 (first) to 3"
abbrev pub LAST-LEVEL : ℕ
LAST-LEVEL = 3

-- "any reason from 0 to 65,535"
abbrev pub LAST-REASON : ℕ
LAST-REASON = 65535

-- ---- time
-- "The clock counts microseconds from 0, at most 2^62"
abbrev pub CLOCK-END : ℕ
CLOCK-END = 2 ^ 62

-- "a delay of 0 to 2^32 - 1 µs", "an interval of .. to 2^32 - 1", "Advance adds 0 to 2^32 - 1"
abbrev pub LONGEST : ℕ
LONGEST = 2 ^ 32 - 1

-- "periodic intervals below 100 µs become malformed"
abbrev pub SHORTEST-INTERVAL : ℕ
SHORTEST-INTERVAL = 100

-- "Positive waits above 86,400,000 .. become malformed"
abbrev pub LONGEST-WAIT : ℕ
LONGEST-WAIT = 86400000

-- ---- buses: "up to 32 buses .., each with 1 to 16 entries and 1 to 32 subscribers"; "a number of reads (to 32) or an age (to 2^31 - 1 ms)"
abbrev pub MOST-BUSES : ℕ
MOST-BUSES = 32

abbrev pub MOST-VALUES : ℕ
MOST-VALUES = 16

abbrev pub MOST-SEATS : ℕ
MOST-SEATS = 32

abbrev pub MOST-READS : ℕ
MOST-READS = 32

abbrev pub LONGEST-AGE : ℕ
LONGEST-AGE = 2 ^ 31 - 1

-- ---- messages
-- "Payloads are 0 to 252 bytes"
abbrev pub PAYLOAD-MOST : ℕ
PAYLOAD-MOST = 252

-- "class in the top four bits (0 notify, 1 request, 2 reply, 3 timer, 4 exit ..)"
abbrev pub NOTIFY-CLASS : ℕ
NOTIFY-CLASS = 0

abbrev pub TIMER-CLASS : ℕ
TIMER-CLASS = 3

abbrev pub EXIT-CLASS : ℕ
EXIT-CLASS = 4

-- "classes 5 to 14 or above 15 .. are malformed"
abbrev pub LAST-CLASS : ℕ
LAST-CLASS = 4

-- "Any-sender becomes 2^64 - 1"; ".. 15 and 134,217,727 for any"
abbrev pub ANY-SENDER : ℕ
ANY-SENDER = 2 ^ 64 - 1

abbrev pub ANY-CLASS : ℕ
ANY-CLASS = 15

abbrev pub ANY-TAG : ℕ
ANY-TAG = 134217727
