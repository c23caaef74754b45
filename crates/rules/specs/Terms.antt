-- The words of document 01 in terms of the tables.
use Rattle.std.specs.Prelude.{ℕ, ◌-◌, ◌*◌, Bool, ◌&&◌, ◌||◌, not, List, get_or, eqb, leb}
use Rattle.pools.specs.Slot.{slot_of, unused}
use Rattle.records.specs.Bytes.{field}
use Rattle.records.specs.Header.{class_of, tag_of}
use Rattle.tables.specs.Columns.{PAYLOAD, RUNNING, SENDER, WANT-CLASS, WANT-SENDER, WANT-TAG}
use Rattle.tables.specs.Limits.{ANY-CLASS, ANY-SENDER, ANY-TAG, ENTRY-BYTES, HEADER-BYTES}
use Rattle.tables.specs.State.{State, at, head}
use Rattle.rules.specs.Aged.{Aged, actor_pool, is_use, monitor_pool, timer_pool, use_id}

-- ---- an actor's states, as its word has them
abbrev pub FREE : ℕ
FREE = 0

abbrev pub RUNNABLE : ℕ
RUNNABLE = 1

abbrev pub RUNS : ℕ
RUNS = 2

abbrev pub WAITS : ℕ
WAITS = 3

-- ---- why it is runnable: "1 message, 2 timeout"; 0 where it was spawned or has yielded
abbrev pub MESSAGE : ℕ
MESSAGE = 1

abbrev pub TIMEOUT : ℕ
TIMEOUT = 2

-- ---- actors
-- slot a is in use: a live actor
unfoldable pub alive : List ℕ → ℕ → Bool
alive states a = not (unused states a)

-- "an actor id is age × 256 + slot"; "A .. timer id is age × 64 + slot, a monitor id age × 128 + slot"
abbrev pub actor_id : State → ℕ → ℕ
actor_id = use_id actor_pool

abbrev pub timer_id : State → ℕ → ℕ
timer_id = use_id timer_pool

abbrev pub monitor_id : State → ℕ → ℕ
monitor_id = use_id monitor_pool

-- id is that of a live actor
abbrev pub is_actor : State → ℕ → Bool
is_actor = is_use actor_pool

-- the slot of the running actor, one up; 0 where none runs
abbrev pub runner : State → ℕ
runner s = head s RUNNING

abbrev pub runner_id : State → ℕ
runner_id s = actor_id s (runner s - 1)

-- "a monitor or timer only its owner, by its id": id is that of one of the running actor's own
abbrev pub is_own : Aged → State → ℕ → Bool
is_own P s id = is_use P s id && eqb (at s P.word (slot_of P.factor id)) (runner s)

-- ---- messages
-- "A data entry is a four-byte little-endian header and the payload"
unfoldable pub header_at : List ℕ → ℕ → ℕ
header_at payload d = field HEADER-BYTES (ENTRY-BYTES * d) payload

abbrev pub header : State → ℕ → ℕ
header s d = header_at (s PAYLOAD) d

-- a wanted number is the one that is there, or stands for any
unfoldable pub wants : ℕ → ℕ → ℕ → Bool
wants any wanted x = eqb wanted any || eqb wanted x

-- "a filter of sender, class and tag"
unfoldable pub fits : ℕ → ℕ → ℕ → ℕ → ℕ → ℕ → Bool
fits want_sender want_class want_tag sender class tag =
    wants ANY-SENDER want_sender sender && (wants ANY-CLASS want_class class && wants ANY-TAG want_tag tag)

-- the filter of the waiting actor a matches data entry d
abbrev pub awaits : State → ℕ → ℕ → Bool
awaits s a d =
    fits (at s WANT-SENDER a) (at s WANT-CLASS a) (at s WANT-TAG a) (at s SENDER d) (class_of (header s d)) (tag_of (header s d))

-- "classes 5 to 14 or above 15 and larger .. tags are malformed"; since request C-19 no sender is
abbrev pub legal : ℕ → ℕ → Bool
legal class tag = (leb class 4 || eqb class ANY-CLASS) && leb tag ANY-TAG

-- ---- links
-- link entry e joins the slots a and b, written one up as in the columns
unfoldable pub joins : List ℕ → List ℕ → ℕ → ℕ → ℕ → Bool
joins one two a b e =
    (eqb (get_or one e 0) a && eqb (get_or two e 0) b) || (eqb (get_or one e 0) b && eqb (get_or two e 0) a)
