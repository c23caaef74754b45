-- How the limits of document 01 hang together.
use Prim.Native.Nat.{◌+◌, ◌*◌, ◌^◌, ◌≤◌}
use mathlib.Core.Path.{◌≡◌, refl}
use lib.Dec.{lit≤}
use Rattle.pools.specs.Slot.{id_of}
use Rattle.tables.specs.Limits.{ACTOR-FACTOR, ENTRY-BYTES, HEADER-BYTES, MONITOR-FACTOR, MOST-ACTORS, MOST-DATAS, MOST-MAILS, MOST-MONITORS, MOST-TIMERS, OLDEST, PAYLOAD-MOST, TIMER-FACTOR}
use Rattle.tables.specs.Sizes.{COLUMN-BITS}

-- every slot is below its factor, so that an id tells its slot
pub slots-below : (MOST-ACTORS ≤ ACTOR-FACTOR) × (MOST-TIMERS ≤ TIMER-FACTOR) × (MOST-MONITORS ≤ MONITOR-FACTOR)
slots-below = (lit≤ tt, lit≤ tt, lit≤ tt)

-- every id fits the eight bytes that a record has for it
pub ids_fit : ((OLDEST + 1) * ACTOR-FACTOR ≤ 2 ^ 64) × ((OLDEST + 1) * TIMER-FACTOR ≤ 2 ^ 64) × ((OLDEST + 1) * MONITOR-FACTOR ≤ 2 ^ 64)
ids_fit = (lit≤ tt, lit≤ tt, lit≤ tt)

-- slot 0's last actor id
pub last_id : id_of ACTOR-FACTOR OLDEST 0 ≡ 2 ^ 48
last_id = refl

-- every message entry has its free bit
pub bits_enough : (MOST-MAILS ≤ COLUMN-BITS) × (MOST-DATAS ≤ COLUMN-BITS)
bits_enough = (lit≤ tt, lit≤ tt)

-- header and longest payload fill an entry
pub entry_whole : HEADER-BYTES + PAYLOAD-MOST ≡ ENTRY-BYTES
entry_whole = refl
