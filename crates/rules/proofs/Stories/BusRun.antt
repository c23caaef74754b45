-- Buses that say something: a story of two buses with these answers happens, its reckoning is this ledger, and there each refusal is due to some call.
use Prim.Native.Nat.{ℕ, ◌≤◌}
use mathlib.Core.Path.{◌≡◌, refl, subst}
use mathlib.Core.List.{List, [], ◌∷◌, ◌++◌, map}
use lib.ListN.{length}
use lib.IntN.{pos}
use Rattle.ledger.specs.Call.{Answer, Line, Op}
use Rattle.ledger.specs.Call.Answer.{plain, made, turn, ended, advanced, copied}
use Rattle.ledger.specs.Call.Call.{op, start}
use Rattle.ledger.specs.Call.Op.{advance, bus, exit, next, publish, read, report, spawn, subscribe, unsubscribe, yield}
use Rattle.ledger.specs.Ledger.{Ledger, buses, mail, people, ties, time}
use Rattle.ledger.specs.Lists.{but_first, by_slot, first, some, those}
use Rattle.ledger.specs.Reckon as L
use Rattle.ledger.specs.Reckon.{aired, bus_made, departed, end_links, end_monitors, end_readers, end_timers, entered, evicted, fires, firings, gone, issued, joined}
use Rattle.ledger.specs.Reckon.{notices, page, partner_notes, reading, reckon, refusal_due, watcher_notes, worn_by}
use Rattle.ledger.specs.Room.{oldest_unread, payload_of}
use Rattle.pools.specs.Pool.{count, lowest, occurs}
use Rattle.records.specs.Bytes.{le}
use Rattle.tables.specs.State.{State, needed, needed_p, poke, view, with_col}
use Rattle.tables.specs.Action.{free_bit, pull, push, take_bit, write}
use Rattle.rules.specs.Aged.{end_own, end_use}
use Rattle.rules.specs.Terms.{joins}
use Rattle.rules.specs.Actions.{fill, least, let_go, ready, unfill}
use Rattle.rules.specs.Buses.{airing, audience, broadcast, evict, forget, issue, leave_buses, make_bus, read_off, retire, sit_down, stand_up}
use Rattle.rules.specs.Calls.{cut_link, cut_links, cut_monitor, cut_monitors, depart, drop_all, fire_all, first_head, loosen, rouse, ruled, run, vacate}
use Rattle.rules.specs.Host.{fresh, freed, stated, zeroed}
use Rattle.rules.specs.Run.{lines}
use Rattle.rules.specs.Story.{caps_from, line}
use Rattle.rules.specs.Examples.{NORMAL}
use Rattle.rules.proofs.Stories.NotVacuous.{FEW, lined}
use Rattle.rules.proofs.Stories.Plays.{Happens, can_start_lem, story_happens}

-- bus 0 has one seat and room for one value, which ends after a millisecond; bus 1 has two seats and room for two, which end when they are read once. 256 sits on bus 0, where
-- its second value evicts the first, and 257 on bus 1, where it may read the second value alone; 258 leaves bus 1 by its end, and the clock ends what is left on bus 0
abbrev pub BUS-RUN : List Op
BUS-RUN =
    bus 1 1 0 1 ∷ bus 2 2 1 0 ∷ spawn 0 ∷ spawn 0 ∷ spawn 0
    ∷ next ∷ subscribe 0 ∷ read 0 9 ∷ publish 0 (1 ∷ 2 ∷ []) ∷ publish 0 (3 ∷ []) ∷ publish 1 (4 ∷ []) ∷ yield
    ∷ next ∷ subscribe 1 ∷ publish 1 (5 ∷ 6 ∷ []) ∷ yield
    ∷ next ∷ subscribe 1 ∷ exit NORMAL
    ∷ next ∷ advance 1000 ∷ yield ∷ next ∷ []

-- what these calls answer
abbrev pub BUS-ANSWERS : List Answer
BUS-ANSWERS =
    made 0 0 ∷ made 0 1 ∷ made 0 256 ∷ made 0 257 ∷ made 0 258
    ∷ turn 0 256 0 (pos 0) ∷ plain 0 ∷ copied 5 [] ∷ plain 0 ∷ plain 0 ∷ plain 0 ∷ plain 0
    ∷ turn 0 257 0 (pos 0) ∷ plain 0 ∷ plain 0 ∷ plain 0
    ∷ turn 0 258 0 (pos 0) ∷ plain 0 ∷ ended 0 0 0
    ∷ turn 0 256 0 (pos 0) ∷ advanced 0 0 ∷ plain 0 ∷ turn 0 257 0 (pos 0) ∷ []

-- of four values the last two are left; 256 sat down before the first of the four, and 257 before the last
abbrev pub BUS-LEFT : Ledger
BUS-LEFT = record {
  sizes = FEW;
  people = people (record { id = 256; priority = 0 } ∷ record { id = 257; priority = 0 } ∷ []) 257 [];
  mail = mail [] [];
  time = time 1000 [] [];
  ties = ties [] [] [];
  buses = buses
      (record { entries = 1; subscribers = 1; reads = 0; age = 1 } ∷ record { entries = 2; subscribers = 2; reads = 1; age = 0 } ∷ [])
      (record { bus = 1; payload = 4 ∷ []; time = 0; reads = 0; rank = 2 } ∷ record { bus = 1; payload = 5 ∷ 6 ∷ []; time = 0; reads = 0; rank = 3 } ∷ [])
      (record { bus = 0; who = 256; cursor = 0 } ∷ record { bus = 1; who = 257; cursor = 3 } ∷ [])
      4;
}

-- the story's lines: a start that answers 0, and then these
abbrev pub BUS-RAN : List Line
BUS-RAN = line (start FEW) (plain 0) ∷ lined BUS-RUN BUS-ANSWERS

-- then 257 reads: a slice of one byte is too short; it reads the value that came after it sat down, which then ends, and nothing else is there for it
abbrev pub BUS-RUN-ON : List Op
BUS-RUN-ON = BUS-RUN ++ (read 1 1 ∷ read 1 2 ∷ read 1 2 ∷ [])

-- and what all of them answer
abbrev pub BUS-ANSWERS-ON : List Answer
BUS-ANSWERS-ON = BUS-ANSWERS ++ (copied 1 [] ∷ copied 0 (5 ∷ 6 ∷ []) ∷ copied 5 [] ∷ [])

-- by the rules, whatever lies past the needed words and bytes
computed : (s : State) → lines (caps_from FEW) (fresh (caps_from FEW) s) BUS-RUN-ON ≡ lined BUS-RUN-ON BUS-ANSWERS-ON
unfolding airing audience broadcast evict forget issue leave_buses make_bus read_off retire sit_down stand_up ruled lowest occurs le poke with_col free_bit pull push take_bit
    write joins fill least let_go ready unfill cut_link cut_links cut_monitor cut_monitors end_use drop_all end_own depart fire_all first_head loosen vacate rouse run
    fresh freed stated zeroed lines count
computed s = refl

-- THE THEOREM: on any two buffers that are long enough, whatever they hold, a story with these lines happens
pub buses_happen : (w p : List ℕ) → needed (caps_from FEW) ≤ length w → needed_p (caps_from FEW) ≤ length p → Happens w p (line (start FEW) (plain 0) ∷ lined BUS-RUN-ON BUS-ANSWERS-ON)
buses_happen w p a b =
    let k = caps_from FEW in
    subst (λ (xs : List Line). Happens w p (line (start FEW) (plain 0) ∷ xs)) (computed (view k w p)) (story_happens FEW BUS-RUN-ON w p (can_start_lem k w p refl a b))

-- THE THEOREM: and the reckoning before those reads, whatever was reckoned before the start, is this ledger
pub buses_reckoned : (l : Ledger) → reckon l BUS-RAN ≡ BUS-LEFT
unfolding aired bus_made but_first by_slot end_readers evicted issued joined some those L.cleared L.between departed end_links end_monitors end_timers entered fires firings gone
    notices partner_notes reckon watcher_notes worn_by
buses_reckoned l = refl

-- calls to it, and the refusal that is due to each: there is no bus 2, bus 0 has no other seat, and bus 1 is full, which needs no room; a slice of one byte is too short
abbrev pub BUS-ASKED : List Op
BUS-ASKED =
    bus 0 1 0 0 ∷ bus 1 33 0 0 ∷ bus 16 32 32 0 ∷ publish 2 [] ∷ publish 1 [] ∷ subscribe 0 ∷ subscribe 1 ∷ subscribe 2 ∷ unsubscribe 0 ∷ unsubscribe 1
    ∷ read 0 9 ∷ read 1 1 ∷ read 1 2 ∷ []

-- the refusals, or 0 where none is due
pub bus_refusals : map (λ o. refusal_due BUS-LEFT (op o)) BUS-ASKED ≡ 1 ∷ 1 ∷ 0 ∷ 3 ∷ 0 ∷ 2 ∷ 1 ∷ 3 ∷ 3 ∷ 0 ∷ 3 ∷ 1 ∷ 0 ∷ []
unfolding first some those oldest_unread
bus_refusals = refl

-- 257 reads the value that came after it sat down, which then ends; nothing else is there for it
pub bus-read : let l = entered (line (op (read 1 2)) (copied 0 (5 ∷ 6 ∷ []))) BUS-LEFT in
    (payload_of (oldest_unread BUS-LEFT 1) ≡ 5 ∷ 6 ∷ []) × (map (λ v. v.payload) l.buses.values ≡ (4 ∷ []) ∷ []) × (oldest_unread l 1 ≡ [])
unfolding entered first reading some those oldest_unread
bus-read = (refl, refl, refl)

-- the two values take two of the five data entries
pub bus_counts : (page report).counts BUS-LEFT ≡ 1 ∷ 4 ∷ 3 ∷ 2 ∷ 1 ∷ 1 ∷ []
bus_counts = refl
