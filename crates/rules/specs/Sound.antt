-- What a sound runtime is: the paragraph "Sound means" of document 01 and what later requests add to it, a rule for each clause, with the clause above it.
use Rattle.std.specs.Prelude.{ℕ, suc, ◌+◌, ◌-◌, ◌*◌, not, true, List, [], ◌∷◌, length, get_or, take, eqb}
use mir.Val.{bool_byte}
use Rattle.pools.specs.Pool.{occurs}
use Rattle.pools.specs.Bits.{free}
use Rattle.pools.specs.Slot.{age_of, slot_of}
use Rattle.records.specs.Header.{class_of, mark_of, tag_of}
use Rattle.records.specs.Records.{EXIT-BYTES, TICK-BYTES}
use Rattle.tables.specs.declared.Caps.{Caps}
use Rattle.tables.specs.Columns.{ACTORS, AGE, ARRIVAL, ARRIVED, BUS-AGE, BUS-READS, BUS-SEATS, BUS-SIZE, BUSES, CLOCK, DATA-FREE, DATAS, DEADLINE, DUE, HAND, INTERVAL, ISSUE, ISSUED, LENGTH, LINK-ONE, LINK-TWO, LINKS, MAIL-DATA, MAIL-FREE, MAIL-OWNER, MAILS, MONITORS, PAYLOAD, PRIORITY, PUBLISHED, QUEUE, QUEUED, READERS, REASON, REST, SENDER, SPARE, STATE, TIMER-OWNER, TIMERS, VALUE-BUS, WANT-CLASS, WANT-SENDER, WANT-TAG, WATCHED, WATCHER}
use Rattle.tables.specs.Sizes.{COLUMN-BITS, SPARES}
use Rattle.tables.specs.Limits.{ACTOR-FACTOR, ANY-CLASS, ANY-TAG, CLOCK-END, DEADLINE-END, DUE-END, ENTRY-BYTES, HEADER-BYTES, LAST-LEVEL, LONGEST, LONGEST-AGE, MOST-ACTORS, MOST-BUSES, MOST-DATAS, MOST-LINKS, MOST-MAILS, MOST-MONITORS, MOST-READS, MOST-SEATS, MOST-TIMERS, MOST-VALUES, OLDEST, PAYLOAD-MOST, SHORTEST-INTERVAL}
use Rattle.tables.specs.State.{State, at, head, view, caps_of, size, needed_p, Room}
use Rattle.rules.specs.Rule.{Rule, is, le, lt, eq, differ, both, imp, each, Holds}
use Rattle.rules.specs.Aged.{Aged, monitor_pool, timer_pool}
use Rattle.rules.specs.Buses.{has_read, in_seat, may_read}
use Rattle.rules.specs.Terms.{FREE, RUNNABLE, RUNS, TIMEOUT, WAITS, alive, awaits, header, joins, runner}

-- ---- "capacities .. in range"
abbrev pub range_rule : Caps → Rule
range_rule k =
    both (both (both (le 1 k.actors) (le k.actors MOST-ACTORS)) (both (le 1 k.mails) (le k.mails MOST-MAILS)))
    (both (both (le 1 k.datas) (le k.datas MOST-DATAS))
    (both (le k.links MOST-LINKS) (both (le k.monitors MOST-MONITORS) (le k.timers MOST-TIMERS))))

-- "or a buffer is too short": every column has all its words, and the payload area all its bytes
unfoldable pub size_rule : Caps → State → Rule
size_rule k s = both (each REST (λ c. eq (length (s c)) (size k c))) (eq (length (s PAYLOAD)) (needed_p k))

abbrev pub fit_rule : Caps → State → Rule
fit_rule k s = both (range_rule k) (size_rule k s)

-- ---- the head: it states the capacities; "clock in range"; the lists are no longer than their columns; "unused words are 0"
abbrev pub caps_rule : Caps → State → Rule
caps_rule k s =
    both (both (eq (head s ACTORS) k.actors) (both (eq (head s MAILS) k.mails) (eq (head s DATAS) k.datas)))
    (both (eq (head s LINKS) k.links) (both (eq (head s MONITORS) k.monitors) (eq (head s TIMERS) k.timers)))

abbrev pub head_rule : Caps → State → Rule
head_rule k s =
    both (both (le (head s CLOCK) CLOCK-END) (le (runner s) k.actors))
    (both (both (le (head s QUEUED) k.actors) (le (head s ARRIVED) k.mails)) (both (le (head s ISSUED) k.datas) (le (head s BUSES) MOST-BUSES)))

abbrev pub spare_rule : State → ℕ → Rule
spare_rule s i = eq (at s SPARE i) 0

-- ---- actors
-- "actor states, priorities, runnable reasons, .. ages (0 only if free) .. in range"; a hand names a data entry
abbrev pub actor_rule : Caps → State → ℕ → Rule
actor_rule k s a =
    both (both (le (at s STATE a) WAITS) (both (le (at s PRIORITY a) LAST-LEVEL) (le (at s REASON a) TIMEOUT)))
    (both (both (le (at s AGE a) OLDEST) (imp (eq (at s AGE a) 0) (eq (at s STATE a) FREE))) (le (at s HAND a) k.datas))

-- "unused words are 0; free entries (ages apart) .. are zero": a reason while it is runnable, a filter and a deadline while it waits
abbrev pub unused_rule : State → ℕ → Rule
unused_rule s a =
    both (imp (eq (at s STATE a) FREE) (both (eq (at s PRIORITY a) 0) (eq (at s HAND a) 0)))
    (both (imp (differ (at s STATE a) RUNNABLE) (eq (at s REASON a) 0))
    (imp (differ (at s STATE a) WAITS)
    (both (both (eq (at s WANT-SENDER a) 0) (eq (at s WANT-CLASS a) 0)) (both (eq (at s WANT-TAG a) 0) (eq (at s DEADLINE a) 0)))))

-- "a waiting actor's deadline is later than the clock and at most 2^62 + 2^41" (0 is no deadline); "filters are legal", whatever the sender
abbrev pub wait_rule : State → ℕ → Rule
wait_rule s a =
    both (le (at s WANT-TAG a) ANY-TAG)
    (both (both (le (at s WANT-CLASS a) ANY-CLASS) (imp (lt 4 (at s WANT-CLASS a)) (eq (at s WANT-CLASS a) ANY-CLASS)))
    (imp (differ (at s DEADLINE a) 0) (both (lt (head s CLOCK) (at s DEADLINE a)) (le (at s DEADLINE a) DEADLINE-END))))

-- "at most one actor running": the one that the head names
abbrev pub run_rule : State → ℕ → Rule
run_rule s a = eq (bool_byte (eqb (at s STATE a) RUNS)) (bool_byte (eqb (runner s) (suc a)))

-- ---- a counted list in a column of n words: the first m are below n, and the others are 0
abbrev pub list_rule : ℕ → ℕ → List ℕ → ℕ → Rule
list_rule n m list i = both (imp (lt i m) (lt (get_or list i 0) n)) (imp (le m i) (eq (get_or list i 0) 0))

-- "each runnable actor once in its own level's queue and no other actor queued": a level's queue is what the queue has of that priority
abbrev pub queue_rule : Caps → State → ℕ → Rule
queue_rule k s i = list_rule k.actors (head s QUEUED) (s QUEUE) i

abbrev pub once_rule : State → ℕ → Rule
once_rule s a = eq (occurs a (take (head s QUEUED) (s QUEUE))) (bool_byte (eqb (at s STATE a) RUNNABLE))

-- ---- mailbox entries
-- "each mailbox entry free or in one live actor's mailbox": a mailbox is what the arrivals have of that owner, in their order
abbrev pub mail_rule : Caps → State → ℕ → Rule
mail_rule k s e =
    both (imp (is (free (s MAIL-FREE) e)) (both (eq (at s MAIL-OWNER e) 0) (eq (at s MAIL-DATA e) 0)))
    (imp (is (not (free (s MAIL-FREE) e)))
    (both (both (le 1 (at s MAIL-OWNER e)) (is (alive (s STATE) (at s MAIL-OWNER e - 1))))
    (both (le 1 (at s MAIL-DATA e)) (le (at s MAIL-DATA e) k.datas))))

abbrev pub arrival_rule : Caps → State → ℕ → Rule
arrival_rule k s i = list_rule k.mails (head s ARRIVED) (s ARRIVAL) i

abbrev pub arrived_rule : State → ℕ → Rule
arrived_rule s e = eq (occurs e (take (head s ARRIVED) (s ARRIVAL))) (bool_byte (not (free (s MAIL-FREE) e)))

-- a free bit is an entry's: "unused words are 0"
abbrev pub bits_rule : ℕ → List ℕ → ℕ → Rule
bits_rule n bits e = imp (le n e) (is (not (free bits e)))

-- "its mailbox holds nothing that its filter matches"
abbrev pub filter_rule : State → ℕ → Rule
filter_rule s e =
    imp (both (is (not (free (s MAIL-FREE) e))) (eq (at s STATE (at s MAIL-OWNER e - 1)) WAITS))
    (is (not (awaits s (at s MAIL-OWNER e - 1) (at s MAIL-DATA e - 1))))

-- ---- data entries
-- their owners: the columns of which each word names a data entry, one up, or none: of the queued messages, of the actors' hands, and of the buses' values
abbrev pub OWNERS : List ℕ
OWNERS = MAIL-DATA ∷ HAND ∷ ISSUE ∷ []

-- how often the columns of a list name data entry d
abbrev pub held : List ℕ → State → ℕ → ℕ
held [] s d = 0
held (c ∷ cs) s d = occurs (suc d) (s c) + held cs s d

-- "each data entry free, belonging to one queued message, or in one live actor's hand", or one bus entry's: its owners name one that is not free once, and a free one never
abbrev pub held_rule : State → ℕ → Rule
held_rule s d = eq (held OWNERS s d) (bool_byte (not (free (s DATA-FREE) d)))

-- "free entries (ages apart) and bytes past a payload are zero"
unfoldable pub zeros : List ℕ → ℕ → ℕ → Rule
zeros bytes from n = each n (λ i. eq (get_or bytes (from + i) 0) 0)

abbrev pub empty_rule : State → ℕ → Rule
empty_rule s d = both (both (eq (at s SENDER d) 0) (eq (at s LENGTH d) 0)) (zeros (s PAYLOAD) (ENTRY-BYTES * d) ENTRY-BYTES)

-- "headers are class 0 without bit 27, tag below 134,217,727, or class 3 or 4 with it, tag 0"
abbrev pub header_rule : ℕ → Rule
header_rule h =
    both (imp (eq (class_of h) 0) (both (eq (mark_of h) 0) (lt (tag_of h) ANY-TAG)))
    (imp (differ (class_of h) 0) (both (both (le 3 (class_of h)) (le (class_of h) 4)) (both (eq (mark_of h) 1) (eq (tag_of h) 0))))

-- "lengths are 0 to 252, in classes 3 and 4 the record's", of the new edition
abbrev pub length_rule : ℕ → ℕ → Rule
length_rule class length =
    both (le length PAYLOAD-MOST) (both (imp (eq class 3) (eq length TICK-BYTES)) (imp (eq class 4) (eq length EXIT-BYTES)))

-- "senders (0 just in class 3) are actor ids of age 1 to their slot's age"
abbrev pub sender_rule : List ℕ → ℕ → ℕ → Rule
sender_rule ages class sender =
    both (imp (eq sender 0) (eq class 3))
    (imp (differ sender 0) (both (le 1 (age_of ACTOR-FACTOR sender)) (le (age_of ACTOR-FACTOR sender) (get_or ages (slot_of ACTOR-FACTOR sender) 0))))

abbrev pub message_rule : State → ℕ → Rule
message_rule s d =
    both (both (header_rule (header s d)) (length_rule (class_of (header s d)) (at s LENGTH d)))
    (both (sender_rule (s AGE) (class_of (header s d)) (at s SENDER d))
    (zeros (s PAYLOAD) (ENTRY-BYTES * d + (HEADER-BYTES + at s LENGTH d)) (PAYLOAD-MOST - at s LENGTH d)))

-- "A bus entry takes one data entry, header 0": and no sender
abbrev pub public_rule : State → ℕ → Rule
public_rule s d =
    both (both (eq (header s d) 0) (eq (at s SENDER d) 0))
    (both (le (at s LENGTH d) PAYLOAD-MOST)
    (zeros (s PAYLOAD) (ENTRY-BYTES * d + (HEADER-BYTES + at s LENGTH d)) (PAYLOAD-MOST - at s LENGTH d)))

-- one that is taken holds a message, or a bus's value
abbrev pub filled_rule : State → ℕ → Rule
filled_rule s d = both (imp (eq (at s VALUE-BUS d) 0) (message_rule s d)) (imp (differ (at s VALUE-BUS d) 0) (public_rule s d))

abbrev pub data_rule : State → ℕ → Rule
data_rule s d =
    both (imp (is (free (s DATA-FREE) d)) (empty_rule s d)) (imp (is (not (free (s DATA-FREE) d))) (filled_rule s d))

-- ---- buses
-- "the ranges above": "1 to 16 entries and 1 to 32 subscribers", reads "to 32", "an age (to 2^31 - 1 ms)"; a bus that is not made is all zero
abbrev pub settings_rule : State → ℕ → Rule
settings_rule s b =
    both (both (both (le 1 (at s BUS-SIZE b)) (le (at s BUS-SIZE b) MOST-VALUES)) (both (le 1 (at s BUS-SEATS b)) (le (at s BUS-SEATS b) MOST-SEATS)))
    (both (le (at s BUS-READS b) MOST-READS) (le (at s BUS-AGE b) LONGEST-AGE))

abbrev pub no_bus_rule : State → ℕ → Rule
no_bus_rule s b =
    both (both (eq (at s BUS-SIZE b) 0) (eq (at s BUS-SEATS b) 0)) (both (eq (at s BUS-READS b) 0) (eq (at s BUS-AGE b) 0))

abbrev pub bus_rule : State → ℕ → Rule
bus_rule s b = both (imp (lt b (head s BUSES)) (settings_rule s b)) (imp (le (head s BUSES) b) (no_bus_rule s b))

-- "live subscribers, none twice on a bus": in a seat that the bus has sits a live actor, and in no seat before it the same one
abbrev pub seat_rule : State → ℕ → ℕ → Rule
seat_rule s b n =
    imp (differ (in_seat s b n) 0)
    (both (lt n (at s BUS-SEATS b))
    (both (is (alive (s STATE) (in_seat s b n - 1))) (each n (λ m. differ (in_seat s b m) (in_seat s b n)))))

abbrev pub row_rule : State → ℕ → Rule
row_rule s b = each MOST-SEATS (λ n. seat_rule s b n)

-- a bus has at most so many values
abbrev pub crowd_rule : State → ℕ → Rule
crowd_rule s b = le (occurs (suc b) (s VALUE-BUS)) (at s BUS-SIZE b)

-- nobody who may still read a value has read it, and each who may sits on its bus
abbrev pub mask_rule : State → ℕ → ℕ → Rule
mask_rule s d n =
    imp (is (may_read (at s READERS d) n))
    (both (is (not (has_read (at s READERS d) n))) (differ (in_seat s (at s VALUE-BUS d - 1) n) 0))

-- a value is one bus's, and was published by now; the words of a data entry that holds none are 0
abbrev pub value_rule : State → ℕ → Rule
value_rule s d =
    both (imp (eq (at s VALUE-BUS d) 0) (both (eq (at s READERS d) 0) (eq (at s PUBLISHED d) 0)))
    (imp (differ (at s VALUE-BUS d) 0)
    (both (both (le (at s VALUE-BUS d) (head s BUSES)) (le (at s PUBLISHED d) (head s CLOCK))) (each MOST-SEATS (λ n. mask_rule s d n))))

-- the row of values: the first words name data entries, one up, and the others are 0
abbrev pub issue_rule : Caps → State → ℕ → Rule
issue_rule k s i =
    both (imp (lt i (head s ISSUED)) (both (le 1 (at s ISSUE i)) (le (at s ISSUE i) k.datas))) (imp (le (head s ISSUED) i) (eq (at s ISSUE i) 0))

-- each value is in it once
abbrev pub issued_rule : State → ℕ → Rule
issued_rule s d = eq (occurs (suc d) (s ISSUE)) (bool_byte (not (eqb (at s VALUE-BUS d) 0)))

-- ---- "links join two different live actors", both written one up
abbrev pub ends_rule : List ℕ → ℕ → ℕ → Rule
ends_rule states one two =
    both (both (le 1 one) (is (alive states (one - 1)))) (both (both (le 1 two) (is (alive states (two - 1)))) (differ one two))

abbrev pub link_rule : State → ℕ → Rule
link_rule s e =
    both (imp (eq (at s LINK-ONE e) 0) (eq (at s LINK-TWO e) 0))
    (imp (differ (at s LINK-ONE e) 0) (ends_rule (s STATE) (at s LINK-ONE e) (at s LINK-TWO e)))

-- "no pair twice": no entry before e joins the same two
unfoldable pub pair_rule : State → ℕ → Rule
pair_rule s e =
    imp (differ (at s LINK-ONE e) 0) (each e (λ d. is (not (joins (s LINK-ONE) (s LINK-TWO) (at s LINK-ONE e) (at s LINK-TWO e) d))))

-- ---- slots with ages: those of timers and monitors
-- "ages (0 only if free)"; a word that is not 0 is in use
abbrev pub age_rule : ℕ → ℕ → Rule
age_rule word age = both (le age OLDEST) (imp (differ word 0) (le 1 age))

-- "free entries (ages apart) .. are zero": these columns of slot i are
abbrev pub zero_rule : State → ℕ → List ℕ → Rule
zero_rule s i [] = is true
zero_rule s i (c ∷ []) = eq (at s c i) 0
zero_rule s i (c ∷ d ∷ cs) = both (eq (at s c i) 0) (zero_rule s i (d ∷ cs))

-- slot i has an age in range, and is free, or in use as is asked of one in use
abbrev pub aged_rule : Aged → (State → ℕ → Rule) → State → ℕ → Rule
aged_rule P used s i =
    both (age_rule (at s P.word i) (at s P.age i))
    (both (imp (eq (at s P.word i) 0) (zero_rule s i P.rest)) (imp (differ (at s P.word i) 0) (used s i)))

-- "monitors likewise, pairs may repeat"
abbrev pub watches_rule : State → ℕ → Rule
watches_rule s i = ends_rule (s STATE) (at s WATCHER i) (at s WATCHED i)

abbrev pub monitor_rule : State → ℕ → Rule
monitor_rule = aged_rule monitor_pool watches_rule

-- "intervals .. in range": 0 is a one-shot's; a periodic one has at least 100 (request C-16)
abbrev pub interval_rule : ℕ → Rule
interval_rule interval = both (le interval LONGEST) (imp (differ interval 0) (le SHORTEST-INTERVAL interval))

-- "timers have live owners; due times at most 2^62 + 2^32"
abbrev pub armed_rule : State → ℕ → Rule
armed_rule s i = both (is (alive (s STATE) (at s TIMER-OWNER i - 1))) (both (le (at s DUE i) DUE-END) (interval_rule (at s INTERVAL i)))

abbrev pub timer_rule : State → ℕ → Rule
timer_rule = aged_rule timer_pool armed_rule

-- ---- all of them
-- what is asked of slot a, and of word a of the queue
abbrev pub slot_rule : Caps → State → ℕ → Rule
slot_rule k s a =
    both (both (actor_rule k s a) (unused_rule s a)) (both (wait_rule s a) (both (run_rule s a) (queue_rule k s a)))

-- what is asked of mailbox entry e, and of word e of the arrivals
abbrev pub box_rule : Caps → State → ℕ → Rule
box_rule k s e = both (mail_rule k s e) (arrival_rule k s e)

-- the rules that read a word where it stands
unfoldable pub plain_rules : Caps → State → Rule
plain_rules k s =
    both (both (caps_rule k s) (both (head_rule k s) (each SPARES (λ i. spare_rule s i))))
    (both (both (each COLUMN-BITS (λ e. bits_rule k.mails (s MAIL-FREE) e)) (each COLUMN-BITS (λ d. bits_rule k.datas (s DATA-FREE) d)))
    (both (both (each k.actors (λ a. slot_rule k s a)) (each k.mails (λ e. box_rule k s e)))
    (both (both (each k.datas (λ d. data_rule s d)) (each k.links (λ e. link_rule s e)))
    (both (both (each k.monitors (λ i. monitor_rule s i)) (each k.timers (λ i. timer_rule s i)))
    (both (both (each MOST-BUSES (λ b. bus_rule s b)) (each MOST-BUSES (λ b. row_rule s b)))
    (both (each k.datas (λ d. value_rule s d)) (each k.datas (λ i. issue_rule k s i))))))))

-- the rules that count over a whole column, or follow what one names
unfoldable pub across_rules : Caps → State → Rule
across_rules k s =
    both (both (each k.actors (λ a. once_rule s a)) (each k.mails (λ e. arrived_rule s e)))
    (both (both (each k.datas (λ d. issued_rule s d)) (each MOST-BUSES (λ b. crowd_rule s b)))
    (both (each k.datas (λ d. held_rule s d)) (both (each k.links (λ e. pair_rule s e)) (each k.mails (λ e. filter_rule s e)))))

unfoldable pub sound_at : Caps → State → Rule
sound_at k s = both (fit_rule k s) (both (plain_rules k s) (across_rules k s))

-- the state that two buffers hold, by the capacities that the table's head states
abbrev pub view_of : List ℕ → List ℕ → State
view_of w p = view (caps_of w) w p

-- "7 is answered exactly when a rule is broken or a buffer is too short"
abbrev pub sound_rule : List ℕ → List ℕ → Rule
sound_rule w p = sound_at (caps_of w) (view_of w p)

-- what a function inside a host call may rely on: "Only calls inside the library may take soundness as a premise"
pub record Ready (k : Caps) (w p : List ℕ) : Type 0 where
  pub room : Room k w p
  pub sound : Holds (sound_at k (view k w p))
