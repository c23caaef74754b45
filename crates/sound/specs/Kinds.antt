-- Parts of the rules, as the functions test them.
use Rattle.std.specs.Prelude.{ℕ, suc, ◌+◌, ◌-◌, ◌*◌, min, not, List, eqb}
use mir.Val.{bool_byte}
use Rattle.pools.specs.Bits.{WORD-BITS, free}
use Rattle.records.specs.Header.{class_of}
use Rattle.tables.specs.declared.Caps.{Caps}
use Rattle.tables.specs.Columns.{AGE, DATA-FREE, DEADLINE, HAND, MAIL-FREE, PRIORITY, REASON, STATE, WANT-CLASS, WANT-SENDER, WANT-TAG}
use Rattle.tables.specs.Limits.{ENTRY-BYTES, HEADER-BYTES, LAST-LEVEL, MOST-BUSES, OLDEST, PAYLOAD-MOST}
use Rattle.tables.specs.Sizes.{COLUMN-BITS, SPARES}
use Rattle.tables.specs.State.{State, at}
use Rattle.rules.specs.Rule.{Rule, is, le, eq, differ, both, imp, each}
use Rattle.rules.specs.Terms.{FREE, RUNNABLE, RUNS, TIMEOUT, WAITS, alive, awaits, header_at, runner}
use Rattle.rules.specs.Sound.{caps_rule, head_rule, spare_rule, bits_rule, slot_rule, box_rule, bus_rule, row_rule, crowd_rule, data_rule, header_rule, issued_rule, issue_rule, length_rule, link_rule, monitor_rule, sender_rule, timer_rule, value_rule, wait_rule, mail_rule, filter_rule, once_rule, arrived_rule, held_rule, pair_rule, plain_rules, zeros}

-- ---- the rules of a slot, by its state
-- its own words
abbrev pub form_rule : ℕ → ℕ → ℕ → ℕ → ℕ → ℕ → Rule
form_rule datas state priority reason age hand =
    both (both (both (le state WAITS) (both (le priority LAST-LEVEL) (le reason TIMEOUT)))
    (both (both (le age OLDEST) (imp (eq age 0) (eq state FREE))) (le hand datas)))
    (both (imp (eq state FREE) (both (eq priority 0) (eq hand 0))) (imp (differ state RUNNABLE) (eq reason 0)))

abbrev pub formed_rule : Caps → State → ℕ → ℕ → Rule
formed_rule k s state a = form_rule k.datas state (at s PRIORITY a) (at s REASON a) (at s AGE a) (at s HAND a)

-- what it would wait for is unset
abbrev pub rest_rule : State → ℕ → Rule
rest_rule s a =
    both (both (eq (at s WANT-SENDER a) 0) (eq (at s WANT-CLASS a) 0)) (both (eq (at s WANT-TAG a) 0) (eq (at s DEADLINE a) 0))

-- what it waits for
abbrev pub waiting_rule : State → ℕ → ℕ → Rule
waiting_rule s state a = both (imp (differ state WAITS) (rest_rule s a)) (wait_rule s a)

-- it runs where the head names it
abbrev pub turn_rule : State → ℕ → ℕ → Rule
turn_rule s state a = eq (bool_byte (eqb state RUNS)) (bool_byte (eqb (runner s) (suc a)))

-- all that is asked of slot a, apart from the queue
abbrev pub own_rule : Caps → State → ℕ → Rule
own_rule k s a = both (formed_rule k s (at s STATE a) a) (both (waiting_rule s (at s STATE a) a) (turn_rule s (at s STATE a) a))

-- ---- the rules of a mailbox entry
-- of one in use, by its words
abbrev pub keep_rule : Caps → State → ℕ → ℕ → Rule
keep_rule k s owner entry =
    both (both (both (le 1 owner) (is (alive (s STATE) (owner - 1)))) (both (le 1 entry) (le entry k.datas)))
    (imp (eq (at s STATE (owner - 1)) WAITS) (is (not (awaits s (owner - 1) (entry - 1)))))

-- of any, with its owner's filter
abbrev pub kept_rule : Caps → State → ℕ → Rule
kept_rule k s e = both (mail_rule k s e) (filter_rule s e)

-- of those that have their free bits in word j
abbrev pub mails_rule : Caps → State → ℕ → Rule
mails_rule k s j = each (min k.mails (WORD-BITS * j + WORD-BITS)) (λ e. imp (le (WORD-BITS * j) e) (kept_rule k s e))

-- ---- the rules of a data entry
-- data entry d of the payload area holds a message, of a sender and a length that stand in its words
abbrev pub written_rule : List ℕ → List ℕ → ℕ → ℕ → ℕ → Rule
written_rule area ages sender length d =
    both (both (header_rule (header_at area d)) (length_rule (class_of (header_at area d)) length))
    (both (sender_rule ages (class_of (header_at area d)) sender) (zeros area (ENTRY-BYTES * d + (HEADER-BYTES + length)) (PAYLOAD-MOST - length)))

-- it holds a bus's value
abbrev pub posted_rule : List ℕ → ℕ → ℕ → ℕ → Rule
posted_rule area sender length d =
    both (both (eq (header_at area d) 0) (eq sender 0))
    (both (le length PAYLOAD-MOST) (zeros area (ENTRY-BYTES * d + (HEADER-BYTES + length)) (PAYLOAD-MOST - length)))

-- one or the other, by the word that says of which bus it holds a value
abbrev pub taken_rule : List ℕ → List ℕ → ℕ → ℕ → ℕ → ℕ → Rule
taken_rule area ages bus sender length d = both (imp (eq bus 0) (written_rule area ages sender length d)) (imp (differ bus 0) (posted_rule area sender length d))

-- the rule of a data entry, of the columns that it reads
abbrev pub entry_rule : List ℕ → List ℕ → List ℕ → ℕ → ℕ → ℕ → ℕ → Rule
entry_rule area bits ages bus sender length d =
    both (imp (is (free bits d)) (both (both (eq sender 0) (eq length 0)) (zeros area (ENTRY-BYTES * d) ENTRY-BYTES)))
    (imp (is (not (free bits d))) (taken_rule area ages bus sender length d))

-- the bits of word j of a pool of n entries
abbrev pub word_rule : ℕ → List ℕ → ℕ → Rule
word_rule n bits j = each 64 (λ i. bits_rule n bits (64 * j + i))

-- ---- the parts of the plain rules
abbrev pub front_rules : Caps → State → Rule
front_rules k s = both (caps_rule k s) (both (head_rule k s) (each SPARES (λ i. spare_rule s i)))

abbrev pub bit_rules : Caps → State → Rule
bit_rules k s = both (each COLUMN-BITS (λ e. bits_rule k.mails (s MAIL-FREE) e)) (each COLUMN-BITS (λ d. bits_rule k.datas (s DATA-FREE) d))

abbrev pub box_rules : Caps → State → Rule
box_rules k s = both (each k.actors (λ a. slot_rule k s a)) (each k.mails (λ e. box_rule k s e))

abbrev pub data_rules : Caps → State → Rule
data_rules k s = both (each k.datas (λ d. data_rule s d)) (each k.links (λ e. link_rule s e))

abbrev pub time_rules : Caps → State → Rule
time_rules k s = both (each k.monitors (λ i. monitor_rule s i)) (each k.timers (λ i. timer_rule s i))

abbrev pub bus_rules : State → Rule
bus_rules s = both (each MOST-BUSES (λ b. bus_rule s b)) (each MOST-BUSES (λ b. row_rule s b))

abbrev pub value_rules : Caps → State → Rule
value_rules k s = both (each k.datas (λ d. value_rule s d)) (each k.datas (λ i. issue_rule k s i))

-- ---- the parts of the late rules
abbrev pub filter_rules : Caps → State → Rule
filter_rules k s = each k.mails (λ e. filter_rule s e)

abbrev pub pair_rules : Caps → State → Rule
pair_rules k s = each k.links (λ e. pair_rule s e)

-- that the row has each value once, and no bus too many
abbrev pub issued_rules : Caps → State → Rule
issued_rules k s = both (each k.datas (λ d. issued_rule s d)) (each MOST-BUSES (λ b. crowd_rule s b))

abbrev pub count_rules : Caps → State → Rule
count_rules k s =
    both (both (each k.actors (λ a. once_rule s a)) (each k.mails (λ e. arrived_rule s e)))
    (each k.datas (λ d. held_rule s d))

-- ---- what is tested before the counts: the plain rules, and the filters, the pairs and those of the row of values, which are tested with the entries that they belong to
abbrev pub early_rules : Caps → State → Rule
early_rules k s = both (plain_rules k s) (both (both (filter_rules k s) (pair_rules k s)) (issued_rules k s))

-- all of them but the front, in the order that they are tested in
abbrev pub body_rules : Caps → State → Rule
body_rules k s =
    both (bit_rules k s)
    (both (both (box_rules k s) (filter_rules k s))
    (both (both (data_rules k s) (pair_rules k s))
    (both (time_rules k s) (both (bus_rules s) (both (value_rules k s) (issued_rules k s))))))
