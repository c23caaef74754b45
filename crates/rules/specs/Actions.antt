-- What the calls do to the tables, action by action. Each is a change of a few columns.
use Rattle.std.specs.Prelude.{ℕ, zero, suc, ◌-◌, Bool, cond, not, ◌&&◌, ◌||◌, List, length, eqb, ltb, leb}
use Rattle.pools.specs.Pool.{lowest}
use Rattle.pools.specs.Bits.{free}
use Rattle.records.specs.Bytes.{le}
use Rattle.records.specs.Header.{class_of, tag_of}
use Rattle.tables.specs.declared.Caps.{Caps}
use Rattle.tables.specs.Columns.{ARRIVAL, ARRIVED, DATA-FREE, DEADLINE, HAND, LENGTH, MAIL-DATA, MAIL-FREE, MAIL-OWNER, QUEUE, QUEUED, REASON, RUNNING, SENDER, STATE, WANT-CLASS, WANT-SENDER, WANT-TAG}
use Rattle.tables.specs.Limits.{HEADER-BYTES}
use Rattle.tables.specs.State.{State, at, poke}
use Rattle.tables.specs.Action.{push, pull, take_bit, free_bit, write, blank}
use Rattle.rules.specs.Terms.{MESSAGE, RUNNABLE, WAITS, fits}

-- ---- running
-- "Whoever becomes runnable joins the tail of its level"
unfoldable pub ready : State → ℕ → ℕ → State
ready s a reason = push (poke (poke s STATE a RUNNABLE) REASON a reason) QUEUE QUEUED a

-- slot a waits no more: its filter and its deadline are unused
unfoldable pub unwait : State → ℕ → State
unwait s a = poke (poke (poke (poke s WANT-SENDER a 0) WANT-CLASS a 0) WANT-TAG a 0) DEADLINE a 0

-- a waiting actor becomes runnable
abbrev pub wake : State → ℕ → ℕ → State
wake s a reason = ready (unwait s a) a reason

-- nobody runs
abbrev pub halt : State → State
halt s = poke s RUNNING 0 0

-- ---- room for a message
abbrev pub mail_for : Caps → State → ℕ
mail_for k s = lowest (free (s MAIL-FREE)) k.mails

abbrev pub data_for : Caps → State → ℕ
data_for k s = lowest (free (s DATA-FREE)) k.datas

-- "both message pools have room"
abbrev pub has_room : Caps → State → Bool
has_room k s = ltb (mail_for k s) k.mails && ltb (data_for k s) k.datas

-- ---- a message
-- data entry d is taken, and holds a message
unfoldable pub fill : State → ℕ → ℕ → ℕ → List ℕ → State
fill s d sender heading payload =
    write (write (poke (poke (take_bit s DATA-FREE d) SENDER d sender) LENGTH d (length payload)) d 0 (le HEADER-BYTES heading)) d HEADER-BYTES payload

-- data entry d is freed, and all zero
unfoldable pub unfill : State → ℕ → State
unfill s d = blank (poke (poke (free_bit s DATA-FREE d) SENDER d 0) LENGTH d 0) d

-- mailbox entry e is taken, names data entry d, and joins the tail of slot a's mailbox
unfoldable pub enlist : State → ℕ → ℕ → ℕ → State
enlist s e a d = push (poke (poke (take_bit s MAIL-FREE e) MAIL-OWNER e (suc a)) MAIL-DATA e (suc d)) ARRIVAL ARRIVED e

-- the mailbox entry that arrived as the j-th leaves its mailbox and is freed
unfoldable pub delist : State → ℕ → State
delist s j =
    let e = at s ARRIVAL j in
    pull (poke (poke (free_bit s MAIL-FREE e) MAIL-OWNER e 0) MAIL-DATA e 0) ARRIVAL ARRIVED j

-- the filter of slot a, which waits, matches
abbrev pub hears : State → ℕ → ℕ → ℕ → Bool
hears s a sender heading =
    eqb (at s STATE a) WAITS && fits (at s WANT-SENDER a) (at s WANT-CLASS a) (at s WANT-TAG a) sender (class_of heading) (tag_of heading)

-- "A waiting actor becomes runnable, with reason 1, when a message that its filter matches arrives"
unfoldable pub stir : State → ℕ → ℕ → ℕ → State
stir s a sender heading = cond (hears s a sender heading) (wake s a MESSAGE) s

-- a message to slot a, for which there is room
unfoldable pub post : Caps → State → ℕ → ℕ → ℕ → List ℕ → State
post k s a sender heading payload =
    stir (enlist (fill s (data_for k s) sender heading payload) (mail_for k s) a (data_for k s)) a sender heading

-- the data entry in the hand of slot a is released
unfoldable pub let_go : State → ℕ → State
let_go s a = cond (eqb (at s HAND a) 0) s (poke (unfill s (at s HAND a - 1)) HAND a 0)

-- ---- the least: one up, and 0 where none passes
-- of the numbers below n that pass, the one with the least value, of equal ones the lowest
unfoldable pub least : (ℕ → Bool) → (ℕ → ℕ) → ℕ → ℕ
least f g zero = 0
least f g (suc n) =
    let b = least f g n in cond (f n && (eqb b 0 || ltb (g n) (g (b - 1)))) (suc n) b

-- an entry that is in use and whose time is at or before a limit
abbrev pub due : State → ℕ → ℕ → ℕ → ℕ → Bool
due s used time limit i = not (eqb (at s used i) 0) && leb (at s time i) limit

-- the entry of that kind with the earliest time, among n
abbrev pub earliest : State → ℕ → ℕ → ℕ → ℕ → ℕ
earliest s used time limit n = least (due s used time limit) (at s time) n
