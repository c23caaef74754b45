-- The columns of the tables by name and number. docs/LAYOUT.md says what each holds.
-- A slot or an entry that a word names is stored one up, so that 0 names none and a free entry is all zero;
-- the queue and the arrivals, which have counts, hold the numbers themselves.
use Rattle.std.specs.Prelude.{ℕ}

-- ---- the head, one word each: the six capacities, the clock, the running actor's slot, the lengths of the queue, of the arrivals and of the row of values, how many buses are made
abbrev pub ACTORS : ℕ
ACTORS = 0

abbrev pub MAILS : ℕ
MAILS = 1

abbrev pub DATAS : ℕ
DATAS = 2

abbrev pub LINKS : ℕ
LINKS = 3

abbrev pub MONITORS : ℕ
MONITORS = 4

abbrev pub TIMERS : ℕ
TIMERS = 5

abbrev pub CLOCK : ℕ
CLOCK = 6

abbrev pub RUNNING : ℕ
RUNNING = 7

abbrev pub QUEUED : ℕ
QUEUED = 8

abbrev pub ARRIVED : ℕ
ARRIVED = 9

abbrev pub ISSUED : ℕ
ISSUED = 10

abbrev pub BUSES : ℕ
BUSES = 11

-- ---- the spare words of the head: one column
abbrev pub SPARE : ℕ
SPARE = 12

-- ---- the free bits, four words each
abbrev pub MAIL-FREE : ℕ
MAIL-FREE = 13

abbrev pub DATA-FREE : ℕ
DATA-FREE = 14

-- ---- a word for each bus
abbrev pub BUS-SIZE : ℕ
BUS-SIZE = 15

abbrev pub BUS-SEATS : ℕ
BUS-SEATS = 16

abbrev pub BUS-READS : ℕ
BUS-READS = 17

abbrev pub BUS-AGE : ℕ
BUS-AGE = 18

-- ---- a word for each seat of each bus, those of a bus side by side
abbrev pub SEAT : ℕ
SEAT = 19

-- ---- a word for each actor slot
abbrev pub STATE : ℕ
STATE = 20

abbrev pub PRIORITY : ℕ
PRIORITY = 21

abbrev pub REASON : ℕ
REASON = 22

abbrev pub AGE : ℕ
AGE = 23

abbrev pub HAND : ℕ
HAND = 24

abbrev pub WANT-SENDER : ℕ
WANT-SENDER = 25

abbrev pub WANT-CLASS : ℕ
WANT-CLASS = 26

abbrev pub WANT-TAG : ℕ
WANT-TAG = 27

abbrev pub DEADLINE : ℕ
DEADLINE = 28

abbrev pub QUEUE : ℕ
QUEUE = 29

-- ---- a word for each mailbox entry
abbrev pub MAIL-OWNER : ℕ
MAIL-OWNER = 30

abbrev pub MAIL-DATA : ℕ
MAIL-DATA = 31

abbrev pub ARRIVAL : ℕ
ARRIVAL = 32

-- ---- a word for each data entry; the last four are for those that hold a bus's value
abbrev pub SENDER : ℕ
SENDER = 33

abbrev pub LENGTH : ℕ
LENGTH = 34

abbrev pub VALUE-BUS : ℕ
VALUE-BUS = 35

abbrev pub READERS : ℕ
READERS = 36

abbrev pub PUBLISHED : ℕ
PUBLISHED = 37

abbrev pub ISSUE : ℕ
ISSUE = 38

-- ---- a word for each link
abbrev pub LINK-ONE : ℕ
LINK-ONE = 39

abbrev pub LINK-TWO : ℕ
LINK-TWO = 40

-- ---- a word for each monitor
abbrev pub WATCHER : ℕ
WATCHER = 41

abbrev pub WATCHED : ℕ
WATCHED = 42

abbrev pub MONITOR-AGE : ℕ
MONITOR-AGE = 43

-- ---- a word for each timer
abbrev pub TIMER-OWNER : ℕ
TIMER-OWNER = 44

abbrev pub TIMER-AGE : ℕ
TIMER-AGE = 45

abbrev pub DUE : ℕ
DUE = 46

abbrev pub INTERVAL : ℕ
INTERVAL = 47

-- ---- the words past the needed ones; the payload area, a byte each; the bytes past it
abbrev pub REST : ℕ
REST = 48

abbrev pub PAYLOAD : ℕ
PAYLOAD = 49

abbrev pub PAST : ℕ
PAST = 50
