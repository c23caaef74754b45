-- Small traces, byte by byte, and their verdicts, by computation.
use Prim.Native.Nat.{ℕ}
use mathlib.Core.Path.{◌≡◌, refl}
use mathlib.Core.List.{List, [], ◌∷◌, ◌++◌}
use Rattle.pools.specs.Pool.{lowest}
use Rattle.records.specs.Bytes.{le}
use Rattle.tables.specs.State.{poke, with_col}
use Rattle.tables.specs.Action.{push}
use Rattle.rules.specs.Actions.{ready}
use Rattle.rules.specs.Buses.{make_bus}
use Rattle.rules.specs.Calls.{ruled}
use Rattle.rules.specs.Host.{fresh, freed, stated, zeroed}
use Rattle.rules.specs.Trim.{newly}
use Rattle.trace.specs.Codec.{bytes, formed}
use Rattle.trace.specs.Kinds.{call_of, encode, row_of}
use Rattle.trace.specs.Verdict.{judge, right_one, verdict}
use Rattle.trace.specs.Verdict.Verdict.{ok, bad, cut}

-- eight bytes, the low two of them given
abbrev two : ℕ → ℕ → List ℕ
two x y = x ∷ y ∷ 0 ∷ 0 ∷ 0 ∷ 0 ∷ 0 ∷ 0 ∷ []

abbrev one : ℕ → List ℕ
one x = two x 0

-- ---- records
-- kind 16, a start: 1,280 words, this many times 256 bytes, some actors, one mailbox entry, one data entry, no links, monitors, timers; the answer
abbrev STARTS : ℕ → ℕ → ℕ → List ℕ
STARTS pages actors answer = 74 ∷ 0 ∷ 16 ∷ 0 ∷ (two 0 5 ++ (two 0 pages ++ (one actors ++ (one 1 ++ (one 1 ++ (one 0 ++ (one 0 ++ (one 0 ++ one answer))))))))

abbrev START : List ℕ
START = STARTS 1 1 0

-- one for no actor, refused
abbrev REFUSED : List ℕ
REFUSED = STARTS 1 0 1

-- kind 17, a spawn at level 1: 0, and the id of these two bytes
abbrev SPAWN : ℕ → ℕ → List ℕ
SPAWN low high = 26 ∷ 0 ∷ 17 ∷ 0 ∷ (one 1 ++ (one 0 ++ two low high))

-- kind 19, a yield while nobody runs: 4
abbrev YIELD : List ℕ
YIELD = 10 ∷ 0 ∷ 19 ∷ 0 ∷ one 4

-- kind 20, a notify while nobody runs: to 0, tag 0, this length and these bytes; 4
abbrev NOTIFY : ℕ → ℕ → List ℕ → List ℕ
NOTIFY size n m = size ∷ 0 ∷ 20 ∷ 0 ∷ (one 0 ++ (one 0 ++ (one n ++ (m ++ one 4))))

-- kind 34, a bus of three entries and two subscribers, that ends them after no number of reads and at no age: 0, and this number
abbrev BUS : ℕ → List ℕ
BUS id = 50 ∷ 0 ∷ 34 ∷ 0 ∷ (one 3 ++ (one 2 ++ (one 0 ++ (one 0 ++ (one 0 ++ one id)))))

-- kind 35, a publish while nobody runs: on bus 0, this length and these bytes; 4
abbrev PUBLISH : ℕ → ℕ → List ℕ → List ℕ
PUBLISH size n m = size ∷ 0 ∷ 35 ∷ 0 ∷ (one 0 ++ (one n ++ (m ++ one 4)))

-- kind 38, a read while nobody runs: of bus 0, to a slice of 65,280 bytes; 4, and this many bytes were copied, these
abbrev READ : ℕ → ℕ → List ℕ → List ℕ
READ size n m = size ∷ 0 ∷ 38 ∷ 0 ∷ (one 0 ++ (two 0 255 ++ (one 4 ++ (one n ++ m))))

-- ---- verdicts
-- "No input gives `ok 0`"
pub none : verdict [] ≡ ok 0
unfolding judge
none = refl

-- half a length
pub half : verdict (74 ∷ []) ≡ cut 0
unfolding judge right_one formed call_of row_of
half = refl

-- a kind that is not known
pub strange : verdict (4 ∷ 0 ∷ 99 ∷ 0 ∷ 1 ∷ 2 ∷ []) ≡ bad 0
unfolding judge right_one formed call_of row_of
strange = refl

-- the same, cut: "`cut N`, tested first"
pub strange_cut : verdict (4 ∷ 0 ∷ 99 ∷ 0 ∷ 1 ∷ []) ≡ cut 0
unfolding judge right_one formed call_of row_of
strange_cut = refl

-- "a first record that isn't a successful start gives `bad 0`"
pub no_start : verdict YIELD ≡ bad 0
unfolding judge right_one formed call_of row_of
no_start = refl

pub refused_first : verdict REFUSED ≡ bad 0
unfolding judge right_one formed call_of row_of encode bytes le
refused_first = refl

-- nor is one on too few bytes
pub few_bytes : verdict (STARTS 0 1 0) ≡ bad 0
unfolding judge right_one formed call_of row_of encode bytes le
few_bytes = refl

-- ---- after a start
pub begins : verdict START ≡ ok 1
unfolding judge right_one formed call_of row_of encode bytes le
begins = refl

-- and the first spawn, whose id is 256
pub spawns : verdict (START ++ SPAWN 0 1) ≡ ok 2
unfolding judge right_one formed call_of row_of encode bytes le newly fresh freed stated zeroed with_col poke ruled lowest ready push
spawns = refl

-- an answer that differs: in a trace of the earlier edition it is 64
pub not_64 : verdict (START ++ SPAWN 64 0) ≡ bad 1
unfolding judge right_one formed call_of row_of encode bytes le newly fresh freed stated zeroed with_col poke ruled lowest ready push
not_64 = refl

-- the last seven bytes are not there
pub spawn_cut : verdict (START ++ (26 ∷ 0 ∷ 17 ∷ 0 ∷ (one 1 ++ (one 0 ++ (0 ∷ []))))) ≡ cut 1
unfolding judge right_one formed call_of row_of encode bytes le
spawn_cut = refl

-- a length of 0
pub no_length : verdict (START ++ (0 ∷ 0 ∷ [])) ≡ bad 1
unfolding judge right_one formed call_of row_of encode bytes le
no_length = refl

-- a later start that is refused
pub refused_later : verdict (START ++ REFUSED) ≡ ok 2
unfolding judge right_one formed call_of row_of encode bytes le
refused_later = refl

-- a payload of three bytes; one of 253, by its length alone; one of 3 whose bytes are not there
pub tells : verdict (START ++ NOTIFY 37 3 (7 ∷ 8 ∷ 9 ∷ [])) ≡ ok 2
unfolding judge right_one formed call_of row_of encode bytes le newly fresh freed stated zeroed with_col poke ruled
tells = refl

pub tells_long : verdict (START ++ NOTIFY 34 253 []) ≡ ok 2
unfolding judge right_one formed call_of row_of encode bytes le newly fresh freed stated zeroed with_col poke ruled
tells_long = refl

pub tells_none : verdict (START ++ NOTIFY 34 3 []) ≡ bad 1
unfolding judge right_one formed call_of row_of encode bytes le
tells_none = refl

-- ---- buses
-- the first is bus 0, the next bus 1
pub makes_bus : verdict (START ++ (BUS 0 ++ BUS 1)) ≡ ok 3
unfolding judge right_one formed call_of row_of encode bytes le newly fresh freed stated zeroed with_col poke ruled make_bus
makes_bus = refl

pub not-bus_1 : verdict (START ++ BUS 1) ≡ bad 1
unfolding judge right_one formed call_of row_of encode bytes le newly fresh freed stated zeroed with_col poke ruled make_bus
not-bus_1 = refl

-- what is published has three bytes; 253, by their number alone
pub publishes : verdict (START ++ PUBLISH 29 3 (7 ∷ 8 ∷ 9 ∷ [])) ≡ ok 2
unfolding judge right_one formed call_of row_of encode bytes le newly fresh freed stated zeroed with_col poke ruled
publishes = refl

pub publishes_long : verdict (START ++ PUBLISH 26 253 []) ≡ ok 2
unfolding judge right_one formed call_of row_of encode bytes le newly fresh freed stated zeroed with_col poke ruled
publishes_long = refl

-- beside a refusal nothing was copied
pub reads : verdict (START ++ READ 34 0 []) ≡ ok 2
unfolding judge right_one formed call_of row_of encode bytes le newly fresh freed stated zeroed with_col poke ruled
reads = refl

pub reads_not : verdict (START ++ READ 35 1 (7 ∷ [])) ≡ bad 1
unfolding judge right_one formed call_of row_of encode bytes le newly fresh freed stated zeroed with_col poke ruled
reads_not = refl
