-- A pool of slots with ages. Actors, timers and monitors are three of one kind: how a slot is taken, used and freed, and its id, is said here once.
use Rattle.std.specs.Prelude.{ℕ, zero, suc, ◌+◌, Bool, cond, not, ◌&&◌, List, [], ◌∷◌, map, get_or, eqb}
use Rattle.pools.specs.Pool.{lowest, count}
use Rattle.pools.specs.Slot.{id_of, is_live, unused, usable}
use Rattle.tables.specs.declared.Caps.{Caps}
use Rattle.tables.specs.Columns.{AGE, DUE, INTERVAL, MONITOR-AGE, PRIORITY, STATE, TIMER-AGE, TIMER-OWNER, WATCHED, WATCHER}
use Rattle.tables.specs.Limits.{ACTOR-FACTOR, MONITOR-FACTOR, OLDEST, TIMER-FACTOR}
use Rattle.tables.specs.State.{State, at, poke}

-- the column that says who uses a slot, 0 while nobody does; that of the ages; the others that a use fills and its end empties; the factor of the ids; how many slots there are
pub record Aged : Type 0 where
  pub word : ℕ
  pub age : ℕ
  pub rest : List ℕ
  pub factor : ℕ
  pub many : Caps → ℕ

-- ---- THE POOLS
abbrev pub actor_pool : Aged
actor_pool = record { word = STATE; age = AGE; rest = PRIORITY ∷ []; factor = ACTOR-FACTOR; many = λ k. k.actors }

abbrev pub timer_pool : Aged
timer_pool = record { word = TIMER-OWNER; age = TIMER-AGE; rest = DUE ∷ INTERVAL ∷ []; factor = TIMER-FACTOR; many = λ k. k.timers }

abbrev pub monitor_pool : Aged
monitor_pool = record { word = WATCHER; age = MONITOR-AGE; rest = WATCHED ∷ []; factor = MONITOR-FACTOR; many = λ k. k.monitors }

-- ---- slots
-- somebody uses slot i
abbrev pub in_use : Aged → State → ℕ → Bool
in_use P s i = not (unused (s P.word) i)

-- "after that use ends the slot is worn and never taken again": unused, and of the largest age
abbrev pub is_worn : List ℕ → List ℕ → ℕ → Bool
is_worn words ages i = unused words i && eqb (get_or ages i 0) OLDEST

-- a slot that can be taken: unused, and not worn
abbrev pub can_take : Aged → State → ℕ → Bool
can_take P s = usable OLDEST (s P.word) (s P.age)

-- "Always the lowest-numbered free entry is taken"; past the last where there is none
abbrev pub next_slot : Aged → Caps → State → ℕ
next_slot P k s = lowest (can_take P s) (P.many k)

-- "worn slots not counted": how many can be taken
abbrev pub slots_left : Aged → Caps → State → ℕ
slots_left P k s = count (can_take P s) (P.many k)

-- ---- ids: "an actor id is age × 256 + slot"; "A .. timer id is age × 64 + slot, a monitor id age × 128 + slot"
-- of the present use of slot i
abbrev pub use_id : Aged → State → ℕ → ℕ
use_id P s i = id_of P.factor (at s P.age i) i

-- of the next
abbrev pub next_id : Aged → State → ℕ → ℕ
next_id P s i = id_of P.factor (at s P.age i + 1) i

-- id is that of a present use
abbrev pub is_use : Aged → State → ℕ → Bool
is_use P s id = is_live P.factor (s P.word) (s P.age) id

-- ---- a use begins and ends
-- these words in these columns of slot i
abbrev pub in_slot : State → ℕ → List ℕ → List ℕ → State
in_slot s i [] vs = s
in_slot s i (c ∷ cs) [] = s
in_slot s i (c ∷ cs) (v ∷ vs) = in_slot (poke s c i v) i cs vs

-- a zero for each of these columns
abbrev pub no_words : List ℕ → List ℕ
no_words cs = map (λ c. 0) cs

-- "A slot's age is 1 at its first use, one more at each later use"
abbrev pub older : Aged → State → ℕ → State
older P s i = poke s P.age i (at s P.age i + 1)

-- a use of slot i begins, with these words
unfoldable pub begin_use : Aged → State → ℕ → List ℕ → State
begin_use P s i vs = in_slot (older P s i) i (P.word ∷ P.rest) vs

-- it ends: the age alone stays
unfoldable pub end_use : Aged → State → ℕ → State
end_use P s i = in_slot s i (P.word ∷ P.rest) (no_words (P.word ∷ P.rest))

-- those that are slot a's, among the first n, end
unfoldable pub end_own : Aged → ℕ → ℕ → State → State
end_own P a zero s = s
end_own P a (suc i) s =
    let u = end_own P a i s in cond (eqb (at u P.word i) (suc a)) (end_use P u i) u
