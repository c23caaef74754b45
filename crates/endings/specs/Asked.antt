-- What the functions inside advance and exit ask of the state.
use Rattle.std.specs.Prelude.{ℕ, ◌≤◌, ◌<◌, ◌≡◌, true}
use Rattle.tables.specs.declared.Caps.{Caps}
use Rattle.tables.specs.Columns.{ARRIVED, CLOCK, DUE, INTERVAL, QUEUED, TIMER-AGE, TIMER-OWNER}
use Rattle.tables.specs.Limits.{CLOCK-END, LONGEST, MOST-ACTORS, OLDEST, SAFE, TIMER-FACTOR}
use Rattle.tables.specs.State.{State, at, head}
use Rattle.rules.specs.Actions.{has_room}
use Rattle.rules.specs.Good.{Late}

-- the queue and the arrivals can be counted on
pub record Short (s : State) : Type 0 where
  pub queued : head s QUEUED ≤ SAFE
  pub arrived : head s ARRIVED ≤ SAFE

-- timer i can fire
pub record Fires (k : Caps) (s : State) (i : ℕ) : Type 0 where
  pub room : has_room k s ≡ true
  pub short : Short s
  pub slot : i < TIMER-FACTOR
  pub owned : 1 ≤ at s TIMER-OWNER i
  pub owner : at s TIMER-OWNER i ≤ MOST-ACTORS
  pub age : at s TIMER-AGE i ≤ OLDEST
  pub come : at s DUE i ≤ head s CLOCK
  pub clock : head s CLOCK ≤ CLOCK-END
  pub interval : at s INTERVAL i ≤ LONGEST

-- a state that is sound at some earlier clock
abbrev pub Raised : Caps → State → Type 0
Raised k s = (c : ℕ) × Late k c s
