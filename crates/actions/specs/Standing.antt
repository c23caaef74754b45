-- What is asked of a slot that is taken out of the queue.
use Rattle.std.specs.Prelude.{ℕ, ◌≤◌, ◌<◌, ◌≡◌}
use Rattle.tables.specs.declared.Caps.{Caps}
use Rattle.tables.specs.Columns.{QUEUED, STATE}
use Rattle.tables.specs.Limits.{SAFE}
use Rattle.tables.specs.State.{State, at, head}
use Rattle.rules.specs.Terms.{RUNNABLE}
use Rattle.rules.specs.Calls.{place_of}

-- slot a, where it is runnable, stands in the queue
pub record Standing (k : Caps) (s : State) (a : ℕ) : Type 0 where
  pub small : a < SAFE
  pub queued : head s QUEUED ≤ k.actors
  pub placed : at s STATE a ≡ RUNNABLE → place_of s a < head s QUEUED
