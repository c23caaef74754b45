-- The notices that were sent and lost, as the functions inside exit count them.
use Rattle.std.specs.Prelude.{ℕ, ◌≤◌, ◌≡◌, List}
use Rattle.tables.specs.declared.Caps.{Caps}
use Rattle.tables.specs.State.{State, view, Left}
use Rattle.rules.specs.Calls.{Told, told}
use Rattle.rules.specs.declared.refusals.Notices.{Notices}

-- with the state that the buffers hold
abbrev pub told_of : Notices → State → Told
told_of n s = told n.sent n.lost s

-- each is at most m
pub record Few (n : Notices) (m : ℕ) : Type 0 where
  pub sent : n.sent ≤ m
  pub lost : n.lost ≤ m

-- the counts and the buffers that are left are those of t
pub record Tells (k : Caps) (t : Told) (n : Notices) (w p : List ℕ) : Type 0 where
  pub sent : n.sent ≡ t.sent
  pub lost : n.lost ≡ t.lost
  pub left : Left k t.state w p

-- the counts and the buffers that are left are those that f makes of the state that was held
abbrev pub Counted : Caps → (State → Told) → (w p : List ℕ) → Notices → (w' p' : List ℕ) → Type 0
Counted k f w p n w' p' = Tells k (f (view k w p)) n w' p'
