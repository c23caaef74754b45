-- The steps of an end one at a time, as the code goes through them.
use Rattle.std.specs.Prelude.{ℕ, ◌+◌, List}
use Rattle.tables.specs.declared.Caps.{Caps}
use Rattle.tables.specs.State.{State, Of}
use Rattle.rules.specs.Calls.{Step}
use Rattle.rules.specs.declared.refusals.Notices.{Notices}
use Rattle.endings.specs.Counted.{Counted}
use Rattle.rules.proofs.Ends.Stepwise as turns

-- how many there are
abbrev pub STEPS : ℕ
STEPS = turns.STEPS

-- the i-th
abbrev pub step_at : ℕ → Step
step_at = turns.step_at

-- a sound state in which the actor of slot a, with the id me, is alive, and bare is what the first i steps of its end leave bare
abbrev pub Midway : Caps → ℕ → ℕ → ℕ → State → Type 0
Midway = turns.Midway

-- step i was done, n are its notices, and what the next needs bare is bare
abbrev pub Stepped : Caps → ℕ → ℕ → ℕ → ℕ → (w p : List ℕ) → Notices → (w' p' : List ℕ) → Type 0
Stepped k a me reason i w p n w' p' = Counted k (step_at i k a me reason) w p n w' p' × Of k (Midway k a me (i + 1)) w' p'

-- the same of a step that sends no notice
abbrev pub Quiet : Caps → ℕ → ℕ → ℕ → ℕ → (w p w' p' : List ℕ) → Type 0
Quiet k a me reason i w p w' p' = Stepped k a me reason i w p (record { sent = 0; lost = 0 }) w' p'
