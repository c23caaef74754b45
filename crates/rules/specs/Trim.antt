-- A state without what lies past the needed words and bytes, and buffers that differ only there.
use Rattle.std.specs.Prelude.{ℕ, ◌≡◌, Bool, cond, ◌||◌, List, [], take, eqb}
use Rattle.tables.specs.declared.Caps.{Caps}
use Rattle.tables.specs.Columns.{PAST, REST}
use Rattle.tables.specs.State.{State, needed, needed_p}
use Rattle.rules.specs.Host.{fresh}

-- the columns of what lies past
abbrev pub past : ℕ → Bool
past c = eqb c REST || eqb c PAST

-- a state without them
abbrev pub trim : State → State
trim s c = cond (past c) [] (s c)

-- a fresh runtime in buffers with nothing past the needed words and bytes
unfoldable pub newly : Caps → State
newly k = fresh k (λ c. [])

-- the needed words of v are those of w and the needed bytes of q those of p, as many of them as there are, whatever lies past
abbrev pub NeededSame : Caps → (w p v q : List ℕ) → Type 0
NeededSame k w p v q = (take (needed k) v ≡ take (needed k) w) × (take (needed_p k) q ≡ take (needed_p k) p)
