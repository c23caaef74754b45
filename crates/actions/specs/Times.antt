-- The earliest entry, by two columns alone.
use Rattle.std.specs.Prelude.{ℕ, Bool, not, ◌&&◌, List, get_or, eqb, leb}
use Rattle.rules.specs.Actions.{least}

-- entry i is in use, and its time is at or before a limit
abbrev pub due_in : List ℕ → List ℕ → ℕ → ℕ → Bool
due_in used time limit i = not (eqb (get_or used i 0) 0) && leb (get_or time i 0) limit

-- of the first n entries of that kind the one with the earliest time, one up; of equal ones the lowest; 0 where there is none
abbrev pub earliest_in : List ℕ → List ℕ → ℕ → ℕ → ℕ
earliest_in used time limit n = least (due_in used time limit) (λ i. get_or time i 0) n
