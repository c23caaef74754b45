-- What is asked of values that are to end at their age.
use Rattle.std.specs.Prelude.{ℕ, ◌≤◌}
use Rattle.tables.specs.declared.Caps.{Caps}
use Rattle.tables.specs.Columns.{BUS-AGE, ISSUED, PUBLISHED}
use Rattle.tables.specs.Limits.{CLOCK-END, LONGEST-AGE}
use Rattle.tables.specs.State.{State, at, head}

-- the row is no longer than its column, and no time that a value has reached its age overflows
pub record Dated (k : Caps) (s : State) : Type 0 where
  pub issued : head s ISSUED ≤ k.datas
  pub ages : (b : ℕ) → at s BUS-AGE b ≤ LONGEST-AGE
  pub published : (d : ℕ) → at s PUBLISHED d ≤ CLOCK-END
