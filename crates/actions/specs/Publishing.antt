-- What is asked of a bus on which a payload is published.
use Rattle.std.specs.Prelude.{ℕ, ◌≤◌, ◌<◌, ◌≡◌, true}
use Rattle.tables.specs.declared.Caps.{Caps}
use Rattle.tables.specs.Columns.{ISSUED}
use Rattle.tables.specs.Limits.{SAFE}
use Rattle.tables.specs.State.{State, head}
use Rattle.rules.specs.Actions.{data_for}
use Rattle.rules.specs.Buses.{bus_full, evict, oldest_on}

-- bus b, where it is full, has an oldest value, and there is a data entry for one more value once that has ended
pub record Publishable (k : Caps) (s : State) (b : ℕ) : Type 0 where
  pub small : b < SAFE
  pub issued : head s ISSUED ≤ k.datas
  pub oldest : bus_full s b ≡ true → oldest_on s b < head s ISSUED
  pub room : data_for k (evict s b) < k.datas
