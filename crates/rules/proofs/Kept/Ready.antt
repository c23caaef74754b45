-- What a function inside a host call may rely on: the state that its buffers hold is good.
use Prim.Native.Nat.{ℕ}
use mathlib.Core.List.{List}
use Rattle.tables.specs.declared.Caps.{Caps}
use Rattle.tables.specs.State.{view}
use Rattle.tables.proofs.ViewLaws.{view-past}
use Rattle.rules.specs.Sound.{Ready}
use Rattle.rules.proofs.Kept.Good.{good_of}
use Rattle.rules.specs.Good.{Good}

-- every rule of soundness, one by one
pub good_ready : (k : Caps) (w p : List ℕ) → Ready k w p → Good k (view k w p)
good_ready k w p r = good_of k (view k w p) (view-past k w p) r.sound
