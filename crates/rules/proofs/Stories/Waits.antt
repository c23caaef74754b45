-- After any story whoever waits, but for ever, waits a day at most.
use Prim.Native.Nat.{ℕ}
use native.Mathlib.Omega.{arith}
use mathlib.Core.Path.{◌≡◌, refl}
use mathlib.Core.List.{List}
use Rattle.ledger.specs.Call.{Answer, Line, Op, Sizes, number}
use Rattle.ledger.specs.Call.Answer.{plain}
use Rattle.ledger.specs.Call.Call.{start, op}
use Rattle.ledger.specs.Ledger.{Ledger, nothing}
use Rattle.tables.specs.State.{caps_of, view}
use Rattle.rules.specs.Sound.{view_of}
use Rattle.rules.specs.Run.{seven, step}
use Rattle.rules.specs.Story.{Kept, Meets, Story, caps_from}
use Rattle.rules.proofs.Claims.{Daily}
use Rattle.rules.proofs.Kept.Host.{host_keeps}
use Rattle.rules.proofs.Kept.Start.{fresh-waits, started}
use Rattle.rules.proofs.Stories.Story.{begun_kept, story_always}
use Rattle.rules.proofs.Table.{step_keeps, step_waits}

-- a start that is done: nobody waits
started_daily : (z : Sizes) (w p : List ℕ) (r : Answer) (w' p' : List ℕ) → Meets (start z) w p r w' p' → number r ≡ 0 → Daily (view_of w' p')
started_daily z w p r w' p' m e a =
    let k = caps_from z in
    rw (started k w p r w' p' m e).3 (omega (arith, fresh-waits k (view k w p) a))

-- every other call
line_daily : (o : Op) (l : Ledger) (w p : List ℕ) (r : Answer) (w' p' : List ℕ) → Meets (op o) w p r w' p' → Kept l w p → Daily (view_of w p) → Daily (view_of w' p')
line_daily o l w p r w' p' m h d = rw (host_keeps (seven o) (step o) (step_keeps o) w p r w' p' m h.sound).2 (step_waits o (caps_of w) (view_of w p) d)

-- THE THEOREM
pub story_daily : (z : Sizes) {w p w₁ p₁ w₂ p₂ : List ℕ} {xs : List Line} → Meets (start z) w p (plain 0) w₁ p₁ → Story w₁ p₁ xs w₂ p₂ → Daily (view_of w₂ p₂)
story_daily z {w} {p} {w₁} {p₁} began story =
    story_always (λ l s. Daily s) line_daily started_daily (nothing z) story (begun_kept z w p w₁ p₁ began) (started_daily z w p (plain 0) w₁ p₁ began refl)
