-- DEMAND 3, for any list of calls after a successful start: the promises of the calls are the steps.
use Prim.Native.Nat.{ℕ}
use mathlib.Core.Path.{◌≡◌, refl, sym, subst}
use mathlib.Core.Bool.{true, false, not}
use mathlib.Core.List.{List}
use native.Mathlib.Decide.{ℕ_discrete}
use borrow.Author.Tests.{eqb-false, not-true}
use Rattle.ledger.specs.Call.{Answer, Call, Line, Op, Sizes, number}
use Rattle.ledger.specs.Call.Answer.{plain}
use Rattle.ledger.specs.Call.Call.{start, op}
use Rattle.ledger.specs.Ledger.{Ledger, nothing}
use Rattle.ledger.specs.Reckon.{entered, reckon}
use Rattle.pools.proofs.BoolLaws.{and_left, and_right}
use Rattle.tables.specs.declared.Caps.{Caps}
use Rattle.tables.specs.State.{State, caps_of}
use Rattle.rules.specs.Sound.{view_of}
use Rattle.rules.specs.Agrees.{Agrees}
use Rattle.rules.specs.Run.{seven, step}
use Rattle.rules.specs.Story.{Kept, Meets, Story, begins, caps_from, line, startless}
use Rattle.rules.proofs.Kept.Host.{good_view, host_keeps}
use Rattle.rules.proofs.Kept.Start.{start_refused, started}
use Rattle.rules.proofs.Table.{step_agrees, step_keeps}

-- a start that is done leaves buffers that hold nothing
done-kept : (z : Sizes) (w p : List ℕ) (r : Answer) (w' p' : List ℕ) → Meets (start z) w p r w' p' → number r ≡ 0 → Kept (nothing z) w' p'
done-kept z w p r w' p' q e =
    let h = started (caps_from z) w p r w' p' q e in
    record { sound = h.0; agrees = subst (λ (k : Caps). Agrees k (nothing z) (view_of w' p')) (sym h.1) h.2 }

-- ---- THE THEOREM, line by line
-- every call keeps the buffers sound and in step with the reckoning
pub line_kept : (c : Call) (l : Ledger) (w p : List ℕ) (r : Answer) (w' p' : List ℕ) → Meets c w p r w' p' → Kept l w p → Kept (entered (line c r) l) w' p'
unfolding entered
line_kept (start z) l = λ w p r w' p' q x. elim (ℕ_discrete (number r) 0) [
  | yes e ↦ rw e (done-kept z w p r w' p' q e)
  | no n ↦ let h = start_refused (caps_from z) w p r w' p' q n in rw (h.0, h.1, h.2) x
]
line_kept (op o) l = λ w p r w' p' q x.
    let h = host_keeps (seven o) (step o) (step_keeps o) w p r w' p' q x.sound in
    record { sound = h.0; agrees = rw (h.2, h.3, h.1) (step_agrees o (caps_of w) (view_of w p) l (good_view w p x.sound) x.agrees) }

-- and so does any list of calls
pub story_kept : {w p w' p' : List ℕ} {xs : List Line} (l : Ledger) → Story w p xs w' p' → Kept l w p → Kept (reckon l xs) w' p'
unfolding reckon
story_kept l Story.over x = x
story_kept l (Story.then {w} {p} {w₁} {p₁} {x = y} m s) x = story_kept (entered y l) s (line_kept y.call l w p y.answer w₁ p₁ m x)

-- after a start that answered 0, on any buffers
pub begun_kept : (z : Sizes) (w p w₁ p₁ : List ℕ) → Meets (start z) w p (plain 0) w₁ p₁ → Kept (nothing z) w₁ p₁
begun_kept z w p w₁ p₁ q = done-kept z w p (plain 0) w₁ p₁ q refl

-- ---- what stays so until a new start
-- something of what the reckoning and the tables say that every call but start leaves so
module _ (P : Ledger → State → Type 0)
    (leaves : (o : Op) (l : Ledger) (w p : List ℕ) (r : Answer) (w' p' : List ℕ) → Meets (op o) w p r w' p' → Kept l w p → P l (view_of w p) → P (entered (line (op o) r) l) (view_of w' p')) where
  -- a start that is refused leaves it too
  refused_lasts : (z : Sizes) (l : Ledger) (w p : List ℕ) (r : Answer) (w' p' : List ℕ) → (number r ≡ 0 → ⊥) → Meets (start z) w p r w' p' → P l (view_of w p) → P (entered (line (start z) r) l) (view_of w' p')
  unfolding entered
  refused_lasts z l w p r w' p' n m t = let h = start_refused (caps_from z) w p r w' p' m n in rw (h.0, h.1, h.2) t

  line_lasts : (c : Call) (l : Ledger) (w p : List ℕ) (r : Answer) (w' p' : List ℕ) → begins (line c r) ≡ false → Meets c w p r w' p' → Kept l w p → P l (view_of w p) → P (entered (line c r) l) (view_of w' p')
  line_lasts (start z) l w p r w' p' b = λ m x t. refused_lasts z l w p r w' p' (eqb-false (number r) 0 b) m t
  line_lasts (op o) l w p r w' p' b = leaves o l w p r w' p'

  -- THE LAW: so it lasts through any story in which nothing begins anew
  pub story_lasts : {w p w' p' : List ℕ} {xs : List Line} (l : Ledger) → Story w p xs w' p' → startless xs ≡ true → Kept l w p → P l (view_of w p) → P (reckon l xs) (view_of w' p')
  unfolding reckon
  story_lasts l Story.over n x t = t
  story_lasts l (Story.then {w} {p} {w₁} {p₁} {x = y} {xs} m s) n x t =
      let b : begins y ≡ false = not-true (begins y) (and_left (not (begins y)) (startless xs) n) in
      story_lasts (entered y l) s (and_right (not (begins y)) (startless xs) n) (line_kept y.call l w p y.answer w₁ p₁ m x)
      (line_lasts y.call l w p y.answer w₁ p₁ b m x t)

  -- ---- what is always so: where a start that is done leaves it so as well
  module _ (begun : (z : Sizes) (w p : List ℕ) (r : Answer) (w' p' : List ℕ) → Meets (start z) w p r w' p' → number r ≡ 0 → P (nothing z) (view_of w' p')) where
    line_always : (c : Call) (l : Ledger) (w p : List ℕ) (r : Answer) (w' p' : List ℕ) → Meets c w p r w' p' → Kept l w p → P l (view_of w p) → P (entered (line c r) l) (view_of w' p')
    unfolding entered
    line_always (start z) l w p r w' p' = λ m x t. elim (ℕ_discrete (number r) 0) [
      | yes e ↦ rw e (begun z w p r w' p' m e)
      | no n ↦ refused_lasts z l w p r w' p' n m t
    ]
    line_always (op o) l w p r w' p' = leaves o l w p r w' p'

    -- THE LAW: so it lasts through any story
    pub story_always : {w p w' p' : List ℕ} {xs : List Line} (l : Ledger) → Story w p xs w' p' → Kept l w p → P l (view_of w p) → P (reckon l xs) (view_of w' p')
    unfolding reckon
    story_always l Story.over x t = t
    story_always l (Story.then {w} {p} {w₁} {p₁} {x = y} m s) x t =
        story_always (entered y l) s (line_kept y.call l w p y.answer w₁ p₁ m x) (line_always y.call l w p y.answer w₁ p₁ m x t)
