-- The two ways through a host call, by what `caps_if_sound` answers.
use Prim.Native.Nat.{ℕ}
use mathlib.Core.Path.{◌≡◌, refl}
use mathlib.Core.Bool.{Bool, true, false, cond}
use mathlib.Core.List.{List}
use Rattle.std.specs.Prelude.{Result, Ok, Err}
use Rattle.ledger.specs.Call.{Op}
use Rattle.ledger.specs.Call.Call.{op}
use Rattle.tables.specs.declared.Caps.{Caps}
use Rattle.tables.specs.State.{caps_of}
use Rattle.rules.specs.declared.refusals.Refusal.{Refusal}
use Rattle.rules.specs.declared.refusals.Refusal.TheVariants.{Unsound}
use Rattle.rules.specs.Answers.{code_of}
use Rattle.rules.specs.Rule.{test}
use Rattle.rules.specs.Sound.{sound_rule, Ready}
use Rattle.rules.specs.Calls.{Ans, entry, refusal, ruled}
use Rattle.rules.specs.Host.{Gives}
use Rattle.rules.specs.Run.{say}
use Rattle.rules.specs.Story.{Meets}
use Rattle.rules.proofs.Stories.Host.{called_ready, meets_no, meets_yes}

-- the buffers hold a sound runtime, and k is its capacities
sound_caps : (b : Bool) (k₀ : Caps) {k : Caps} → ◌≡◌ {A = Result Caps Refusal} (Ok k) (cond b (Ok k₀) (Err Unsound)) → (b ≡ true) × (k ≡ k₀)
sound_caps true k₀ h = (refl, cc)
sound_caps false k₀ h = cc

-- they do not
no_caps : (b : Bool) (k₀ : Caps) {e : Refusal} → ◌≡◌ {A = Result Caps Refusal} (Err e) (cond b (Ok k₀) (Err Unsound)) → (b ≡ false) × (e ≡ Unsound)
no_caps true k₀ h = cc
no_caps false k₀ h = (refl, cc)

module _ (w p : List ℕ) {k : Caps} (h : ◌≡◌ {A = Result Caps Refusal} (Ok k) (cond (test (sound_rule w p)) (Ok (caps_of w)) (Err Unsound))) where
  pub of_sound : (test (sound_rule w p) ≡ true) × (k ≡ caps_of w)
  of_sound = sound_caps (test (sound_rule w p)) (caps_of w) h

  -- what the function inside asks
  pub ready : Ready k w p
  ready = called_ready w p refl of_sound.0 of_sound.1

  -- it followed the rule of its call, and what it answered is said
  pub went : (o : Op) {r : Ans (entry o).shape} {w' p' : List ℕ} → Gives (ruled (entry o)) k w p r w' p' → Meets (op o) w p (say (entry o).shape r) w' p'
  went o g = meets_yes o w p refl of_sound.0 of_sound.1 g

-- the call is refused, and nothing has changed
module _ (w p : List ℕ) {e : Refusal} (h : ◌≡◌ {A = Result Caps Refusal} (Err e) (cond (test (sound_rule w p)) (Ok (caps_of w)) (Err Unsound))) where
  pub unsound : (test (sound_rule w p) ≡ false) × (e ≡ Unsound)
  unsound = no_caps (test (sound_rule w p)) (caps_of w) h

  pub stayed : (o : Op) → Meets (op o) w p (say (entry o).shape (refusal (entry o).shape (code_of e))) w p
  stayed o = rw unsound.1 (meets_no o w p refl unsound.0)
