-- A filter of which the tag is asked first.
use Prim.Native.Nat.{ℕ}
use mathlib.Core.Path.{◌≡◌, refl, sym}
use mathlib.Core.Bool.{Bool, true, false, ◌&&◌}
use Rattle.tables.specs.Limits.{ANY-CLASS, ANY-SENDER, ANY-TAG}
use Rattle.rules.specs.Terms.{fits, wants}

-- a conjunction whose last part fails
last_no : (a b : Bool) {c : Bool} → c ≡ false → false ≡ a && (b && c)
last_no true true e = sym e
last_no true false e = refl
last_no false b e = refl

-- one whose last part holds
last_yes : (a b : Bool) {c : Bool} → c ≡ true → a && b ≡ a && (b && c)
last_yes true true e = sym e
last_yes true false e = refl
last_yes false b e = refl

module _ (by class tag sender kind x : ℕ) where
  -- another tag: the filter does not match
  pub tag_other : wants ANY-TAG tag x ≡ false → false ≡ fits by class tag sender kind x
  unfolding fits
  tag_other e = last_no (wants ANY-SENDER by sender) (wants ANY-CLASS class kind) e

  -- the tag is right: sender and class decide
  pub tag_same : wants ANY-TAG tag x ≡ true → wants ANY-SENDER by sender && wants ANY-CLASS class kind ≡ fits by class tag sender kind x
  unfolding fits
  tag_same e = last_yes (wants ANY-SENDER by sender) (wants ANY-CLASS class kind) e
