-- What the functions promise.
use Rattle.std.specs.Prelude.{ℕ, ◌≤◌, ◌≡◌, Bool, true, false, cond, ◌&&◌, List, [], ◌∷◌, length, eqb, leb}
use Rattle.std.proofs.lemmas.List.Edits.{sets}

-- what a record of any kind keeps to
pub record Short (front text back : List ℕ) : Type 0 where
  pub fronts : length front ≤ 16
  pub texts : length text ≤ 252
  pub backs : length back ≤ 16

-- "the number of bytes written, 0 and nothing changed where the slice is too short"
pub record Put (bs out : List ℕ) (r : ℕ) (out' : List ℕ) : Type 0 where
  pub count : r ≡ cond (leb (length bs) (length out)) (length bs) 0
  pub bytes : out' ≡ cond (leb (length bs) (length out)) (sets out 0 bs) out

-- those bytes begin with these
abbrev pub leads : List ℕ → List ℕ → Bool
leads [] s = true
leads (x ∷ xs) [] = false
leads (x ∷ xs) (y ∷ s) = eqb x y && leads xs s
