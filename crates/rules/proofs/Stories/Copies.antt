-- Reading copies to a third slice: no second answer, and no second slice, meets its promise.
use Prim.Native.Nat.{ℕ}
use mathlib.Core.Path.{◌≡◌, sym, ap, ◌∙◌}
use mathlib.Core.List.{List, ◌++◌}
use lib.ListN.{length, take, drop, take-append-drop}
use lib.Seq.{length-take-le}
use native.Mathlib.Omega.{arith}
use Rattle.ledger.specs.Call.Call.{op}
use Rattle.ledger.specs.Call.Op.{read}
use Rattle.rules.specs.declared.Copied.{Copied}
use Rattle.rules.specs.Calls.{Copy}
use Rattle.rules.specs.Host.{Onto, copy_in}
use Rattle.rules.specs.Run.{say_copy}
use Rattle.rules.specs.Story.{Meets}
use Rattle.rules.proofs.Stories.Host.{meets_once, struct_once}

-- a slice is the bytes that were written and the rest
written_rest : (n : ℕ) (slice slice₁ slice₂ : List ℕ) → Onto n slice slice₁ → Onto n slice slice₂ → take n slice₁ ≡ take n slice₂ → slice₁ ≡ slice₂
written_rest n slice slice₁ slice₂ x y e =
    sym (take-append-drop n slice₁) ∙ ap (λ (l : List ℕ). l ++ drop n slice₁) e ∙ ap (λ (l : List ℕ). take n slice₂ ++ l) (x.2 ∙ sym y.2) ∙ take-append-drop n slice₂

-- as many bytes were copied as it says
copied-length : (r : Copied) (slice slice' : List ℕ) → Onto r.length slice slice' → length (copy_in r slice').bytes ≡ r.length
copied-length r slice slice' x = length-take-le r.length slice' (omega (arith, x.0, x.1))

-- FIRMNESS: what a read promises is the promise of every call, of the bytes that now stand first in the slice; and that the rest of the slice is as it was
module _ (bus : ℕ) (w p slice slice' slice₂ : List ℕ) {r r₂ : Copied} {w' w₂ p' p₂ : List ℕ}
    (m : Meets (op (read bus (length slice))) w p (say_copy (copy_in r slice')) w' p') (x : Onto r.length slice slice')
    (m₂ : Meets (op (read bus (length slice))) w p (say_copy (copy_in r₂ slice₂)) w₂ p₂) (x₂ : Onto r₂.length slice slice₂) where
  same_copy : copy_in r slice' ≡ copy_in r₂ slice₂
  same_copy = struct_once (read bus (length slice)) w p (copy_in r slice') (copy_in r₂ slice₂) m m₂

  same_length : r.length ≡ r₂.length
  same_length = sym (copied-length r slice slice' x) ∙ ap (λ (c : Copy). length c.bytes) same_copy ∙ copied-length r₂ slice slice₂ x₂

  same_struct : r ≡ r₂
  same_struct =
      let n : r.no ≡ r₂.no = ap (λ (c : Copy). c.no) same_copy in
      let l = same_length in
      let f : ◌≡◌ {A = Copied} (record { no = r.no; length = r.length }) (record { no = r₂.no; length = r₂.length }) = cc in
      f

  same_slice : slice' ≡ slice₂
  same_slice =
      let e : take r.length slice' ≡ take r.length slice₂ = ap (λ (c : Copy). c.bytes) same_copy ∙ ap (λ (n : ℕ). take n slice₂) (sym same_length) in
      written_rest r.length slice slice' slice₂ x (rw same_length x₂) e

  -- no second answer, no second slice and no second pair of buffers meets it
  pub read-once : (r ≡ r₂) × (slice' ≡ slice₂) × (w' ≡ w₂) × (p' ≡ p₂)
  read-once = let b = meets_once (op (read bus (length slice))) w p m m₂ in (same_struct, same_slice, b.1, b.2)
