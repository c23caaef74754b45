-- A start made as its record asks.
use Prim.Native.Nat.{ℕ}
use mathlib.Core.Path.{◌≡◌, sym, ap, subst, ◌∙◌}
use mathlib.Core.Bool.{Bool, true, false, not, ◌&&◌}
use mathlib.Core.List.{List}
use lib.Dec.{eqb}
use Rattle.ledger.specs.Call.{Sizes, number}
use Rattle.ledger.specs.Call.Answer.{plain}
use Rattle.ledger.specs.Call.Call.{start}
use Rattle.pools.proofs.BoolLaws.{split}
use Rattle.rules.specs.Host.{can_start}
use Rattle.rules.specs.Story.{Meets, caps_from}
use Rattle.trace.specs.Kinds.{encode}
use Rattle.trace.specs.Verdict.{can_begin, same}
use Rattle.judge.specs.declared.start.Wanted.{Wanted}
use Rattle.judge.specs.Replayed.{Began, Begun, sizes_of}

module _ (words bytes : ℕ) (z : Sizes) (w p : List ℕ) where
  -- the lengths are enough, and the start was made
  pub began_yes : {b : Bool} (v : ℕ) (w' p' : List ℕ) → b ≡ can_begin (caps_from z) words bytes → b ≡ true → Meets (start z) w p (plain v) w' p' → Began words bytes z w p v w' p'
  began_yes {b} v w' p' e q m =
      let t : can_begin (caps_from z) words bytes ≡ true = sym e ∙ q in
      split (can_start (caps_from z) w p)
      (λ s. record { ans = rw (t, s) (ap number (rw s at m.ans)); table = rw (t, s) (rw s at m.words); area = rw (t, s) (rw s at m.bytes) })
      (λ s. record { ans = rw (t, s) (ap number (rw s at m.ans)); table = rw (t, s) (rw s at m.words); area = rw (t, s) (rw s at m.bytes) })

  -- they are not
  pub began_no : {b : Bool} → b ≡ can_begin (caps_from z) words bytes → b ≡ false → Began words bytes z w p 1 w p
  began_no e q = let t : can_begin (caps_from z) words bytes ≡ false = sym e ∙ q in record { ans = rw t; table = rw t; area = rw t }

-- ---- its record, compared
module _ {s s' : Wanted} (e : s ≡ s') (first : Bool) (w p r w' p' : List ℕ) (v : ℕ) (q : Began s.words s.bytes (sizes_of s) w p v w' p') where
  onto : {b : Bool} → Begun s.words s.bytes (sizes_of s) first w p r b w' p' → Begun s'.words s'.bytes (sizes_of s') first w p r b w' p'
  onto {b} g = subst (λ (x : Wanted). Begun x.words x.bytes (sizes_of x) first w p r b w' p') e g

  -- the first of a trace, and the start was not done
  pub begun-not : (first && not (eqb v 0)) ≡ true → Begun s'.words s'.bytes (sizes_of s') first w p r false w' p'
  begun-not t = onto (record { no = v; began = q; is = rw t })

  -- any other
  pub begun_on : (b : Bool) → (first && not (eqb v 0)) ≡ false → b ≡ same (encode s.words s.bytes (start (sizes_of s)) (plain v)) r → Begun s'.words s'.bytes (sizes_of s') first w p r b w' p'
  begun_on b t m = onto (record { no = v; began = q; is = rw t m })
