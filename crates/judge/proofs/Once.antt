-- No second judgement of a record, and no second pair of buffers after it, meets the promise of fg_replay.
use Prim.Native.Nat.{ℕ}
use mathlib.Core.Path.{◌≡◌, sym, ap, ◌∙◌}
use mathlib.Core.Bool.{Bool, true, false, cond, not, ◌&&◌}
use mathlib.Core.List.{List}
use lib.Dec.{eqb}
use Rattle.ledger.specs.Call.{Answer}
use Rattle.ledger.specs.Call.Answer.{plain}
use Rattle.ledger.specs.Call.Call.{start, op}
use Rattle.rules.proofs.Stories.Host.{meets_once}
use Rattle.trace.specs.Kinds.{Asked, encode}
use Rattle.trace.specs.Kinds.Asked.{unknown, begins, asks}
use Rattle.trace.specs.Verdict.{same}
use Rattle.judge.specs.Replayed.{Replayed, Unmoved}

module _ (w p r : List ℕ) {b b₂ : Bool} {w' p' w₂ p₂ : List ℕ} where
  unmoved_once : Unmoved w p b w' p' → Unmoved w p b₂ w₂ p₂ → (b ≡ b₂) × (w' ≡ w₂) × (p' ≡ p₂)
  unmoved_once x y = (x.is ∙ sym y.is, x.words ∙ sym y.words, x.bytes ∙ sym y.bytes)

  pub replayed_once : (a : Asked) (first : Bool) → Replayed a first w p r b w' p' → Replayed a first w p r b₂ w₂ p₂ → (b ≡ b₂) × (w' ≡ w₂) × (p' ≡ p₂)
  replayed_once unknown first = unmoved_once
  replayed_once (asks o) true = unmoved_once
  replayed_once (asks o) false = λ x y. let m = meets_once (op o) w p x.called y.called in
      (x.is ∙ ap (λ (a : Answer). same (encode 0 0 (op o) a) r) m.0 ∙ sym y.is, m.1, m.2)
  replayed_once (begins words bytes z) first = λ x y. let n = x.began.ans ∙ sym y.began.ans in (
    x.is ∙ ap (λ (v : ℕ). cond (first && not (eqb v 0)) false (same (encode words bytes (start z) (plain v)) r)) n ∙ sym y.is,
    x.began.table ∙ sym y.began.table,
    x.began.area ∙ sym y.began.area,
  )
