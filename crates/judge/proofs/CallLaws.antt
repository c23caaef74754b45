-- What was called and what was compared, put together.
use Prim.Native.Nat.{ℕ, ◌^◌, ◌<◌}
use mathlib.Core.Path.{◌≡◌, sym, ap, subst, ◌∙◌, fun_ext}
use mathlib.Core.Bool.{Bool}
use mathlib.Core.List.{List, [], ◌∷◌}
use lib.ListN.{length, length-replicate, replicate}
use lib.IntN.{ℤ}
use Rattle.ledger.specs.Call.{Answer, Op}
use Rattle.ledger.specs.Call.Answer.{plain}
use Rattle.ledger.specs.Call.Call.{op}
use Rattle.ledger.specs.Call.Op.{notify, receive}
use Rattle.tables.specs.declared.Caps.{Caps}
use Rattle.tables.specs.Limits.{PAYLOAD-MOST}
use Rattle.tables.specs.State.{State}
use Rattle.rules.specs.declared.Received.{Received}
use Rattle.rules.specs.Calls.{Out}
use Rattle.rules.specs.Host.{Called}
use Rattle.rules.specs.Run.{say_received, step}
use Rattle.rules.specs.Story.{Meets}
use Rattle.trace.specs.Codec.{bytes}
use Rattle.trace.specs.Kinds.{encode, kept, note_with, noted, opening, signed}
use Rattle.trace.specs.Verdict.{same}
use Rattle.trace.proofs.KindLaws.{kept_none, notify_long, unsigned_signed}
use Rattle.judge.specs.Replayed.{Judged}

-- the promise is the same of two payloads that are too long
pub long_meets : (to tag : ℕ) (c d : List ℕ) → PAYLOAD-MOST < length c → PAYLOAD-MOST < length d → (w p : List ℕ) (a : Answer) (w' p' : List ℕ) →
    Meets (op (notify to tag c)) w p a w' p' → Meets (op (notify to tag d)) w p a w' p'
long_meets to tag c d x y w p a w' p' m =
    let e : step (notify to tag c) ≡ step (notify to tag d) = fun_ext (λ (k : Caps). fun_ext (λ (s : State). notify_long c d x y k s to tag)) in
    subst (λ (f : Caps → State → Out Answer). Called (plain 7) f w p a w' p') e m

-- ---- the call was made, and its record compared
module _ (w p r w' p' : List ℕ) (b : Bool) where
  -- with what was passed, as it opens the record: so the call was judged
  pub judged_as : (o : Op) {k : ℕ} {front text : List ℕ} (ans : Answer) → k ≡ (opening o).kind → front ≡ (opening o).numbers → text ≡ (opening o).text → Meets (op o) w p ans w' p' →
      b ≡ same (bytes (note_with k front text ans)) r → Judged o w p r b w' p'
  unfolding encode
  judged_as o ans e f g m i = record { ans = ans; called = m; is = rw (e, f, g) at i }

  -- with the wait as the number that it was read from
  pub judged-receive : (a c g d : ℕ) (z : ℤ) (v : Received) → z ≡ signed d → d < 2 ^ 64 → Meets (op (receive a c g z)) w p (say_received v) w' p' →
      b ≡ same (bytes (noted 21 (a ∷ c ∷ g ∷ d ∷ []) [] (v.no ∷ v.sender ∷ v.class ∷ v.tag ∷ v.length ∷ []))) r → Judged (receive a c g (signed d)) w p r b w' p'
  unfolding encode
  judged-receive a c g d z v f h q m =
      record {
        ans = say_received v;
        called = subst (λ (x : ℤ). Meets (op (receive a c g x)) w p (say_received v) w' p') f q;
        is = m ∙ ap (λ (x : ℕ). same (bytes (noted 21 (a ∷ c ∷ g ∷ x ∷ []) [] (v.no ∷ v.sender ∷ v.class ∷ v.tag ∷ v.length ∷ []))) r) (sym (unsigned_signed d h));
      }

  -- with another payload that is too long
  pub judged_long : (a c n : ℕ) (t : List ℕ) (v : ℕ) → PAYLOAD-MOST < n → Meets (op (notify a c t)) w p (plain v) w' p' → PAYLOAD-MOST < length t →
      b ≡ same (bytes (noted 20 (a ∷ c ∷ n ∷ []) [] (v ∷ []))) r → Judged (notify a c (replicate n 0)) w p r b w' p'
  unfolding encode
  judged_long a c n t v h q l m =
      let z = replicate {A = ℕ} n 0 in
      let k : length z ≡ n = length-replicate {A = ℕ} n 0 in
      let y : kept z ≡ [] = kept_none z (rw k h) in
      record {
        ans = plain v;
        called = long_meets a c t z l (rw k h) w p (plain v) w' p' q;
        is = m ∙ ap (λ (x : ℕ). same (bytes (noted 20 (a ∷ c ∷ x ∷ []) [] (v ∷ []))) r) (sym k) ∙ ap (λ (x : List ℕ). same (bytes (noted 20 (a ∷ c ∷ length z ∷ []) x (v ∷ []))) r) (sym y);
      }
