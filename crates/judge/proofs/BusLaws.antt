-- The calls on buses: what was called and what was compared, put together; and that the record was so replayed.
use Prim.Native.Nat.{ℕ, ◌<◌, ◌≤◌, min}
use mathlib.Core.Path.{◌≡◌, refl, sym, ap, subst, ◌∙◌, fun_ext}
use mathlib.Core.Bool.{Bool}
use mathlib.Core.List.{List, [], ◌∷◌, ◌++◌}
use native.Mathlib.Omega.{arith}
use lib.ListN.{drop, length, length-replicate, replicate, take}
use lib.Seq.{length-take-le, take-append-le}
use Rattle.ledger.specs.Call.{Answer}
use Rattle.ledger.specs.Call.Answer.{plain}
use Rattle.ledger.specs.Call.Call.{op}
use Rattle.ledger.specs.Call.Op.{publish, read}
use Rattle.pools.proofs.BoolLaws.{split}
use Rattle.tables.specs.declared.Caps.{Caps}
use Rattle.tables.specs.Limits.{PAYLOAD-MOST}
use Rattle.tables.specs.State.{State, caps_of, join_p, join_w}
use Rattle.rules.specs.declared.Copied.{Copied}
use Rattle.rules.specs.Rule.{test}
use Rattle.rules.specs.Sound.{sound_rule, view_of}
use Rattle.rules.specs.Calls.{Out}
use Rattle.rules.specs.Host.{Called, Onto, copy_in}
use Rattle.rules.specs.Run.{say_copy, step}
use Rattle.rules.specs.Story.{Meets}
use Rattle.rules.proofs.Kept.Ready.{good_ready}
use Rattle.rules.proofs.Stories.Host.{called_ready}
use Rattle.trace.specs.Codec.{bytes}
use Rattle.trace.specs.Kinds.{encode, kept, noted}
use Rattle.trace.specs.Verdict.{same}
use Rattle.trace.proofs.KindLaws.{kept_none, kept_whole, publish_long, read_most}
use Rattle.judge.specs.Replayed.{Judged}
use Rattle.judge.proofs.ArmLaws.{Not, up}

-- ---- what stands for what was recorded
-- the promise is the same of two payloads that are too long
pub lengthy_meets : (b : ℕ) (c d : List ℕ) → PAYLOAD-MOST < length c → PAYLOAD-MOST < length d → (w p : List ℕ) (a : Answer) (w' p' : List ℕ) →
    Meets (op (publish b c)) w p a w' p' → Meets (op (publish b d)) w p a w' p'
lengthy_meets b c d x y w p a w' p' m =
    let e : step (publish b c) ≡ step (publish b d) = fun_ext (λ (k : Caps). fun_ext (λ (s : State). publish_long c d x y k s b)) in
    subst (λ (f : Caps → State → Out Answer). Called (plain 7) f w p a w' p') e m

-- and of two slices that are as long, or both of 252 bytes or more: on sound buffers no payload is longer
pub rooms_meet : (b m n : ℕ) → min m PAYLOAD-MOST ≡ min n PAYLOAD-MOST → (w p : List ℕ) (a : Answer) (w' p' : List ℕ) → Meets (op (read b m)) w p a w' p' → Meets (op (read b n)) w p a w' p'
rooms_meet b m n e w p a w' p' x =
    let k = caps_of w in
    let s = view_of w p in
    split (test (sound_rule w p))
    (λ q. let g = good_ready k w p (called_ready w p refl q refl) in
    let f : step (read b m) k s ≡ step (read b n) k s = sym (read_most b m k s g) ∙ ap (λ (i : ℕ). step (read b i) k s) e ∙ read_most b n k s g in
    record {
      ans = rw q (rw q at x.ans ∙ ap (λ (o : Out Answer). o.ans) f);
      words = rw q (rw q at x.words ∙ ap (λ (o : Out Answer). join_w o.state) f);
      bytes = rw q (rw q at x.bytes ∙ ap (λ (o : Out Answer). join_p o.state) f);
    })
    (λ q. record { ans = rw q (rw q at x.ans); words = rw q (rw q at x.words); bytes = rw q (rw q at x.bytes) })

-- a read to the front of a longer slice: what was copied stands first in that, too
pub read-lent : (b room n : ℕ) (v : Copied) (w p whole front w' p' : List ℕ) → n ≡ min room PAYLOAD-MOST → length whole ≡ PAYLOAD-MOST →
    Meets (op (read b (length (take n whole)))) w p (say_copy (copy_in v front)) w' p' → Onto v.length (take n whole) front →
    Meets (op (read b room)) w p (say_copy (copy_in v (front ++ drop n whole))) w' p' × (v.length ≤ PAYLOAD-MOST)
read-lent b room n v w p whole front w' p' e l m x =
    let c : length (take n whole) ≡ n = length-take-le n whole (omega arith) in
    let f : take v.length (front ++ drop n whole) ≡ take v.length front = take-append-le v.length front (drop n whole) (omega (arith, x.0, x.1)) in
    (rw f (rooms_meet b (length (take n whole)) room (omega arith) w p (say_copy (copy_in v front)) w' p' m), omega (arith, x.0))

-- ---- the call was made, and its record compared
module _ (w p r w' p' : List ℕ) (b : Bool) where
  -- with another payload that is too long
  pub judged_lengthy : (a n : ℕ) (t : List ℕ) (v : ℕ) → PAYLOAD-MOST < n → Meets (op (publish a t)) w p (plain v) w' p' → PAYLOAD-MOST < length t →
      b ≡ same (bytes (noted 35 (a ∷ n ∷ []) [] (v ∷ []))) r → Judged (publish a (replicate n 0)) w p r b w' p'
  unfolding encode
  judged_lengthy a n t v h q l m =
      let z = replicate {A = ℕ} n 0 in
      let k : length z ≡ n = length-replicate {A = ℕ} n 0 in
      let y : kept z ≡ [] = kept_none z (rw k h) in
      record {
        ans = plain v;
        called = lengthy_meets a t z l (rw k h) w p (plain v) w' p' q;
        is = m ∙ ap (λ (x : ℕ). same (bytes (noted 35 (a ∷ x ∷ []) [] (v ∷ []))) r) (sym k) ∙ ap (λ (x : List ℕ). same (bytes (noted 35 (a ∷ length z ∷ []) x (v ∷ []))) r) (sym y);
      }

  pub judged-read : (a room : ℕ) (v : Copied) (c : List ℕ) → v.length ≤ PAYLOAD-MOST → length c ≡ PAYLOAD-MOST → Meets (op (read a room)) w p (say_copy (copy_in v c)) w' p' →
      b ≡ same (bytes (noted 38 (a ∷ room ∷ v.no ∷ v.length ∷ []) (take v.length c) [])) r → Judged (read a room) w p r b w' p'
  unfolding encode
  judged-read a room v c h l q m =
      let t = take v.length c in
      let k : length t ≡ v.length = length-take-le v.length c (omega arith) in
      record {
        ans = say_copy (copy_in v c);
        called = q;
        is = m ∙ ap (λ (x : ℕ). same (bytes (noted 38 (a ∷ room ∷ v.no ∷ x ∷ []) t [])) r) (sym k)
            ∙ ap (λ (x : List ℕ). same (bytes (noted 38 (a ∷ room ∷ v.no ∷ length t ∷ []) x [])) r) (sym (kept_whole t (omega (arith, k))));
      }

-- ---- which kind is left
pub is_read : (k : ℕ) → 34 ≤ k → k < 39 → (((Unit {0} × Not k 34) × Not k 35) × Not k 36) × Not k 37 → k ≡ 38
is_read k a b r =
    let g : 38 ≤ k = let ((((_, n34), n35), n36), n37) = r in up (up (up (up a n34) n35) n36) n37 in
    omega arith
