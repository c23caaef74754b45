-- The stores of the writer are one store of the record.
use Prim.Native.Nat.{ℕ, ◌+◌, ◌*◌, ◌<◌, ◌≤◌}
use mathlib.Core.Path.{◌≡◌, refl, sym, ◌∙◌}
use mathlib.Core.Bool.{true, false}
use mathlib.Core.List.{List, ◌++◌, append_assoc}
use native.Mathlib.Omega.{arith}
use lib.ListN.{length, length-append}
use lib.Seq.{sets}
use lib.Dec.{leb}
use borrow.Author.Tests.{le-leb, lt-leb}
use borrow.Rule.Slice.PartMut.{put_mid}
use Rattle.std.proofs.lemmas.Slice.{put_mid-paste}
use Rattle.tables.proofs.LoopLaws.{sets_paste}
use Rattle.records.specs.Bytes.{le}
use Rattle.records.proofs.ByteLaws.{length-le, stored_on}
use Rattle.trace.specs.Codec.{body, bytes, words}
use Rattle.trace.specs.Promises.{Put}
use Rattle.trace.specs.Kinds.{noted}
use Rattle.trace.proofs.CodecLaws.{length-bytes, length-words}
use Rattle.trace.proofs.KindLaws.{length-body}

-- what is copied to a part is stored there
pub sets_part : (l : List ℕ) (a k : ℕ) (ys m : List ℕ) → a + k ≤ length l → ys ≡ m → length m ≡ k → put_mid a k l ys ≡ sets l a m
sets_part l a k ys m h e n = put_mid-paste a k l ys m (length m) e n refl ∙ sym (sets_paste l a m (omega arith))

module _ (kind : ℕ) (front text back : List ℕ) where
  pub length-note : length (bytes (noted kind front text back)) ≡ 4 + 8 * length front + length text + 8 * length back
  length-note = length-bytes (noted kind front text back) ∙ omega (arith, length-body (noted kind front text back))

  pub note_stored : (size : ℕ) (l a b c d : List ℕ) → size ≡ 2 + 8 * length front + length text + 8 * length back →
      a ≡ sets l 0 (le 2 size ++ le 2 kind) → b ≡ sets a 4 (words front) → c ≡ sets b (4 + 8 * length front) text → d ≡ sets c (4 + 8 * length front + length text) (words back) →
      d ≡ sets l 0 (bytes (noted kind front text back))
  unfolding bytes
  note_stored size l a b c d e f₁ f₂ f₃ f₄ =
      let x = le 2 size ++ le 2 kind in
      let n : length x ≡ 4 = length-append (le 2 size) (le 2 kind) ∙ omega (arith, length-le 2 size, length-le 2 kind) in
      let z : 2 + length (body (noted kind front text back)) ≡ size = omega (arith, length-body (noted kind front text back)) in
      let w = length-words front in
      let n₂ : length (x ++ words front) ≡ 4 + 8 * length front = length-append x (words front) ∙ omega arith in
      let n₃ : length (x ++ words front ++ text) ≡ 4 + 8 * length front + length text = length-append (x ++ words front) text ∙ omega arith in
      let p₁ : 0 + length x ≡ 4 = omega arith in
      let p₂ : 0 + length (x ++ words front) ≡ 4 + 8 * length front = omega arith in
      let p₃ : 0 + length (x ++ words front ++ text) ≡ 4 + 8 * length front + length text = omega arith in
      let g₂ : b ≡ sets l 0 (x ++ words front) = stored_on l 0 x (words front) f₁ (rw p₁ f₂) in
      let g₃ : c ≡ sets l 0 (x ++ words front ++ text) = stored_on l 0 (x ++ words front) text g₂ (rw p₂ f₃) in
      let g₄ : d ≡ sets l 0 (x ++ words front ++ text ++ words back) = stored_on l 0 (x ++ words front ++ text) (words back) g₃ (rw p₃ f₄) in
      let y : x ++ words front ++ text ++ words back ≡ le 2 size ++ (le 2 kind ++ (words front ++ (text ++ words back))) =
      append_assoc (x ++ words front) text (words back) ∙ append_assoc x (words front) (text ++ words back)
      ∙ append_assoc (le 2 size) (le 2 kind) (words front ++ (text ++ words back)) in
      rw (z, ← y) g₄

  pub put_yes : (out out' : List ℕ) (n : ℕ) → n ≡ length (bytes (noted kind front text back)) → n ≤ length out → out' ≡ sets out 0 (bytes (noted kind front text back)) → Put (bytes (noted kind front text back)) out n out'
  put_yes out out' n e h f =
      let t : leb (length (bytes (noted kind front text back))) (length out) ≡ true = le-leb (length (bytes (noted kind front text back))) (length out) (omega arith) in
      record { count = rw t e; bytes = rw t f }

  pub put_no : (out : List ℕ) (n : ℕ) → n ≡ length (bytes (noted kind front text back)) → length out < n → Put (bytes (noted kind front text back)) out 0 out
  put_no out n e h =
      let t : leb (length (bytes (noted kind front text back))) (length out) ≡ false = lt-leb (length (bytes (noted kind front text back))) (length out) (omega arith) in
      record { count = rw t; bytes = rw t }
