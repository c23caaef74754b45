-- What is known after a read into the rest of a buffer.
use Rattle.std.proofs.Common.{arith, ℕ, ◌≡◌, ◌+◌, ◌≤◌, List, ◌++◌, None, Some, Option, sym, ap, ◌∙◌, length, take, append_assoc, length-take-le}
use Rattle.std.proofs.lemmas.List.{take-append-le, take-take}
use Rattle.std.proofs.Math.Seq.{take-append-add}
use Rattle.std.specs.Io.KnownBytes.{Consumes}
use borrow.Rule.Slice.PartMut.{put_mid, post_of}
use Rattle.replay.specs.Said.{ReadsOn}

-- the next bytes come behind those in hand
pub ReadsOn-more : (a b c : Option (List ℕ)) (hand hand' got : List ℕ) → ReadsOn a b hand hand' → Consumes b c got → ReadsOn a c hand (hand' ++ got)
ReadsOn-more None b c hand hand' got p q = tt
ReadsOn-more (Some x) None c hand hand' got p q = absurd p
ReadsOn-more (Some x) (Some y) None hand hand' got p q = absurd q
ReadsOn-more (Some x) (Some y) (Some z) hand hand' got p q = p ∙ ap (λ l. hand' ++ l) q ∙ sym (append_assoc hand' got z)

-- what is in hand, where the part from a on holds ys now, n of which were read
pub take-put_mid_more : (a k n : ℕ) (xs ys : List ℕ) → a ≤ length xs → n ≤ length ys → take (a + n) (put_mid a k xs ys) ≡ take a xs ++ take n ys
take-put_mid_more a k n xs ys p q =
    ap (λ m. take (m + n) (put_mid a k xs ys)) (sym (length-take-le a xs p))
    ∙ take-append-add (take a xs) (ys ++ post_of a k xs) n
    ∙ ap (λ l. take a xs ++ l) (take-append-le n ys (post_of a k xs) q)

-- what is in hand stays, where a part behind it is written
pub take-put_mid_front : (h a k : ℕ) (xs ys : List ℕ) → h ≤ a → a ≤ length xs → take h (put_mid a k xs ys) ≡ take h xs
take-put_mid_front h a k xs ys p q =
    take-append-le h (take a xs) (ys ++ post_of a k xs) (omega (arith, length-take-le a xs q)) ∙ take-take h a xs p
