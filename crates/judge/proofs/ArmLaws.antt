-- A record's call was judged: so the record was replayed.
use Prim.Native.Nat.{ℕ, suc, ◌+◌, ◌-◌, ◌*◌, ◌^◌, ◌<◌, ◌≤◌}
use mathlib.Core.Path.{◌≡◌, refl, sym, ap, subst, ◌∙◌}
use mathlib.Core.Bool.{Bool, true, false, cond}
use mathlib.Core.List.{List, [], ◌∷◌}
use native.Mathlib.Omega.{arith}
use lib.ListN.{drop, length, length-drop, length-replicate, replicate, take}
use lib.Seq.{drop-drop, length-take-le}
use lib.Dec.{eqb, leb, ltb}
use lib.IntN.{ℤ, negsuc}
use mir.Syntax.{w64}
use mir.Val.{to_z}
use borrow.Author.Tests.{eqb-true, leb-true, leb-false}
use Rattle.ledger.specs.Call.{Answer, Op}
use Rattle.ledger.specs.Call.Answer.{plain}
use Rattle.ledger.specs.Call.Call.{op}
use Rattle.ledger.specs.Call.Op.{bus, notify, publish, read, receive}
use Rattle.pools.proofs.BoolLaws.{and_left, split}
use Rattle.records.specs.Bytes.{field}
use Rattle.tables.specs.Limits.{PAYLOAD-MOST}
use Rattle.rules.specs.declared.Received.{Received}
use Rattle.rules.specs.Run.{say_received}
use Rattle.rules.specs.Story.{Meets}
use Rattle.trace.specs.declared.kind.Kind.{Kind}
use Rattle.trace.specs.declared.kind.Kind.TheVariants.{Start, Spawn, Next, Yield, Notify, Receive, Show, Shown, After, Every, Cancel, Link, Unlink, Monitor, Demonitor, Exit, Advance, Report, Bus, Publish, Subscribe, Unsubscribe, Read}
use Rattle.trace.specs.Codec.{bytes, extent, formed, front_of, kind_of, numbers_in, text_length}
use Rattle.trace.specs.Kind.{number}
use Rattle.trace.specs.Kinds.{Asked, FIRST, asked, encode, kept, length_right, note_with, noted, nth, opening, opens, read_as, row_of, signed, stood}
use Rattle.trace.specs.Kinds.Asked.{asks, begins, unknown}
use Rattle.trace.specs.Verdict.{same}
use Rattle.trace.proofs.KindLaws.{kept_none}
use Rattle.trace.proofs.ReadLaws.{Plain, asked_as, asked-not, formed_long, nth_number}
use Rattle.judge.specs.Replayed.{Begun, Judged, OfKind, Replayed, Unmoved, asks_for, sizes_of}
use Rattle.judge.proofs.CallLaws.{judged-receive, judged_as}
use Rattle.judge.proofs.FormLaws.{formed-short, no_kind, text_whole}

-- ---- how long a record of a kind is
pub kind_long : (k : ℕ) (r : List ℕ) → OfKind k r → 4 + 8 * (row_of k).shape.fore ≤ length r
kind_long k r h = formed_long r (row_of k).shape (rw h.is at h.right)

-- a record of a kind is known by it
pub of_kind : (k : ℕ) (r : List ℕ) {b : Bool} → k ≡ kind_of r → b ≡ formed (row_of k).shape r → b ≡ true → OfKind k r
of_kind k r e h q = record { right = ap (λ (j : ℕ). formed (row_of j).shape r) (sym e) ∙ sym h ∙ q; is = sym e }

pub kind_is : {k j : ℕ} {r : List ℕ} → OfKind k r → k ≡ j → OfKind j r
kind_is h e = record { right = h.right; is = h.is ∙ e }

-- with the numbers behind its text
kind_all : (k : ℕ) (r : List ℕ) → OfKind k r → 4 + (8 * (row_of k).shape.fore + 8 * (row_of k).shape.aft) ≤ length r
unfolding formed
kind_all k r h =
    let s = (row_of k).shape in
    let f : formed s r ≡ true = rw h.is at h.right in
    let e : length r ≡ extent s (front_of s r) = eqb-true _ _ (and_left (eqb (length r) (extent s (front_of s r))) _ f) in
    omega arith

-- no kind is without a number
pub first_there : (kind : Kind) (r : List ℕ) → OfKind (number kind) r → 4 + 8 ≤ length r
unfolding row_of
first_there Start r h = let l = kind_all 16 r h in omega arith
first_there Spawn r h = let l = kind_all 17 r h in omega arith
first_there Next r h = let l = kind_all 18 r h in omega arith
first_there Yield r h = let l = kind_all 19 r h in omega arith
first_there Notify r h = let l = kind_all 20 r h in omega arith
first_there Receive r h = let l = kind_all 21 r h in omega arith
first_there Show r h = let l = kind_all 22 r h in omega arith
first_there Shown r h = let l = kind_all 23 r h in omega arith
first_there After r h = let l = kind_all 24 r h in omega arith
first_there Every r h = let l = kind_all 25 r h in omega arith
first_there Cancel r h = let l = kind_all 26 r h in omega arith
first_there Link r h = let l = kind_all 27 r h in omega arith
first_there Unlink r h = let l = kind_all 28 r h in omega arith
first_there Monitor r h = let l = kind_all 29 r h in omega arith
first_there Demonitor r h = let l = kind_all 30 r h in omega arith
first_there Exit r h = let l = kind_all 31 r h in omega arith
first_there Advance r h = let l = kind_all 32 r h in omega arith
first_there Report r h = let l = kind_all 33 r h in omega arith
first_there Bus r h = let l = kind_all 34 r h in omega arith
first_there Publish r h = let l = kind_all 35 r h in omega arith
first_there Subscribe r h = let l = kind_all 36 r h in omega arith
first_there Unsubscribe r h = let l = kind_all 37 r h in omega arith
first_there Read r h = let l = kind_all 38 r h in omega arith

-- where its text is recorded whole, it is as long as the last number in front of it says
pub whole_length : (k n : ℕ) (r : List ℕ) → OfKind k r → ((row_of k).shape.longest ≡ 0 → ⊥) → ((row_of k).shape.fore ≡ 0 → ⊥) → n ≡ field 8 (8 * (row_of k).shape.fore - 4) r → n ≤ (row_of k).shape.longest →
    length r ≡ 4 + (8 * (row_of k).shape.fore + (n + 8 * (row_of k).shape.aft))
unfolding formed
whole_length k n r h a b e l =
    let s = (row_of k).shape in
    let f : formed s r ≡ true = rw h.is at h.right in
    let x : length r ≡ extent s (front_of s r) = eqb-true _ _ (and_left (eqb (length r) (extent s (front_of s r))) _ f) in
    let t : text_length s (front_of s r) ≡ n = text_whole s r a b (rw (← e) l) ∙ sym e in
    omega arith

-- the kind that is left, of those that were told apart
abbrev pub Not : ℕ → ℕ → Type 0
Not k j = k ≡ j → ⊥

-- one more is told apart
pub up : {j k : ℕ} → j ≤ k → Not k j → suc j ≤ k
up l n = omega arith

pub is_advance : (k : ℕ) → 24 ≤ k → k < 34 → Not k 33 → (((((((Unit {0} × Not k 24) × Not k 25) × Not k 26) × Not k 27) × Not k 28) × Not k 29) × Not k 30) × Not k 31 → k ≡ 32
is_advance k a b n r =
    let g : 32 ≤ k = let ((((((((_, n24), n25), n26), n27), n28), n29), n30), n31) = r in up (up (up (up (up (up (up (up a n24) n25) n26) n27) n28) n29) n30) n31 in
    omega (arith, n)

pub is_shown : (k : ℕ) → 17 ≤ k → k < 24 → (((((Unit {0} × Not k 17) × Not k 18) × Not k 19) × Not k 20) × Not k 21) × Not k 22 → k ≡ 23
is_shown k a b r =
    let g : 23 ≤ k = let ((((((_, n17), n18), n19), n20), n21), n22) = r in up (up (up (up (up (up a n17) n18) n19) n20) n21) n22 in
    omega arith

pub below : (k : ℕ) → k < 17 → Not k 16 → k < FIRST
below k l n = omega arith

-- how long the record of a message is, its payload whole or not
pub message-length : (r : List ℕ) → OfKind 20 r → length r ≡ 36 + cond (leb (field 8 20 r) PAYLOAD-MOST) (field 8 20 r) 0
unfolding formed row_of
message-length r h =
    let s = (row_of 20).shape in
    let f : formed s r ≡ true = rw h.is at h.right in
    let e : length r ≡ extent s (front_of s r) = eqb-true _ _ (and_left (eqb (length r) (extent s (front_of s r))) _ f) in
    let n : nth (numbers_in 3 (drop 4 r)) 2 ≡ field 8 20 r = nth_number 3 2 4 r (omega arith) in
    let t : text_length s (front_of s r) ≡ cond (leb (field 8 20 r) PAYLOAD-MOST) (field 8 20 r) 0 = rw n in
    omega arith

-- ---- what it asks for
-- a record of no kind's number asks for nothing; nor does one that has not its kind's length
pub none_known : (n : ℕ) (r : List ℕ) → n ≡ kind_of r → ((kind : Kind) → number kind ≡ n → ⊥) → asked r ≡ unknown
none_known n r e h =
    split (length_right r)
    (λ q. asked_as r n q (sym e) ∙ ap (λ x. read_as x r) (no_kind n h))
    (λ q. asked-not r q)

pub none_formed : (k : ℕ) (r : List ℕ) {b : Bool} → k ≡ kind_of r → b ≡ formed (row_of k).shape r → b ≡ false → asked r ≡ unknown
none_formed k r e h q = asked-not r (ap (λ (j : ℕ). formed (row_of j).shape r) (sym e) ∙ sym h ∙ q)

pub none_short : (r : List ℕ) → length r < 4 → asked r ≡ unknown
none_short r h = asked-not r (formed-short (row_of (kind_of r)).shape r (omega arith))

-- a start
pub asked-start : (r : List ℕ) → OfKind 16 r → asked r ≡ begins (field 8 4 r) (field 8 12 r) (sizes_of (asks_for r))
unfolding row_of
asked-start r h =
    let n : (i : ℕ) → i < 8 → nth (numbers_in 8 (drop 4 r)) i ≡ field 8 (4 + 8 * i) r = λ i l. nth_number 8 i 4 r l in
    asked_as r 16 h.right h.is ∙ rw (n 1 (omega arith), n 2 (omega arith), n 3 (omega arith), n 4 (omega arith), n 5 (omega arith), n 6 (omega arith), n 7 (omega arith))

pub asked-receive : (r : List ℕ) → OfKind 21 r → asked r ≡ asks (receive (field 8 4 r) (field 8 12 r) (field 8 20 r) (signed (field 8 28 r)))
unfolding row_of
asked-receive r h =
    let n : (i : ℕ) → i < 4 → nth (numbers_in 4 (drop 4 r)) i ≡ field 8 (4 + 8 * i) r = λ i l. nth_number 4 i 4 r l in
    asked_as r 21 h.right h.is ∙ rw (n 1 (omega arith), n 2 (omega arith), n 3 (omega arith))

pub asked-bus : (r : List ℕ) → OfKind 34 r → asked r ≡ asks (bus (field 8 4 r) (field 8 12 r) (field 8 20 r) (field 8 28 r))
unfolding row_of
asked-bus r h =
    let n : (i : ℕ) → i < 4 → nth (numbers_in 4 (drop 4 r)) i ≡ field 8 (4 + 8 * i) r = λ i l. nth_number 4 i 4 r l in
    asked_as r 34 h.right h.is ∙ rw (n 1 (omega arith), n 2 (omega arith), n 3 (omega arith))

pub asked-read : (r : List ℕ) → OfKind 38 r → asked r ≡ asks (read (field 8 4 r) (field 8 12 r))
unfolding row_of
asked-read r h =
    let n : (i : ℕ) → i < 4 → nth (numbers_in 4 (drop 4 r)) i ≡ field 8 (4 + 8 * i) r = λ i l. nth_number 4 i 4 r l in
    asked_as r 38 h.right h.is ∙ rw (n 1 (omega arith))

-- a payload of n bytes, from a place on, as it is read: recorded whole, or by its length alone
abbrev pub read_at : ℕ → ℕ → List ℕ → List ℕ
read_at n at r = stood n (take (cond (leb n PAYLOAD-MOST) n 0) (drop at r))

pub asked-message : (a c n : ℕ) (r : List ℕ) → OfKind 20 r → a ≡ field 8 4 r → c ≡ field 8 12 r → n ≡ field 8 20 r → asked r ≡ asks (notify a c (read_at n 28 r))
unfolding row_of
asked-message a c n r h e f g =
    let x : (i : ℕ) → i < 3 → nth (numbers_in 3 (drop 4 r)) i ≡ field 8 (4 + 8 * i) r = λ i l. nth_number 3 i 4 r l in
    let d : drop 24 (drop 4 r) ≡ drop 28 r = drop-drop 24 4 r in
    asked_as r 20 h.right h.is ∙ rw (e, f, g, d, x 1 (omega arith), x 2 (omega arith))

pub asked-published : (a n : ℕ) (r : List ℕ) → OfKind 35 r → a ≡ field 8 4 r → n ≡ field 8 12 r → asked r ≡ asks (publish a (read_at n 20 r))
unfolding row_of
asked-published a n r h e f =
    let x : nth (numbers_in 2 (drop 4 r)) 1 ≡ field 8 12 r = nth_number 2 1 4 r (omega arith) in
    let d : drop 16 (drop 4 r) ≡ drop 20 r = drop-drop 16 4 r in
    asked_as r 35 h.right h.is ∙ rw (e, f, d, x)

-- a number read as a signed one
signed_is : (x : ℕ) → to_z w64 x ≡ signed x
signed_is x = split (ltb x (2 ^ 63)) (λ q. rw q) (λ q. rw q (ap negsuc (omega arith)))

-- ---- so it was replayed
module _ {w p r w' p' : List ℕ} {b : Bool} where
  -- a call
  pub arrive : {o : Op} → asked r ≡ asks o → Judged o w p r b w' p' → Replayed (asked r) false w p r b w' p'
  arrive {o} e j = subst (λ (a : Asked). Replayed a false w p r b w' p') (sym e) j

  -- one with a kind that has no numbers, or of which none is read
  pub arrive_bare : (k : ℕ) {kind : ℕ} {o : Op} → read_as (row_of k) r ≡ asks o → OfKind kind r → kind ≡ k → Judged o w p r b w' p' → Replayed (asked r) false w p r b w' p'
  arrive_bare k e h i j = arrive (asked_as r k h.right (h.is ∙ i) ∙ e) j

  -- one with one number
  pub arrive_one : (k : ℕ) {kind a : ℕ} (f : ℕ → Op) → read_as (row_of k) r ≡ asks (f (field 8 4 r)) → OfKind kind r → kind ≡ k → a ≡ field 8 4 r → Judged (f a) w p r b w' p' →
      Replayed (asked r) false w p r b w' p'
  arrive_one k f e h i g j = arrive_bare k e h i (subst (λ (x : ℕ). Judged (f x) w p r b w' p') g j)

  -- the call was made and its record compared: of a kind with no numbers
  pub call_bare : (k : Kind) (o : Op) → read_as (row_of (number k)) r ≡ asks o → opening o ≡ opens (number k) [] o → {kind : Kind} {ans : Answer} → kind ≡ k → OfKind (number kind) r →
      Meets (op o) w p ans w' p' → b ≡ same (bytes (note_with (number kind) [] [] ans)) r → Replayed (asked r) false w p r b w' p'
  call_bare k o e f {ans = ans} q h m i =
      let n = ap number q in
      arrive_bare (number k) e h n (judged_as w p r w' p' b o ans (n ∙ ap (λ x. x.kind) (sym f)) (ap (λ x. x.numbers) (sym f)) (ap (λ x. x.text) (sym f)) m i)

  -- of a kind with one number
  pub call_one : (k : Kind) (f : ℕ → Op) → read_as (row_of (number k)) r ≡ asks (f (field 8 4 r)) → ((x : ℕ) → opening (f x) ≡ opens (number k) (x ∷ []) (f x)) → {kind : Kind} {a : ℕ} {ans : Answer} →
      kind ≡ k → OfKind (number kind) r → a ≡ field 8 4 r → Meets (op (f a)) w p ans w' p' → b ≡ same (bytes (note_with (number kind) (a ∷ []) [] ans)) r → Replayed (asked r) false w p r b w' p'
  call_one k f e g {a = a} {ans = ans} q h v m i =
      let n = ap number q in
      arrive_one (number k) f e h n v (judged_as w p r w' p' b (f a) ans (n ∙ ap (λ x. x.kind) (sym (g a))) (ap (λ x. x.numbers) (sym (g a))) (ap (λ x. x.text) (sym (g a))) m i)

  -- a start
  pub arrive_start : (first : Bool) → OfKind 16 r → Begun (field 8 4 r) (field 8 12 r) (sizes_of (asks_for r)) first w p r b w' p' → Replayed (asked r) first w p r b w' p'
  arrive_start first h j = subst (λ (a : Asked). Replayed a first w p r b w' p') (sym (asked-start r h)) j

  -- a filter, the wait as a signed number
  pub arrive_receive : (a c g d : ℕ) → OfKind 21 r → a ≡ field 8 4 r → c ≡ field 8 12 r → g ≡ field 8 20 r → d ≡ field 8 28 r → Judged (receive a c g (signed d)) w p r b w' p' →
      Replayed (asked r) false w p r b w' p'
  arrive_receive a c g d h e₁ e₂ e₃ e₄ j = arrive (asked-receive r h) (rw (← e₁, ← e₂, ← e₃, ← e₄) j)

  pub call_receive : (a c g d : ℕ) (z : ℤ) (v : Received) → OfKind 21 r → a ≡ field 8 4 r → c ≡ field 8 12 r → g ≡ field 8 20 r → d ≡ field 8 28 r → z ≡ to_z w64 d → d < 2 ^ 64 →
      Meets (op (receive a c g z)) w p (say_received v) w' p' → b ≡ same (bytes (note_with 21 (a ∷ c ∷ g ∷ d ∷ []) [] (say_received v))) r → Replayed (asked r) false w p r b w' p'
  call_receive a c g d z v h e₁ e₂ e₃ e₄ e l q m = arrive_receive a c g d h e₁ e₂ e₃ e₄ (judged-receive w p r w' p' b a c g d z v (e ∙ signed_is d) l q m)

  pub arrive_bus : (a c g d : ℕ) → OfKind 34 r → a ≡ field 8 4 r → c ≡ field 8 12 r → g ≡ field 8 20 r → d ≡ field 8 28 r → Judged (bus a c g d) w p r b w' p' → Replayed (asked r) false w p r b w' p'
  arrive_bus a c g d h e₁ e₂ e₃ e₄ j = arrive (asked-bus r h) (rw (← e₁, ← e₂, ← e₃, ← e₄) j)

  pub arrive_read : {k : ℕ} (a c : ℕ) → OfKind k r → k ≡ 38 → a ≡ field 8 4 r → c ≡ field 8 12 r → Judged (read a c) w p r b w' p' → Replayed (asked r) false w p r b w' p'
  arrive_read a c h i e f j = arrive (asked-read r (kind_is h i)) (rw (← e, ← f) j)

module _ (w p r w' p' : List ℕ) (b : Bool) where
  -- one with a payload of n bytes: m was passed, which is what was recorded, or is too long as that is; two that are too long are called alike
  pub arrive_payload : (f : List ℕ → Op) (k : ℕ) (front : ℕ → List ℕ) (at n v : ℕ) (m : List ℕ) → asked r ≡ asks (f (read_at n at r)) →
      ((t : List ℕ) → encode 0 0 (op (f t)) (plain v) ≡ bytes (noted k (front (length t)) (kept t) (v ∷ []))) →
      ((c d : List ℕ) → PAYLOAD-MOST < length c → PAYLOAD-MOST < length d → Meets (op (f c)) w p (plain v) w' p' → Meets (op (f d)) w p (plain v) w' p') →
      (n ≤ PAYLOAD-MOST → at + n ≤ length r) → (n ≤ PAYLOAD-MOST → m ≡ take n (drop at r)) → (PAYLOAD-MOST < n → PAYLOAD-MOST < length m) →
      Meets (op (f m)) w p (plain v) w' p' → b ≡ same (bytes (noted k (front n) (kept m) (v ∷ []))) r → Replayed (asked r) false w p r b w' p'
  arrive_payload f k front at n v m e g alike room whole long q i = split (leb n PAYLOAD-MOST) yes no
    where
      rec : (l : ℕ) (t : List ℕ) → List ℕ
      rec l t = bytes (noted k (front l) t (v ∷ []))

      yes : leb n PAYLOAD-MOST ≡ true → Replayed (asked r) false w p r b w' p'
      yes h =
          let l = leb-true n PAYLOAD-MOST h in
          let x = whole l in
          let d : length (drop at r) ≡ length r - at = length-drop at r in
          let z : length m ≡ n = ap length x ∙ length-take-le n (drop at r) (omega (arith, room l)) in
          arrive {w = w} {p = p} {r = r} {w' = w'} {p' = p'} {b = b} (e ∙ ap (λ (t : List ℕ). asks (f t)) (rw h (sym x)))
          (record { ans = plain v; called = q; is = i ∙ ap (λ (j : ℕ). same (rec j (kept m)) r) (sym z) ∙ ap (λ (y : List ℕ). same y r) (sym (g m)) })

      no : leb n PAYLOAD-MOST ≡ false → Replayed (asked r) false w p r b w' p'
      no h =
          let l = leb-false n PAYLOAD-MOST h in
          let z = replicate {A = ℕ} n 0 in
          let y : length z ≡ n = length-replicate {A = ℕ} n 0 in
          let o : kept m ≡ kept z = kept_none m (long l) ∙ sym (kept_none z (rw y l)) in
          arrive {w = w} {p = p} {r = r} {w' = w'} {p' = p'} {b = b} (e ∙ ap (λ (t : List ℕ). asks (f t)) (rw h refl))
          (record {
            ans = plain v;
            called = alike m z (long l) (rw y l) q;
            is = i ∙ ap (λ (t : List ℕ). same (rec n t) r) o ∙ ap (λ (j : ℕ). same (rec j (kept z)) r) (sym y) ∙ ap (λ (y : List ℕ). same y r) (sym (g z));
          })

-- ---- or not
-- only a start's kind has its number
pub not_start : (kind : Kind) → (kind ≡ Start → ⊥) → number kind ≡ FIRST → ⊥
not_start Start h e = h refl
not_start Spawn h e = omega (arith, e)
not_start Next h e = omega (arith, e)
not_start Yield h e = omega (arith, e)
not_start Notify h e = omega (arith, e)
not_start Receive h e = omega (arith, e)
not_start Show h e = omega (arith, e)
not_start Shown h e = omega (arith, e)
not_start After h e = omega (arith, e)
not_start Every h e = omega (arith, e)
not_start Cancel h e = omega (arith, e)
not_start Link h e = omega (arith, e)
not_start Unlink h e = omega (arith, e)
not_start Monitor h e = omega (arith, e)
not_start Demonitor h e = omega (arith, e)
not_start Exit h e = omega (arith, e)
not_start Advance h e = omega (arith, e)
not_start Report h e = omega (arith, e)
not_start Bus h e = omega (arith, e)
not_start Publish h e = omega (arith, e)
not_start Subscribe h e = omega (arith, e)
not_start Unsubscribe h e = omega (arith, e)
not_start Read h e = omega (arith, e)

pub still : {w p : List ℕ} → Unmoved w p false w p
still = record { is = refl; words = refl; bytes = refl }

-- the first record, and no start
pub plain-first : (w p r : List ℕ) {a : Asked} → Plain a → Replayed a true w p r false w p
plain-first w p r Plain.none = still
plain-first w p r (Plain.call o) = still
