-- Writing and reading are inverse both ways, no two calls have the same record, nothing else reads as one.
use Prim.Native.Nat.{ℕ, zero, suc, ◌+◌, ◌-◌, ◌^◌, ◌<◌}
use mathlib.Core.Path.{◌≡◌, sym, ap, ◌∙◌}
use mathlib.Core.Bool.{true}
use mathlib.Core.List.{List, [], ◌∷◌}
use native.Mathlib.Nat.{pow-suc}
use native.Mathlib.Omega.{arith}
use lib.ListN.{length, get_or, take, drop, length-drop, length-replicate}
use lib.Seq.{length-take-le}
use lib.Dec.{leb, ltb}
use borrow.Author.Tests.{ltb-false, ltb-true}
use Rattle.ledger.specs.Call.{Op}
use Rattle.ledger.specs.Call.Call.{start, op}
use Rattle.pools.proofs.BoolLaws.{split}
use Rattle.records.specs.Bytes.{Bytes, of_le}
use Rattle.records.proofs.ByteLaws.{bytes_drop}
use Rattle.tables.specs.declared.Caps.{Caps}
use Rattle.tables.specs.Limits.{PAYLOAD-MOST}
use Rattle.tables.specs.State.{State}
use Rattle.rules.specs.Run.{step}
use Rattle.trace.specs.Codec.{Small, bytes, formed, kind_of, note, numbers_in, text_of}
use Rattle.trace.specs.Kinds.{Asked, FIRST, Fits, Row, Signed, abridged, asked, call_of, encode, length_right, no_row, nth, opening, read_as, row_of, rows, signed, stood, unsigned}
use Rattle.trace.specs.Kinds.Asked.{unknown, begins, asks}
use Rattle.trace.specs.Writing.{Passes, done}
use Rattle.trace.proofs.CodecLaws.{bytes-note, long, note-bytes}
use Rattle.trace.proofs.KindLaws.{known, read_op}

-- a line of the rules whose numbers fit 64 bits is read back, its payload over 252 bytes as its length
pub decode_encode : (o : Op) (k : Caps) (s : State) → Small (done o k s).front → Small (done o k s).back → note (row_of (opening o).kind).shape (encode 0 0 (op o) (step o k s).ans) ≡ done o k s
unfolding encode
decode_encode o k s f b =
    let h = known o k s in
    note-bytes (row_of (opening o).kind).shape (done o k s)
    (record { stated = record { fronts = h.fronts; texts = h.texts; kinds = rw h.kinds h.small; small_front = f }; backs = h.backs; size = h.size; small_back = b })

-- what reads as a record of its kind is byte for byte what the writer writes of it
pub encode_decode : (bs : List ℕ) → Bytes bs → length_right bs ≡ true → bytes (note (row_of (kind_of bs)).shape bs) ≡ bs
encode_decode bs b h = bytes-note (row_of (kind_of bs)).shape bs b h

-- no two calls have the same record, but two whose payloads over 252 bytes are as long
pub one-call : (o o' : Op) (k k' : Caps) (s s' : State) → Fits 0 0 (op o) (step o k s).ans → Fits 0 0 (op o') (step o' k' s').ans →
    encode 0 0 (op o) (step o k s).ans ≡ encode 0 0 (op o') (step o' k' s').ans → abridged o ≡ abridged o'
one-call o o' k k' s s' f f' e =
    let x : asks (abridged o) ≡ asks (abridged o') = sym (read_op o k s f) ∙ ap asked e ∙ read_op o' k' s' f' in
    cc

-- ---- what is read from bytes could have been passed
small-number : (k : ℕ) (bs : List ℕ) → Bytes bs → of_le (take k bs) < 256 ^ k
small-number zero bs b = omega arith
small-number (suc k) [] b = let p = small-number k [] (λ i. omega arith) in rw (pow-suc 256 k) (omega arith)
small-number (suc k) (x ∷ bs) b =
    let p = small-number k bs (λ i. b (suc i)) in
    let h : x < 256 = b 0 in
    rw (pow-suc 256 k) (omega arith)

small-numbers : (k : ℕ) (bs : List ℕ) → Bytes bs → Small (numbers_in k bs)
small-numbers zero bs b = record {}
small-numbers (suc k) bs b = (small-number 8 bs b, small-numbers k (drop 8 bs) (bytes_drop 8 bs b))

fronts : (k : ℕ) (bs : List ℕ) → Bytes bs → Small (numbers_in k (drop 4 bs))
fronts k bs b = small-numbers k (drop 4 bs) (bytes_drop 4 bs b)

signed-small : (x : ℕ) → x < 256 ^ 8 → (unsigned (signed x) < 256 ^ 8) × Signed (signed x)
signed-small x h = split (ltb x (2 ^ 63)) (λ q. rw q (h, ltb-true x (2 ^ 63) q)) (λ q. rw q (omega arith, omega (arith, ltb-false x (2 ^ 63) q)))

-- of what a record asks for
abbrev pub Passed : Asked → Type 0
Passed unknown = record {}
Passed (begins w p z) = Passes w p (start z)
Passed (asks o) = Passes 0 0 (op o)

abbrev RowPasses : Row → Type 0
RowPasses r = (bs : List ℕ) → Bytes bs → formed r.shape bs ≡ true → Passed (read_as r bs)

infixr 5 ◌by◌also◌
data AllPass : List Row → Type 0 where
  end : AllPass []
  ◌by◌also◌ : (kind : ℕ) {rs : List Row} → RowPasses (row_of kind) → AllPass rs → AllPass (row_of kind ∷ rs)

-- a payload as long as its record says
notify_passes : RowPasses (row_of 20)
unfolding row_of
notify_passes bs b h =
    let (target, (tag, (size, _))) = fronts 3 bs b in
    let l = drop 24 (drop 4 bs) in
    let n = nth (numbers_in 3 (drop 4 bs)) 2 in
    let e₁ : length (drop 4 bs) ≡ length bs - 4 = length-drop 4 bs in
    let e₂ : length l ≡ length (drop 4 bs) - 24 = length-drop 24 (drop 4 bs) in
    let e : length (stood n (text_of (row_of 20).shape bs)) ≡ n =
    split (leb n PAYLOAD-MOST)
    (λ q. let e₃ : length bs ≡ 4 + (24 + (n + 8)) = rw q at (long (row_of 20).shape bs b h) in rw q (length-take-le n l (omega arith)))
    (λ q. rw q (length-replicate {A = ℕ} n 0)) in
    record { small = (target, (tag, (rw e size, record {}))); signs = record {} }

-- what is published, the same
publish_passes : RowPasses (row_of 35)
unfolding row_of
publish_passes bs b h =
    let (bus, (size, _)) = fronts 2 bs b in
    let l = drop 16 (drop 4 bs) in
    let n = nth (numbers_in 2 (drop 4 bs)) 1 in
    let e₁ : length (drop 4 bs) ≡ length bs - 4 = length-drop 4 bs in
    let e₂ : length l ≡ length (drop 4 bs) - 16 = length-drop 16 (drop 4 bs) in
    let e : length (stood n (text_of (row_of 35).shape bs)) ≡ n =
    split (leb n PAYLOAD-MOST)
    (λ q. let e₃ : length bs ≡ 4 + (16 + (n + 8)) = rw q at (long (row_of 35).shape bs b h) in rw q (length-take-le n l (omega arith)))
    (λ q. rw q (length-replicate {A = ℕ} n 0)) in
    record { small = (bus, (rw e size, record {})); signs = record {} }

-- a wait, signed
receive_passes : RowPasses (row_of 21)
unfolding row_of
receive_passes bs b h =
    let (sender, (class, (tag, (wait, _)))) = fronts 4 bs b in
    let g = signed-small (nth (numbers_in 4 (drop 4 bs)) 3) wait in
    record { small = (sender, (class, (tag, (g.0, record {})))); signs = (g.1, record {}) }

-- the table
all_pass : AllPass rows
unfolding row_of
all_pass =
    16 by (λ bs b h. record { small = fronts 8 bs b; signs = record {} })
    also 17 by (λ bs b h. record { small = fronts 1 bs b; signs = record {} })
    also 18 by (λ bs b h. record { small = fronts 0 bs b; signs = record {} })
    also 19 by (λ bs b h. record { small = fronts 0 bs b; signs = record {} })
    also 20 by notify_passes
    also 21 by receive_passes
    also 22 by (λ bs b h. record { small = fronts 0 bs b; signs = record {} })
    also 23 by (λ bs b h. record { small = fronts 0 bs b; signs = record {} })
    also 24 by (λ bs b h. record { small = fronts 1 bs b; signs = record {} })
    also 25 by (λ bs b h. record { small = fronts 1 bs b; signs = record {} })
    also 26 by (λ bs b h. record { small = fronts 1 bs b; signs = record {} })
    also 27 by (λ bs b h. record { small = fronts 1 bs b; signs = record {} })
    also 28 by (λ bs b h. record { small = fronts 1 bs b; signs = record {} })
    also 29 by (λ bs b h. record { small = fronts 1 bs b; signs = record {} })
    also 30 by (λ bs b h. record { small = fronts 1 bs b; signs = record {} })
    also 31 by (λ bs b h. record { small = fronts 1 bs b; signs = record {} })
    also 32 by (λ bs b h. record { small = fronts 1 bs b; signs = record {} })
    also 33 by (λ bs b h. record { small = fronts 0 bs b; signs = record {} })
    also 34 by (λ bs b h. record { small = fronts 4 bs b; signs = record {} })
    also 35 by publish_passes
    also 36 by (λ bs b h. record { small = fronts 1 bs b; signs = record {} })
    also 37 by (λ bs b h. record { small = fronts 1 bs b; signs = record {} })
    also 38 by (λ bs b h. let (bus, (room, _)) = fronts 4 bs b in record { small = (bus, (room, record {})); signs = record {} })
    also end

row_passes : {rs : List Row} (i : ℕ) → AllPass rs → RowPasses (get_or rs i no_row)
row_passes i end = λ bs b q. record {}
row_passes zero (k by h also t) = h
row_passes (suc i) (k by h also t) = row_passes i t

row_of_passes : (kind : ℕ) → RowPasses (row_of kind)
unfolding row_of
row_of_passes kind = split (leb FIRST kind) (λ q. rw q (row_passes (kind - FIRST) all_pass)) (λ q. rw q (λ bs b h. record {}))

-- WHAT IS READ COULD HAVE BEEN PASSED: every number of a call that is read from bytes fits 64 bits
pub asked_passes : (bs : List ℕ) → Bytes bs → Passed (asked bs)
unfolding call_of
asked_passes bs b = split (length_right bs) (λ q. rw q (row_of_passes (kind_of bs) bs b q)) (λ q. rw q (record {}))
