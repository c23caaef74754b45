-- THE THEOREMS ON TRACES, on one page. A trace is bytes; what they say of the calls rests on `Meets`, the promise of every call (rules/specs/Story.antt), and on the rules. Nothing else is assumed.
use Prim.Native.Nat.{ℕ, suc, ◌<◌, ◌≤◌}
use mathlib.Core.Path.{◌≡◌}
use mathlib.Core.Logic.{◌↔◌}
use mathlib.Core.Bool.{Bool, true}
use mathlib.Core.List.{List, [], ◌++◌}
use native.Mathlib.Omega.{arith}
use lib.ListN.{length}
use Rattle.ledger.specs.Call.{Answer, Line, Op, Sizes}
use Rattle.ledger.specs.Call.Answer.{plain}
use Rattle.ledger.specs.Call.Call.{start, op}
use Rattle.ledger.specs.Call.Op.{notify, publish, read}
use Rattle.records.specs.Bytes.{Bytes}
use Rattle.tables.specs.declared.Caps.{Caps}
use Rattle.tables.specs.Limits.{PAYLOAD-MOST}
use Rattle.tables.specs.State.{State}
use Rattle.rules.specs.Run.{step}
use Rattle.rules.specs.Story.{Meets, Story}
use Rattle.trace.specs.Codec.{Small, bytes, kind_of, note}
use Rattle.trace.specs.Kinds.{Fits, abridged, asked, encode, length_right, opening, row_of, start_args}
use Rattle.trace.specs.Kinds.Asked.{asks, begins}
use Rattle.trace.specs.Verdict.{Verdict, judged, verdict}
use Rattle.trace.specs.Verdict.Verdict.{ok}
use Rattle.trace.specs.Writing.{Fitted, Means, done, written}
use Rattle.trace.proofs.Inverse.{decode_encode, encode_decode, one-call}
use Rattle.trace.proofs.KindLaws.{read_op, read-start}
use Rattle.trace.proofs.TraceOk.{trace_ok, verdict_exactly}
use Rattle.judge.specs.Feeding.{Bench, Comes, Run, joined, standing}
use Rattle.judge.specs.Replayed.{Replayed}
use Rattle.judge.proofs.BusLaws.{lengthy_meets, rooms_meet}
use Rattle.judge.proofs.CallLaws.{long_meets}
use Rattle.judge.proofs.Once.{replayed_once}
use Rattle.judge.proofs.ReplayLaws.{replayed_comes}
use Rattle.judge.proofs.RunLaws.{run-verdict}

-- ---- WRITING AND READING
-- a line of the rules is read back from its record, number by number, its payload over 252 bytes as its length
pub reads_back : (o : Op) (k : Caps) (s : State) → Small (done o k s).front → Small (done o k s).back → note (row_of (opening o).kind).shape (encode 0 0 (op o) (step o k s).ans) ≡ done o k s
reads_back = decode_encode

-- what reads as a record is byte for byte what the writer writes of it
pub writes-back : (bs : List ℕ) → Bytes bs → length_right bs ≡ true → bytes (note (row_of (kind_of bs)).shape bs) ≡ bs
writes-back = encode_decode

-- the record of a call asks for that call, a payload over 252 bytes as zeros; that of a start for that start, on buffers of those lengths
pub asks_for-it : (o : Op) (k : Caps) (s : State) → Fits 0 0 (op o) (step o k s).ans → asked (encode 0 0 (op o) (step o k s).ans) ≡ asks (abridged o)
asks_for-it = read_op

pub asks_for-start : (w p : ℕ) (z : Sizes) (n : ℕ) → Small (start_args w p z) → asked (encode w p (start z) (plain n)) ≡ begins w p z
asks_for-start = read-start

-- no two calls have the same record, but two whose payloads over 252 bytes are as long
pub no_two : (o o' : Op) (k k' : Caps) (s s' : State) → Fits 0 0 (op o) (step o k s).ans → Fits 0 0 (op o') (step o' k' s').ans →
    encode 0 0 (op o) (step o k s).ans ≡ encode 0 0 (op o') (step o' k' s').ans → abridged o ≡ abridged o'
no_two = one-call

-- and those are answered alike, and leave the same: the bytes of such a payload do not matter
pub long_alike : (to tag : ℕ) (c d : List ℕ) → PAYLOAD-MOST < length c → PAYLOAD-MOST < length d → (w p : List ℕ) (a : Answer) (w' p' : List ℕ) →
    Meets (op (notify to tag c)) w p a w' p' → Meets (op (notify to tag d)) w p a w' p'
long_alike = long_meets

pub published_alike : (b : ℕ) (c d : List ℕ) → PAYLOAD-MOST < length c → PAYLOAD-MOST < length d → (w p : List ℕ) (a : Answer) (w' p' : List ℕ) →
    Meets (op (publish b c)) w p a w' p' → Meets (op (publish b d)) w p a w' p'
published_alike = lengthy_meets

-- and so are reads to slices that are both of 252 bytes or more: how long they are does not matter
pub room_alike : (b m n : ℕ) → PAYLOAD-MOST ≤ m → PAYLOAD-MOST ≤ n → (w p : List ℕ) (a : Answer) (w' p' : List ℕ) → Meets (op (read b m)) w p a w' p' → Meets (op (read b n)) w p a w' p'
room_alike b m n x y = rooms_meet b m n (omega arith)

-- ---- THE VERDICT
-- "A trace written from a successful start, of calls on its buffers that nobody else writes, always gives `ok`", where every number that was passed fits 64 bits, as C's do
pub written_ok : (z : Sizes) {w p w₁ p₁ w' p' : List ℕ} {xs : List Line} → Meets (start z) w p (plain 0) w₁ p₁ → (s : Story w₁ p₁ xs w' p') →
    Small (start_args (length w) (length p) z) → Fitted s → verdict (encode (length w) (length p) (start z) (plain 0) ++ written s) ≡ ok (suc (length xs))
written_ok = trace_ok

-- "and `ok` means that each answer is the rules' answer": each verdict says just what `Means` says of the bytes, and is given wherever that holds
pub verdict_means : (bs : List ℕ) (v : Verdict) → Bytes bs → (verdict bs ≡ v) ↔ Means bs v
verdict_means = verdict_exactly

-- ---- THE REPLAY
-- what fg_replay does with a record on two buffers is what the definition of the verdict says of what stands in them
pub step_right : (first : Bool) (w p r : List ℕ) (b : Bool) (w' p' : List ℕ) → Bench first w p → Replayed (asked r) first w p r b w' p' → Comes (judged (standing first w p) r) b w' p'
step_right = replayed_comes

-- no second judgement and no second pair of buffers meets its promise
pub step-once : (w p r : List ℕ) {b b₂ : Bool} {w' p' w₂ p₂ : List ℕ} (first : Bool) → Replayed (asked r) first w p r b w' p' → Replayed (asked r) first w p r b₂ w₂ p₂ → (b ≡ b₂) × (w' ≡ w₂) × (p' ≡ p₂)
step-once w p r first = replayed_once w p r (asked r) first

-- an input of any length, however it is cut into pieces for the judge, gets the verdict on the whole of it, in the memory of the bench and one piece
pub pieces_right : (w p : List ℕ) (pieces : List (List ℕ)) (v : Verdict) → Bench true w p → Run 0 w p [] pieces v → v ≡ verdict (joined pieces)
pieces_right = run-verdict
