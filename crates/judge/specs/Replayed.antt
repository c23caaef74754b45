-- What a record of a trace does on two buffers, and whether it is right there. Every field is an equation, so nothing else meets it.
use Rattle.std.specs.Prelude.{ℕ, ◌≡◌, Bool, true, false, cond, not, ◌&&◌, List, eqb}
use Rattle.records.specs.Bytes.{field}
use Rattle.ledger.specs.Call.{Answer, Op, Sizes}
use Rattle.ledger.specs.Call.Answer.{plain}
use Rattle.ledger.specs.Call.Call.{start, op}
use Rattle.tables.specs.State.{join_p, join_w, view}
use Rattle.rules.specs.Host.{can_start, fresh}
use Rattle.rules.specs.Story.{Meets, caps_from}
use Rattle.trace.specs.Codec.{kind_of}
use Rattle.trace.specs.Kinds.{Asked, encode, length_right}
use Rattle.trace.specs.Kinds.Asked.{unknown, begins, asks}
use Rattle.trace.specs.Verdict.{can_begin, same}
use Rattle.judge.specs.declared.start.Wanted.{Wanted}

-- record 0 is the first
abbrev pub is_first : ℕ → Bool
is_first n = eqb n 0

-- some bytes are a record of this kind, and as long as the kind asks
pub record OfKind (kind : ℕ) (r : List ℕ) : Type 0 where
  pub right : length_right r ≡ true
  pub is : kind_of r ≡ kind

-- no call was made: the record is not right, and nothing has changed
pub record Unmoved (w p : List ℕ) (b : Bool) (w' p' : List ℕ) : Type 0 where
  pub is : b ≡ false
  pub words : w' ≡ w
  pub bytes : p' ≡ p

-- the call was made, and the record is right where it is that of the call and its answer
pub record Judged (o : Op) (w p r : List ℕ) (b : Bool) (w' p' : List ℕ) : Type 0 where
  pub ans : Answer
  pub called : Meets (op o) w p ans w' p'
  pub is : b ≡ same (encode 0 0 (op o) ans) r

-- ---- a start
-- it is done where the lengths that its record carries are enough, and the buffers here are too
abbrev pub done_on : ℕ → ℕ → Sizes → (w p : List ℕ) → Bool
done_on words bytes z w p = can_begin (caps_from z) words bytes && can_start (caps_from z) w p

pub record Began (words bytes : ℕ) (z : Sizes) (w p : List ℕ) (v : ℕ) (w' p' : List ℕ) : Type 0 where
  pub ans : v ≡ cond (done_on words bytes z w p) 0 1
  pub table : w' ≡ cond (done_on words bytes z w p) (join_w (fresh (caps_from z) (view (caps_from z) w p))) w
  pub area : p' ≡ cond (done_on words bytes z w p) (join_p (fresh (caps_from z) (view (caps_from z) w p))) p

-- "a first record that isn't a successful start gives bad 0"
pub record Begun (words bytes : ℕ) (z : Sizes) (first : Bool) (w p r : List ℕ) (b : Bool) (w' p' : List ℕ) : Type 0 where
  pub no : ℕ
  pub began : Began words bytes z w p no w' p'
  pub is : b ≡ cond (first && not (eqb no 0)) false (same (encode words bytes (start z) (plain no)) r)

-- what the record of a start asks for
abbrev pub asks_for : List ℕ → Wanted
asks_for r = record {
  words = field 8 4 r;
  bytes = field 8 12 r;
  actors = field 8 20 r;
  mails = field 8 28 r;
  datas = field 8 36 r;
  links = field 8 44 r;
  monitors = field 8 52 r;
  timers = field 8 60 r;
}

abbrev pub sizes_of : Wanted → Sizes
sizes_of s = record { actors = s.actors; mails = s.mails; datas = s.datas; links = s.links; monitors = s.monitors; timers = s.timers }

-- ---- any record, the first of a trace or a later one
abbrev pub Replayed : Asked → Bool → (w p r : List ℕ) → Bool → (w' p' : List ℕ) → Type 0
Replayed unknown first w p r = Unmoved w p
Replayed (begins words bytes z) first w p r = Begun words bytes z first w p r
Replayed (asks o) true w p r = Unmoved w p
Replayed (asks o) false w p r = Judged o w p r
