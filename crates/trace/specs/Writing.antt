-- The trace of a story: the record of each line, with the lengths that the buffers have there.
use Rattle.std.specs.Prelude.{ℕ, ◌≡◌, List, [], ◌++◌, length}
use Rattle.ledger.specs.Call.{Call, Line, Op}
use Rattle.ledger.specs.Call.Call.{start, op}
use Rattle.tables.specs.declared.Caps.{Caps}
use Rattle.tables.specs.State.{State}
use Rattle.rules.specs.Run.{step}
use Rattle.rules.specs.Story.{Story}
use Rattle.trace.specs.Codec.{Note, Small}
use Rattle.trace.specs.Kinds.{AllSigned, encode, note_of, opening, signs_of, start_args}
use Rattle.trace.specs.Verdict.{Ending, Stand, Traced, Verdict, left}
use Rattle.trace.specs.Verdict.Stand.{before}

-- a line of the rules, taken apart as its record has it: the call, and the answer of its rule
abbrev pub done : Op → Caps → State → Note
done o k s = note_of 0 0 (op o) (step o k s).ans

-- the records of a story's lines, one after the other
unfoldable pub written : {w p w' p' : List ℕ} {xs : List Line} → Story w p xs w' p' → List ℕ
written Story.over = []
written (Story.then {w} {p} {x = x} m s) = encode (length w) (length p) x.call x.answer ++ written s

-- ---- what a C caller can pass
-- the numbers that are passed: to a start the lengths of both buffers and the six capacities; the length of a payload, and of a lent slice; a signed number as two's complement
abbrev pub passed : ℕ → ℕ → Call → List ℕ
passed w p (start z) = start_args w p z
passed w p (op o) = (opening o).numbers

-- every number that is passed fits 64 bits, as C's do
pub record Passes (w p : ℕ) (c : Call) : Type 0 where
  pub small : Small (passed w p c)
  pub signs : AllSigned (signs_of c)

-- in every line of a story
unfoldable pub Fitted : {w p w' p' : List ℕ} {xs : List Line} → Story w p xs w' p' → Type 0
Fitted Story.over = record {}
Fitted (Story.then {w} {p} {x = x} m s) = Passes (length w) (length p) x.call × Fitted s

-- in every line that some bytes are the records of
unfoldable pub Fitting : {b : Stand} {bs : List ℕ} {n : ℕ} → Traced b bs n → Type 0
Fitting Traced.over = record {}
Fitting (Traced.started w p z q t) = Passes w p (start z) × Fitting t
Fitting (Traced.refused w p z q t) = Passes w p (start z) × Fitting t
Fitting (Traced.called o t) = Passes 0 0 (op o) × Fitting t

-- ---- WHAT A VERDICT SAYS of the input: as many records as it counts, the first a start that was done, each answer the rules', every number of 64 bits; and what is left then
pub record Means (bs : List ℕ) (v : Verdict) : Type 0 where
  pub count : ℕ
  pub front : List ℕ
  pub rest : List ℕ
  pub is : bs ≡ front ++ rest
  pub traced : Traced before front count
  pub fitting : Fitting traced
  pub ending : Ending (left traced) rest count v
