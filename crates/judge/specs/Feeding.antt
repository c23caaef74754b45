-- A trace judged piece by piece: what stands in two buffers between two records, and what a piece of the trace comes to.
use Rattle.std.specs.Prelude.{ℕ, ◌*◌, ◌≤◌, ◌≡◌, Bool, true, false, cond, ◌||◌, List, [], ◌∷◌, ◌++◌, drop, length, eqb, Result, Ok, Err, IfOk, IfErr}
use Rattle.tables.specs.Limits.{ENTRY-BYTES, MOST-DATAS, WORDS-MOST}
use Rattle.tables.specs.State.{caps_of}
use Rattle.rules.specs.Rule.{Holds}
use Rattle.rules.specs.Sound.{sound_rule, view_of}
use Rattle.rules.specs.Trim.{trim}
use Rattle.trace.specs.Verdict.{Stand, Taken, Verdict, ends, verdict_from}
use Rattle.trace.specs.Verdict.Stand.{before, stands}
use Rattle.trace.specs.Verdict.Taken.{go, stop}
use Rattle.trace.specs.Verdict.Verdict.{bad, cut, ok}
use Rattle.judge.specs.declared.feed.Fed.{Fed}
use Rattle.judge.specs.declared.feed.WrongRecord.{WrongRecord}
use Rattle.judge.specs.Replayed.{is_first}

-- ---- between two records
-- before the first, nothing; else the runtime that the buffers hold, without what lies past the needed words and bytes
abbrev pub standing : (first : Bool) → (w p : List ℕ) → Stand
standing first w p = cond first before (stands (caps_of w) (trim (view_of w p)))

-- there is room for the largest runtime, and, but before the first record, the buffers are sound
pub record Bench (first : Bool) (w p : List ℕ) : Type 0 where
  pub words : WORDS-MOST ≤ length w
  pub bytes : ENTRY-BYTES * MOST-DATAS ≤ length p
  pub sound : first ≡ false → Holds (sound_rule w p)

-- what comes of a record that was judged, beside what the definition takes it for: it is right, and what stands after it stands in the buffers; or it is not
pub record Comes (t : Taken) (b : Bool) (w' p' : List ℕ) : Type 0 where
  pub right : b ≡ true → (t ≡ go (standing false w' p')) × Bench false w' p'
  pub wrong : b ≡ false → t ≡ stop

-- ---- a piece of a trace, from record n on
-- what is left of it: nothing, or the beginning of a record
abbrev pub unfinished : List ℕ → Bool
unfinished bs = eqb (length bs) 0 || ends bs

-- so much of it was used, with all records in it right: whatever follows it, the verdict is that on what is left, from there on
pub record Going (n : ℕ) (w p bs : List ℕ) (f : Fed) (w' p' : List ℕ) : Type 0 where
  pub part : f.used ≤ length bs
  pub left : unfinished (drop f.used bs) ≡ true
  pub bench : Bench (is_first f.count) w' p'
  pub same : (rest : List ℕ) → verdict_from n (standing (is_first n) w p) (bs ++ rest) ≡ verdict_from f.count (standing (is_first f.count) w' p') (drop f.used bs ++ rest)

-- or a record in it is not right: whatever follows it, the verdict is `bad` at that record
abbrev pub Stopped : ℕ → (w p bs : List ℕ) → WrongRecord → Type 0
Stopped n w p bs e = (rest : List ℕ) → verdict_from n (standing (is_first n) w p) (bs ++ rest) ≡ bad e.0

pub record Judges (n : ℕ) (w p bs : List ℕ) (r : Result Fed WrongRecord) (w' p' : List ℕ) : Type 0 where
  pub going : IfOk r (λ f. Going n w p bs f w' p')
  pub stopped : IfErr r (λ e. Stopped n w p bs e)

-- ---- an input of any length, read piece by piece, as the program does: each piece is given to the judge behind what was left of the ones before
pub data Run : (n : ℕ) (w p left : List ℕ) (pieces : List (List ℕ)) → Verdict → Type 0 where
  -- the input has ended
  whole : {n : ℕ} {w p left : List ℕ} → length left ≡ 0 → Run n w p left [] (ok n)
  inside : {n : ℕ} {w p left : List ℕ} → (length left ≡ 0 → ⊥) → Run n w p left [] (cut n)
  -- a record is wrong
  halts : {n : ℕ} {w p left piece : List ℕ} {pieces : List (List ℕ)} {e : WrongRecord} {w' p' : List ℕ} → Judges n w p (left ++ piece) (Err e) w' p' → Run n w p left (piece ∷ pieces) (bad e.0)
  -- none is, and what is not used is left
  goes : {n : ℕ} {w p left piece : List ℕ} {pieces : List (List ℕ)} {f : Fed} {w' p' : List ℕ} {v : Verdict} → Judges n w p (left ++ piece) (Ok f) w' p' →
      Run f.count w' p' (drop f.used (left ++ piece)) pieces v → Run n w p left (piece ∷ pieces) v

-- all pieces, one after the other
abbrev pub joined : List (List ℕ) → List ℕ
joined [] = []
joined (b ∷ bs) = b ++ joined bs
