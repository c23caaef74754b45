-- What the program writes of its input.
use Rattle.std.specs.Prelude.{ℕ, ◌≡◌, ◌<◌, List, [], ◌∷◌, ◌++◌, ⊤, None, Some, Option, cond, eqb, length, IfSome}
use Rattle.std.specs.Fmt.{decimal}
use Rattle.std.specs.Io.KnownBytes.{Appends}
use Rattle.trace.specs.Verdict.{Verdict, verdict}
use Rattle.trace.specs.Verdict.Verdict.{bad, cut, ok}
use Rattle.replay.specs.declared.Verdict.{Verdict as Spoken}
use Rattle.replay.specs.declared.Verdict.TheVariants.{Ok, Bad, Cut}

-- where the bytes that are left are known: those in hand and those that are left stay, together, the same
abbrev pub ReadsOn : (left left' : Option (List ℕ)) → (hand hand' : List ℕ) → Type 0
ReadsOn None left' hand hand' = ⊤
ReadsOn (Some xs) None hand hand' = ⊥
ReadsOn (Some xs) (Some ys) hand hand' = hand ++ xs ≡ hand' ++ ys

-- a word, a number, and the end of the line
abbrev pub line : List ℕ → ℕ → List ℕ
line word n = word ++ (decimal n ++ 10 ∷ [])

-- the line of a verdict: `ok N`, `bad N` or `cut N`
abbrev pub line_of : Verdict → List ℕ
line_of (ok n) = line (111 ∷ 107 ∷ 32 ∷ []) n
line_of (bad n) = line (98 ∷ 97 ∷ 100 ∷ 32 ∷ []) n
line_of (cut n) = line (99 ∷ 117 ∷ 116 ∷ 32 ∷ []) n

-- and without its end
abbrev pub told : Verdict → List ℕ
told (ok n) = (111 ∷ 107 ∷ 32 ∷ []) ++ decimal n
told (bad n) = (98 ∷ 97 ∷ 100 ∷ 32 ∷ []) ++ decimal n
told (cut n) = (99 ∷ 117 ∷ 116 ∷ 32 ∷ []) ++ decimal n

-- a verdict as the code has it
abbrev pub meant : Spoken → Verdict
meant (Ok n) = ok n
meant (Bad n) = bad n
meant (Cut n) = cut n

-- the input has ended after n right records, and so many bytes of the next one are left
abbrev pub end_of : (left n : ℕ) → Verdict
end_of left n = cond (eqb left 0) (ok n) (cut n)

-- where the bytes of the input are known, and what was written is: the line of the verdict on them was written, and nothing else
abbrev pub Tells : (input : Option (List ℕ)) → (out out' : Option (List ℕ)) → Type 0
Tells input out out' = IfSome input (λ bytes. length bytes < 9000000000000000000 → Appends out out' (line_of (verdict bytes)))
