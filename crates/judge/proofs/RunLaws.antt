-- Reading an input piece by piece, in fixed memory, gives the verdict on the whole of it.
use Prim.Native.Nat.{ℕ}
use mathlib.Core.Path.{◌≡◌, refl, sym, ap, ◌∙◌}
use mathlib.Core.Bool.{true}
use mathlib.Core.List.{List, [], ◌++◌, append_assoc, append-nil}
use lib.ListN.{length}
use borrow.Author.Tests.{ne_eqb}
use Rattle.trace.specs.Verdict.{Verdict, ends, verdict, verdict_from}
use Rattle.trace.proofs.StepLaws.{from_cut, from_none}
use Rattle.judge.specs.Feeding.{Bench, Run, joined, standing, unfinished}
use Rattle.judge.specs.Replayed.{is_first}

-- what is left is no whole record
ends-left : (l : List ℕ) → (length l ≡ 0 → ⊥) → unfinished l ≡ true → ends l ≡ true
ends-left l n u = rw (ne_eqb (length l) 0 n) at u

run-from : {n : ℕ} {w p left : List ℕ} {pieces : List (List ℕ)} {v : Verdict} → Run n w p left pieces v → Bench (is_first n) w p → unfinished left ≡ true →
    v ≡ verdict_from n (standing (is_first n) w p) (left ++ joined pieces)
run-from {n} {w} {p} {left} (Run.whole e) h u = sym (from_none n (standing (is_first n) w p) (left ++ []) (ap length (append-nil left) ∙ e))
run-from {n} {w} {p} {left} (Run.inside e) h u =
    sym (ap (verdict_from n (standing (is_first n) w p)) (append-nil left) ∙ from_cut n (standing (is_first n) w p) left e (ends-left left e u))
run-from {n} {w} {p} {left} (Run.halts {piece = piece} {pieces = pieces} j) h u =
    sym (ap (verdict_from n (standing (is_first n) w p)) (sym (append_assoc left piece (joined pieces))) ∙ j.stopped (joined pieces))
run-from {n} {w} {p} {left} (Run.goes {piece = piece} {pieces = pieces} j r) h u =
    let g = j.going in
    run-from r g.bench g.left
    ∙ sym (g.same (joined pieces))
    ∙ ap (verdict_from n (standing (is_first n) w p)) (append_assoc left piece (joined pieces))

-- THE THEOREM: on a bench with room for every runtime there can be, whatever it held, and however the input is cut into pieces, what is said in the end is the verdict on the input
pub run-verdict : (w p : List ℕ) (pieces : List (List ℕ)) (v : Verdict) → Bench true w p → Run 0 w p [] pieces v → v ≡ verdict (joined pieces)
run-verdict w p pieces v h r = run-from r h refl
