-- Two lists of tests that say the same: those of the tables and those of the reckoning.
use mathlib.Core.Path.{◌≡◌, refl, sym, ◌∙◌}
use mathlib.Core.Bool.{true, false}
use mathlib.Core.List.{List, [], ◌∷◌}
use Rattle.ledger.specs.Call.{Test, first_yes}
use Rattle.pools.proofs.BoolLaws.{split}

-- each test says what the other's does and gives the same reason, where those before it say no
abbrev pub SameTests : List Test → List Test → Type 0
SameTests [] [] = record {}
SameTests [] (u ∷ us) = ⊥
SameTests (t ∷ ts) [] = ⊥
SameTests (t ∷ ts) (u ∷ us) = (t.says ≡ u.says) × (t.why ≡ u.why) × (t.says ≡ false → SameTests ts us)

-- THE LAW: the first of both that says yes gives the same number
pub same_first : (ts us : List Test) → SameTests ts us → first_yes ts ≡ first_yes us
same_first [] [] h = refl
same_first [] (u ∷ us) h = absurd h
same_first (t ∷ ts) [] h = absurd h
same_first (t ∷ ts) (u ∷ us) h =
    split t.says
    (λ q. let p : u.says ≡ true = sym h.0 ∙ q in rw (q, p, h.1))
    (λ q. let p : u.says ≡ false = sym h.0 ∙ q in rw (q, p) (same_first ts us (h.2 q)))
