-- Refusals, for any list of tests: what is so of each, and what holds of each refusal and of the work holds of the whole.
use Prim.Native.Nat.{ℕ}
use mathlib.Core.Path.{◌≡◌, refl, sym, ap, ◌∙◌}
use mathlib.Core.Bool.{Bool, true, false, ◌||◌}
use mathlib.Core.List.{List, [], ◌∷◌, ◌++◌, map}
use lib.Dec.{eqb}
use borrow.Author.Tests.{eq-eqb, ne_eqb}
use Rattle.ledger.specs.Call.{Found, Test, Why, code, first_yes, found, refuses}
use Rattle.ledger.specs.Call.Found.{all, nothing, waits}
use Rattle.ledger.specs.Call.Why.{malformed, full, unknown, moment}
use Rattle.pools.proofs.BoolLaws.{split, true_false}
use Rattle.tables.specs.declared.Caps.{Caps}
use Rattle.tables.specs.State.{State}
use Rattle.rules.specs.Calls.{Entry, Out, guarded, out, refusal, ruled}

-- ---- numbers
-- THE LAW of reasons: the number of each is that of a refusal, and not 7; nothing else is asked of them one by one
pub why_refuses : (y : Why) → (refuses (code y) ≡ true) × (eqb (code y) 7 ≡ false)
why_refuses malformed = (refl, refl)
why_refuses full = (refl, refl)
why_refuses unknown = (refl, refl)
why_refuses moment = (refl, refl)

-- what a call found is no refusal
pub found_well : (f : Found) → refuses (found f) ≡ false
found_well all = refl
found_well nothing = refl
found_well waits = refl

-- so no number says both
pub why_found : (y : Why) (f : Found) → eqb (code y) (found f) ≡ false
why_found y f = ne_eqb (code y) (found f) (λ e. true_false (refuses (code y)) (why_refuses y).0 (ap refuses e ∙ found_well f))

-- n is one of the list
abbrev pub one_of : List ℕ → ℕ → Bool
one_of [] n = false
one_of (m ∷ ms) n = eqb n m || one_of ms n

-- no test says yes
abbrev pub Passed : List Test → Type 0
Passed [] = record {}
Passed (t ∷ ts) = (t.says ≡ false) × Passed ts

-- that the first, second, third and fourth of them does not
pub first-passed : {A B : Type 0} → A × B → A
first-passed p = p.0

pub second_passed : {A B C : Type 0} → A × (B × C) → B
second_passed p = p.1.0

pub third_passed : {A B C D : Type 0} → A × (B × (C × D)) → C
third_passed p = p.1.1.0

pub fourth_passed : {A B C D E : Type 0} → A × (B × (C × (D × E))) → D
fourth_passed p = p.1.1.1.0

module _ {A : Type 0} (refusal : ℕ → A) (s : State) (work : Out A) where
  -- THE LAW: what holds of every refusal, and of the work where no test says yes, holds of the whole
  pub guarded-all : (P : Out A → Type 0) (ts : List Test) → ((y : Why) → P (out (refusal (code y)) s)) → (Passed ts → P work) → P (guarded refusal ts s work)
  guarded-all P [] f g = g (record {})
  guarded-all P (t ∷ ts) f g = split t.says (λ q. rw q (f t.why)) (λ q. rw q (guarded-all P ts f (λ r. g (q, r))))

  -- where no test says yes it is the work
  pub passed_work : (ts : List Test) → Passed ts → guarded refusal ts s work ≡ work
  passed_work [] p = refl
  passed_work (t ∷ ts) p = rw p.0 (passed_work ts p.1)

  -- where the first that says yes is y, it is that refusal, and nothing changed
  pub guarded_yes : (y : Why) (ts : List Test) → first_yes ts ≡ code y → guarded refusal ts s work ≡ out (refusal (code y)) s
  guarded_yes y [] e = true_false (eqb (code y) 0) (eq-eqb (code y) 0 (sym e)) (why_found y all)
  guarded_yes y (t ∷ ts) e =
      split t.says
      (λ q. let z : code t.why ≡ code y = rw q at e in rw (q, z))
      (λ q. rw q (guarded_yes y ts (rw q at e)))

  module _ (heard : A → ℕ) where
    -- the number that is heard is one of the tests' or of the work's
    pub guarded-numbers : (ts : List Test) (ns : List ℕ) → one_of ns (heard work.ans) ≡ true →
        one_of (map (λ (t : Test). heard (refusal (code t.why))) ts ++ ns) (heard (guarded refusal ts s work).ans) ≡ true
    guarded-numbers [] ns h = h
    guarded-numbers (t ∷ ts) ns h =
        split t.says
        (λ q. rw (q, eq-eqb (heard (refusal (code t.why))) (heard (refusal (code t.why))) refl))
        (λ q. rw q (later (eqb (heard (guarded refusal ts s work).ans) (heard (refusal (code t.why)))) _ (guarded-numbers ts ns h)))
      where
        later : (a b : Bool) → b ≡ true → a || b ≡ true
        later true b e = refl
        later false b e = e

    -- a number that the work never answers is heard only where the first that says yes gives it
    pub guarded-heard : (n : ℕ) (ts : List Test) → ((m : ℕ) → heard (refusal m) ≡ m) → (heard work.ans ≡ n → ⊥) → heard (guarded refusal ts s work).ans ≡ n → first_yes ts ≡ n
    guarded-heard n [] h w e = absurd (w e)
    guarded-heard n (t ∷ ts) h w e =
        split t.says
        (λ q. rw q (sym (h (code t.why)) ∙ rw q at e))
        (λ q. rw q (guarded-heard n ts h w (rw q at e)))

-- a call whose work leaves the state as it was leaves it so
pub ruled-still : (e : Entry) → ((k : Caps) (s : State) → (e.work k s).state ≡ s) → (k : Caps) (s : State) → (ruled e k s).state ≡ s
unfolding ruled
ruled-still e h k s = guarded-all (refusal e.shape) s (e.work k s) (λ x. x.state ≡ s) (e.tests k s) (λ y. refl) (λ p. h k s)
