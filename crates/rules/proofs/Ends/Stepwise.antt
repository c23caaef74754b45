-- The steps of an end one at a time: what is left to do after each, and what is bare. No law here names a step.
use Prim.Native.Nat.{ℕ, zero, suc, ◌+◌, ◌<◌}
use native.Mathlib.Omega.{arith}
use native.Mathlib.Numerals.{add-one}
use mathlib.Core.Path.{◌≡◌, refl, ap, subst, ◌∙◌}
use mathlib.Core.Bool.{true}
use mathlib.Core.List.{List, [], ◌∷◌}
use lib.ListN.{drop, get_or, length}
use Rattle.ledger.specs.Reckon.{Part}
use Rattle.tables.specs.declared.Caps.{Caps}
use Rattle.tables.specs.State.{State}
use Rattle.rules.specs.Calls.{Step, Told, steps, through, told}
use Rattle.rules.proofs.Frames.Wrote.{within}
use Rattle.rules.proofs.Ends.Laws.{laws}
use Rattle.rules.proofs.Ends.Steps.{Bared, Gone, Laws, ◌then◌, done, in_first, in_order, next, step_on}
use Rattle.rules.proofs.Lists.Each.{all-within}
use Rattle.rules.specs.Good.{Ending}

-- ---- of any list of steps
-- the i-th; past the last nothing is done
abbrev pub nth : List Step → ℕ → Step
nth xs i = get_or xs i (through [])

-- what one leaves and then another, with the notices of both
abbrev pub both : Told → Told → Told
both t u = told (t.sent + u.sent) (t.lost + u.lost) u.state

-- the columns that are bare once the first i are done, where these are bare before
abbrev pub bare_after : {xs : List Step} {ps : List Part} → ℕ → Laws xs ps → List ℕ → List ℕ
bare_after zero ws cs = cs
bare_after (suc i) done cs = cs
bare_after (suc i) (◌then◌ w ws) cs = bare_after i ws (next w cs)

module _ (k : Caps) (a me reason : ℕ) where
  -- those from the i-th on are the i-th, and those after it
  through-nth : (xs : List Step) (i : ℕ) (s : State) →
      let t = nth xs i k a me reason s in through (drop i xs) k a me reason s ≡ both t (through (drop (suc i) xs) k a me reason t.state)
  through-nth [] zero s = refl
  through-nth [] (suc i) s = refl
  through-nth (x ∷ xs) zero s = refl
  through-nth (x ∷ xs) (suc i) s = through-nth xs i s

  -- the i-th leaves the actor alive, and more bare
  bare-nth : {xs : List Step} {ps : List Part} (ws : Laws xs ps) (i : ℕ) (cs : List ℕ) (s : State) → in_order ws cs ≡ true → i < length xs →
      Ending k a me s → Bared (bare_after i ws cs) a s →
      Ending k a me (nth xs i k a me reason s).state × Bared (bare_after (suc i) ws cs) a (nth xs i k a me reason s).state
  bare-nth done i cs s o l e b = absurd (omega arith)
  bare-nth (◌then◌ w ws) zero cs s o l e b = let n = in_first w ws cs o in step_on w k a me reason s cs n.0 n.1 e b
  bare-nth (◌then◌ w ws) (suc i) cs s o l e b = bare-nth ws i (next w cs) s (in_first w ws cs o).2 (omega arith) e b

-- ---- of the steps of an end
-- how many there are
abbrev pub STEPS : ℕ
STEPS = length steps

-- the i-th
unfoldable pub step_at : ℕ → Step
step_at i = nth steps i

-- those from the i-th on
unfoldable pub onward : ℕ → Step
onward i = through (drop i steps)

-- a sound state in which the actor of slot a, with the id me, is alive, and bare is what the first i steps of its end leave bare
pub record Midway (k : Caps) (a me i : ℕ) (s : State) : Type 0 where
  pub ending : Ending k a me s
  pub bare : Bared (bare_after i laws []) a s

-- the i-th, by its number in the list
pub step_is : (i j : ℕ) → i ≡ j → step_at i ≡ nth steps j
unfolding step_at
step_is i j e = ap (nth steps) e

-- what the i-th needs bare is bare
pub midway_bare : {k : Caps} {a me : ℕ} {s : State} (cs : List ℕ) (i j : ℕ) → i ≡ j → within cs (bare_after j laws []) ≡ true → Midway k a me i s → Bared cs a s
midway_bare {a = a} {s = s} cs i j e n m =
    all-within (λ c. Gone c a (s c)) cs (bare_after j laws []) n (subst (λ (i : ℕ). Bared (bare_after i laws []) a s) e m.bare)

module _ (k : Caps) (a me reason : ℕ) (s : State) where
  -- all of them are to do
  pub onward-all : onward 0 k a me reason s ≡ through steps k a me reason s
  unfolding onward
  onward-all = refl

  -- none is
  pub onward_none : onward STEPS k a me reason s ≡ told 0 0 s
  unfolding onward
  onward_none = refl

  -- the i-th is next
  pub onward-next : (i : ℕ) → onward i k a me reason s ≡ both (step_at i k a me reason s) (onward (i + 1) k a me reason (step_at i k a me reason s).state)
  unfolding onward step_at
  onward-next i = rw (add-one i) (through-nth k a me reason steps i s)

  -- before the first nothing need be bare
  pub midway_none : Ending k a me s → Midway k a me 0 s
  midway_none e = record { ending = e; bare = tt }

  -- one more is done
  pub midway_next : (i : ℕ) → i < STEPS → Midway k a me i s → Midway k a me (i + 1) (step_at i k a me reason s).state
  unfolding step_at
  midway_next i l m =
      let h = bare-nth k a me reason laws i [] s refl l m.ending m.bare in
      rw (add-one i) (record { ending = h.0; bare = h.1 })

-- ---- the notices of one step after the other
-- none so far
pub both_none : (s : State) (u : Told) → both (told 0 0 s) u ≡ u
both_none s u = let e : (x : ℕ) → 0 + x ≡ x = λ x. omega arith in rw (e u.sent, e u.lost)

-- those of a step, and those of the steps after it
both-more : (t u v : Told) → both t (both u v) ≡ both (both t u) v
both-more t u v =
    let e : (x y z : ℕ) → x + (y + z) ≡ x + y + z = λ x y z. omega arith in
    rw (e t.sent u.sent v.sent, e t.lost u.lost v.lost)

-- THE TURN: step i is done, and its notices are added to those so far
pub onward-turn : (k : Caps) (a me reason i : ℕ) (all t : Told) → all ≡ both t (onward i k a me reason t.state) →
    let u = step_at i k a me reason t.state in all ≡ both (both t u) (onward (i + 1) k a me reason u.state)
onward-turn k a me reason i all t e =
    let u = step_at i k a me reason t.state in
    e ∙ ap (both t) (onward-next k a me reason t.state i) ∙ both-more t u (onward (i + 1) k a me reason u.state)
