-- One turn of the search for the earliest entry.
use Prim.Native.Nat.{ℕ, ◌+◌, ◌-◌, ◌≤◌, ◌<◌}
use mathlib.Core.Path.{◌≡◌, refl, sym, ◌∙◌}
use mathlib.Core.Bool.{Bool, true, false, ◌&&◌, ◌||◌}
use mathlib.Core.List.{List}
use native.Mathlib.Omega.{arith}
use lib.ListN.{get_or}
use lib.Dec.{eqb, ltb, leb}
use borrow.Author.Tests.{ne_eqb, le-ltb}
use Rattle.pools.proofs.BoolLaws.{split}
use Rattle.std.proofs.lemmas.Bool.Decides.{nat_tests}
use Rattle.std.specs.Prelude.{Option, Some, None}
use Rattle.rules.specs.Actions.{least}
use Rattle.actions.specs.Times.{due_in, earliest_in}
use Rattle.actions.proofs.ActionLaws.{least-next, least-same}

-- an entry one up, and 0 for none
abbrev pub one_up : Option ℕ → ℕ
one_up None = 0
one_up (Some b) = b + 1

-- it is below i
abbrev pub Below : ℕ → Option ℕ → Type 0
Below i None = Unit {0}
Below i (Some b) = b < i

-- entry i comes before the best so far
abbrev pub comes : List ℕ → ℕ → Option ℕ → Bool
comes time i None = true
comes time i (Some b) = ltb (get_or time i 0) (get_or time b 0)

-- the best is the earliest of the entries below i
pub record Noted (used time : List ℕ) (limit i : ℕ) (best : Option ℕ) : Type 0 where
  pub is : one_up best ≡ earliest_in used time limit i
  pub below : Below i best

-- before the first entry there is none
pub noted_none : (used time : List ℕ) (limit : ℕ) → Noted used time limit 0 None
unfolding least
noted_none used time limit = record { is = refl; below = tt }

-- the test of the code is that of the rule
comes_is : (time : List ℕ) (i l : ℕ) (best : Option ℕ) → one_up best ≡ l → (eqb l 0 || ltb (get_or time i 0) (get_or time (l - 1) 0)) ≡ comes time i best
comes_is time i l None e = rw (← e)
comes_is time i l (Some b) e =
    let z : eqb (b + 1) 0 ≡ false = ne_eqb (b + 1) 0 (λ q. omega arith) in
    let m : b + 1 - 1 ≡ b = omega arith in
    rw (← e, z, m)

-- what is below i is below the next
below_next : (i : ℕ) (best : Option ℕ) → Below i best → Below (i + 1) best
below_next i None h = tt
below_next i (Some b) h = omega arith

module _ {used time : List ℕ} {limit i : ℕ} {best : Option ℕ} (h : Noted used time limit i best) where
  -- a turn: the test of the code is that of the rule
  next : due_in used time limit i && comes time i best ≡ true → Noted used time limit (i + 1) (Some i)
  next q = record { is = sym (least-next (due_in used time limit) (λ j. get_or time j 0) i (rw (comes_is time i _ best h.is) q)); below = omega arith }

  same : due_in used time limit i && comes time i best ≡ false → Noted used time limit (i + 1) best
  same q = record { is = h.is ∙ sym (least-same (due_in used time limit) (λ j. get_or time j 0) i (rw (comes_is time i _ best h.is) q)); below = below_next i best h.below }

  -- nobody uses entry i
  pub noted_unused : get_or used i 0 ≡ 0 → Noted used time limit (i + 1) best
  noted_unused e = same (rw e)

  -- its time is past the limit
  pub noted_late : limit < get_or time i 0 → Noted used time limit (i + 1) best
  noted_late l =
      let q : leb (get_or time i 0) limit ≡ false = grind (arith, nat_tests) in
      same (split (eqb (get_or used i 0) 0) (λ e. rw e) (λ e. rw (e, q)))

  -- the best comes before it
  pub noted_stays : (b : ℕ) → best ≡ Some b → get_or time b 0 ≤ get_or time i 0 → Noted used time limit (i + 1) (Some b)
  noted_stays b e l =
      let q : ltb (get_or time i 0) (get_or time b 0) ≡ false = le-ltb _ _ l in
      let c : comes time i best ≡ false = rw (e, q) in
      let z = same (split (due_in used time limit i) (λ d. rw (d, c)) (λ d. rw d)) in
      rw e at z

  -- it comes before the best
  pub noted_first : (get_or used i 0 ≡ 0 → ⊥) → get_or time i 0 ≤ limit → comes time i best ≡ true → Noted used time limit (i + 1) (Some i)
  noted_first u l c =
      let e : eqb (get_or used i 0) 0 ≡ false = ne_eqb _ _ u in
      let q : leb (get_or time i 0) limit ≡ true = grind (arith, nat_tests) in
      next (rw (e, q, c))
