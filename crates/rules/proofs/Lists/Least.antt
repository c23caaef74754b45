-- The least of the numbers that pass, and the soonest of the reckoning's timers.
use Prim.Native.Nat.{ℕ, zero, suc, ◌+◌, ◌-◌, ◌≤◌, ◌<◌}
use native.Mathlib.Decide.{ℕ_discrete}
use native.Mathlib.Omega.{arith}
use mathlib.Core.Path.{◌≡◌, refl, sym, ap, ◌∙◌}
use mathlib.Core.Bool.{Bool, true, false, ◌&&◌, ◌||◌}
use mathlib.Core.List.{List, [], ◌∷◌}
use mir.Val.{bool_byte}
use lib.Dec.{eqb, ltb}
use borrow.Author.Tests.{eqb-true, eqb-false, eq-eqb, ltb-true, ltb-false, lt-ltb, le-ltb}
use Rattle.ledger.specs.Lists.{first}
use Rattle.pools.specs.Pool.{occurs}
use Rattle.pools.proofs.BoolLaws.{split, true_false, and_left, and_right, neither}
use Rattle.rules.specs.Actions.{least}

-- ---- "by due time, equal ones by lower slot"
-- entry j with the time x comes before entry b with the time y
abbrev pub before : ℕ → ℕ → ℕ → ℕ → Bool
before x y j b = ltb x y || (eqb x y && ltb j b)

module _ (x y j b : ℕ) where
  -- it does not where its time is no earlier, and at one time its slot no lower
  pub before_no : y ≤ x → (x ≡ y → b ≤ j) → before x y j b ≡ false
  before_no h t =
      rw (le-ltb x y h) (split (eqb x y) (λ q. rw (q, le-ltb j b (t (eqb-true x y q)))) (λ q. rw q))

  -- and then its time is no earlier
  pub no_before : before x y j b ≡ false → y ≤ x
  no_before e = split (ltb x y) (λ q. true_false true refl (rw q at e)) (λ q. ltb-false x y q)

  -- of two different ones that does not come before, the other does
  pub other-before : (j ≡ b → ⊥) → before x y j b ≡ false → before y x b j ≡ true
  other-before d e =
      let h = no_before e in
      split (ltb y x) (λ q. rw q)
      (λ q. let z : y ≡ x = omega (arith, ltb-false y x q) in
      let w : b ≤ j = ltb-false j b (rw (eq-eqb x y (sym z)) at (neither (ltb x y) (eqb x y && ltb j b) e).1) in
      rw (q, eq-eqb y x z, lt-ltb b j (omega arith)))

-- ---- the least
pub record Least (f : ℕ → Bool) (g : ℕ → ℕ) (n b : ℕ) : Type 0 where
  pub none : b ≡ 0 → (j : ℕ) → j < n → f j ≡ false
  pub within : b ≤ n
  pub passes : (b ≡ 0 → ⊥) → f (b - 1) ≡ true
  pub first : (b ≡ 0 → ⊥) → (j : ℕ) → j < n → f j ≡ true → before (g j) (g (b - 1)) j (b - 1) ≡ false

module _ (f : ℕ → Bool) (g : ℕ → ℕ) (n : ℕ) where
  -- the last is the least
  last_is : (b : ℕ) → Least f g n b → f n && (eqb b 0 || ltb (g n) (g (b - 1))) ≡ true → Least f g (suc n) (suc n)
  last_is b h q =
      let p = and_left (f n) (eqb b 0 || ltb (g n) (g (b - 1))) q in
      let r = and_right (f n) (eqb b 0 || ltb (g n) (g (b - 1))) q in
      let e : suc n - 1 ≡ n = omega arith in
      record {
        none = λ z. absurd (omega arith);
        within = omega arith;
        passes = λ z. rw e p;
        first = λ z j l t. rw e (elim (ℕ_discrete j n) [
          | yes y ↦ before_no (g j) (g n) j n (rw y (omega arith)) (λ w. omega arith)
          | no y ↦ split (eqb b 0)
              (λ v. true_false (f j) t (h.none (eqb-true b 0 v) j (omega arith)))
              (λ v. let m = ltb-true (g n) (g (b - 1)) (rw v at r) in
              let o = no_before (g j) (g (b - 1)) j (b - 1) (h.first (eqb-false b 0 v) j (omega arith) t) in
              before_no (g j) (g n) j n (omega arith) (λ w. omega arith))
        ]);
      }

  -- the least of those before it still is
  same_is : (b : ℕ) → Least f g n b → f n && (eqb b 0 || ltb (g n) (g (b - 1))) ≡ false → Least f g (suc n) b
  same_is b h q = record {
    none = λ z j l. elim (ℕ_discrete j n) [
      | yes y ↦ split (f j) (λ t. true_false true refl (rw (sym (ap f y) ∙ t, eq-eqb b 0 z) at q)) (λ t. t)
      | no y ↦ h.none z j (omega arith)
    ];
    within = omega (arith, h.within);
    passes = h.passes;
    first = λ z j l t. elim (ℕ_discrete j n) [
      | yes y ↦
          let m : g (b - 1) ≤ g n = ltb-false (g n) (g (b - 1)) (let r : eqb b 0 || ltb (g n) (g (b - 1)) ≡ false = rw (sym (ap f y) ∙ t) at q in (neither (eqb b 0) (ltb (g n) (g (b - 1))) r).1) in
          rw y (before_no (g n) (g (b - 1)) n (b - 1) m (λ w. omega (arith, h.within)))
      | no y ↦ h.first z j (omega arith) t
    ];
  }

-- THE LAW of the least
pub least_is : (f : ℕ → Bool) (g : ℕ → ℕ) (n : ℕ) → Least f g n (least f g n)
unfolding least
least_is f g zero = record { none = λ z j l. absurd (omega arith); within = omega arith; passes = λ z. absurd (z refl); first = λ z j l t. absurd (z refl) }
least_is f g (suc n) =
    let h = least_is f g n in
    split (f n && (eqb (least f g n) 0 || ltb (g n) (g (least f g n - 1))))
    (λ q. rw q (last_is f g n (least f g n) h q))
    (λ q. rw q (same_is f g n (least f g n) h q))

-- ---- the first that passes
-- tests that agree on what stands in a list find the same first
pub first-same_on : (p q : ℕ → Bool) (es : List ℕ) → ((e : ℕ) → 0 < occurs e es → p e ≡ q e) → first p es ≡ first q es
unfolding first occurs
first-same_on p q [] h = refl
first-same_on p q (x ∷ es) h =
    let here : 0 < bool_byte (eqb x x) + occurs x es = rw (eq-eqb x x refl) (omega arith) in
    rw (h x here, first-same_on p q es (λ e o. h e (omega arith)))

-- none passes
pub first_none : (es : List ℕ) → first (λ e. false) es ≡ []
unfolding first
first_none [] = refl
first_none (x ∷ es) = first_none es

-- b stands in the list
pub first_one : (b : ℕ) (es : List ℕ) → 0 < occurs b es → first (λ e. eqb e b) es ≡ b ∷ []
unfolding first occurs
first_one b [] o = absurd (omega arith)
first_one b (x ∷ es) o =
    split (eqb x b) (λ q. rw (q, eqb-true x b q)) (λ q. rw q (first_one b es (let r : 0 < bool_byte false + occurs b es = rw q at o in omega arith)))
