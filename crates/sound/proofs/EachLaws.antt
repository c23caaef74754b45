-- Chains of iterators that test each number, and the rules that say the same.
use Prim.Native.Nat.{ℕ, zero, suc, ◌+◌, ◌-◌, ◌≤◌, ◌<◌}
use native.Mathlib.Omega.{arith}
use native.Mathlib.Decide.{dec_lt}
use mathlib.Core.Path.{◌≡◌, refl, sym, ap, subst, ◌∙◌}
use mathlib.Core.Bool.{Bool, true, false, not, ◌&&◌, ◌||◌}
use mathlib.Core.List.{List, [], ◌∷◌}
use denote.Param.Members.{Mut}
use lib.Bits.{bit_or}
use lib.Dec.{eqb, leb}
use lib.ListN.{get_or, length, take, drop, length-take, length-drop}
use lib.Seq.{get_or-take, get_or-drop}
use borrow.Author.Tests.{eq-eqb, eqb-true, le-leb, lt-leb}
use Rattle.std.proofs.iter.Yields.{nat_range_steps}
use Rattle.std.proofs.lemmas.Iterator.{cases_from_all, YieldsList-from_range}
use Rattle.std.proofs.lemmas.List.FromFn.{length-range_with_len, get_or-range_with_len}
use Rattle.std.specs.Bool.{MatchBool}
use Rattle.std.specs.Fn.{Called}
use Rattle.std.specs.Iterator.{YieldsThen}
use Rattle.std.specs.List.{AllWithin, FoldsTo, HoldsAt, range_with_len}
use Rattle.std.specs.Option.{MatchOption}
use Rattle.std.specs.Prelude.{fold}
use Rattle.std.specs.declared.ops.Range.{Range}
use Rattle.std.specs.declared.option.Option.{Option}
use Rattle.pools.proofs.BoolLaws.{true_false}
use Rattle.rules.specs.Rule.{is, imp, le, eq, each, test, all}
use Rattle.rules.proofs.Kept.Rules.{all_none, all-at, all_same, at_all, broken, same_test}
use Rattle.sound.proofs.JoinLaws.{or-test}

-- what a closure that tests each number answers, up to the first that fails
abbrev Answers : {A F S : Type 0} → (S → Option A → S → Type 0) → Mut F (A × Unit {0}) Bool → S → F → Bool → S → Type 0
Answers {A} {F} steps g s f r u =
    (xs : List A) × (o : Option A) × (j : F) × YieldsThen steps s xs o u × FoldsTo (λ q x q'. Called g q (x, tt) true q') f xs j
    × MatchOption o (r ≡ true) (λ x. (r ≡ false) × ((h : F) × Called g j (x, tt) false h))

-- ---- over a slice: by `cases_from_all` of std
pub told : {r : Bool} (p : ℕ → Bool) (xs : List ℕ) → MatchBool r (AllWithin (λ x. p x ≡ true) xs 0 (length xs)) ((k : ℕ) × (k < length xs) × HoldsAt (λ x. p x ≡ false) xs k) →
    r ≡ all (λ i. p (get_or xs i 0)) (length xs)
told {r = true} p xs h = sym (at_all (length xs) (λ i. p (get_or xs i 0)) (λ i l. h i 0 (omega arith) l))
told {r = false} p xs h = sym (broken (each (length xs) (λ i. is (p (get_or xs i 0)))) (λ q. true_false (p (get_or xs h.0 0)) (q h.0 h.1) (h.2 0)))

-- ---- over a range
ranged : {r : Bool} (p : ℕ → Bool) (m n : ℕ) → MatchBool r (AllWithin (λ x. p x ≡ true) (range_with_len m (n - m)) 0 (length (range_with_len m (n - m)))) ((k : ℕ) × (k < length (range_with_len m (n - m))) × HoldsAt (λ x. p x ≡ false) (range_with_len m (n - m)) k) →
    r ≡ test (each n (λ i. imp (le m i) (is (p i))))
ranged {r} p m n h = by r h
  where
    xs : List ℕ
    xs = range_with_len m (n - m)

    long : length xs ≡ n - m
    long = length-range_with_len m (n - m)

    by : (b : Bool) → MatchBool b (AllWithin (λ x. p x ≡ true) xs 0 (length xs)) ((k : ℕ) × (k < length xs) × HoldsAt (λ x. p x ≡ false) xs k) → b ≡ test (each n (λ i. imp (le m i) (is (p i))))
    by true a =
        sym (at_all n (λ i. not (leb m i) || p i) (λ i l. elim (dec_lt i m) [
          | yes k ↦ rw (lt-leb m i k)
          | no k ↦ let e : get_or xs (i - m) 0 ≡ i = omega (arith, get_or-range_with_len m (n - m) (i - m) 0 (omega arith)) in
              let t : p i ≡ true = subst (λ (x : ℕ). p x ≡ true) e (a (i - m) 0 (omega arith) (omega (arith, long))) in
              rw (le-leb m i (omega arith), t)
        ]))
    by false a =
        let e : get_or xs a.0 0 ≡ m + a.0 = get_or-range_with_len m (n - m) a.0 0 (omega (arith, long)) in
        sym (broken (each n (λ i. imp (le m i) (is (p i)))) (λ q. true_false (p (m + a.0)) (q (m + a.0) (omega (arith, a.1, long)) (omega arith)) (subst (λ (x : ℕ). p x ≡ false) e (a.2 0))))

pub all_of_range : {F : Type 0} {g : Mut F (ℕ × Unit {0}) Bool} {u : Range ℕ} {f : F} {r : Bool} (p : ℕ → Bool) (m n : ℕ) → Answers nat_range_steps g (record { start = m; end = n }) f r u →
    ((x : ℕ) (q : F) → Called g f (x, tt) true q → (q ≡ f) × (p x ≡ true)) → ((x : ℕ) (q : F) → Called g f (x, tt) false q → p x ≡ false) →
    r ≡ test (each n (λ i. imp (le m i) (is (p i))))
all_of_range {u = u} {f} {r} p m n d yes' no' =
    ranged p m n (cases_from_all u f r (λ x. p x ≡ true) (λ x. p x ≡ false) d (YieldsList-from_range m n (n - m) refl refl) yes' no')

-- from 0 on
pub all_below : {F : Type 0} {g : Mut F (ℕ × Unit {0}) Bool} {u : Range ℕ} {f : F} {r : Bool} (p : ℕ → Bool) (n : ℕ) → Answers nat_range_steps g (record { start = 0; end = n }) f r u →
    ((x : ℕ) (q : F) → Called g f (x, tt) true q → (q ≡ f) × (p x ≡ true)) → ((x : ℕ) (q : F) → Called g f (x, tt) false q → p x ≡ false) →
    r ≡ all p n
all_below {u = u} p n d yes' no' = all_of_range {u = u} p 0 n d yes' no' ∙ all_same n (λ i. not (leb 0 i) || p i) p (λ i l. rw (le-leb 0 i (omega arith)))

-- ---- folds of the words
and_turn : (a b c : Bool) → (a && b) && c ≡ a && (b && c)
and_turn true b c = refl
and_turn false b c = refl

and_none : (a : Bool) → a ≡ a && true
and_none true = refl
and_none false = refl

first_turn : (f : ℕ → Bool) (n : ℕ) → all f (suc n) ≡ f 0 && all (λ i. f (suc i)) n
unfolding all
first_turn f zero = and_none (f 0)
first_turn f (suc n) = ap (λ (x : Bool). x && f (suc n)) (first_turn f n) ∙ and_turn (f 0) (all (λ i. f (suc i)) n) (f (suc n))

-- where each is tested
fold_from : (p : ℕ → Bool) (xs : List ℕ) (a : Bool) → fold (λ b x. b && p x) a xs ≡ a && all (λ i. p (get_or xs i 0)) (length xs)
fold_from p [] a = and_none a ∙ ap (λ (x : Bool). a && x) (sym (all_none (λ i. p 0)))
fold_from p (x ∷ xs) a =
    fold_from p xs (a && p x) ∙ and_turn a (p x) (all (λ i. p (get_or xs i 0)) (length xs)) ∙ ap (λ (b : Bool). a && b) (sym (first_turn (λ i. p (get_or (x ∷ xs) i 0)) (length xs)))

pub fold_each : (p : ℕ → Bool) (xs : List ℕ) → fold (λ b x. b && p x) true xs ≡ all (λ i. p (get_or xs i 0)) (length xs)
fold_each p xs = fold_from p xs true

-- where they are joined by OR
or_fold : (xs : List ℕ) (a : ℕ) → eqb (fold bit_or a xs) 0 ≡ fold (λ b x. b && eqb x 0) (eqb a 0) xs
or_fold [] a = refl
or_fold (x ∷ xs) a = or_fold xs (bit_or a x) ∙ ap (λ (b : Bool). fold (λ b x. b && eqb x 0) b xs) (or-test a x)

-- that of the words from the m-th up to the n-th is 0 where each of them is
pub or_of_words : (s : List ℕ) (m n : ℕ) → m ≤ n → n ≤ length s → eqb (fold bit_or 0 (take (n - m) (drop m s))) 0 ≡ test (each n (λ i. imp (le m i) (eq (get_or s i 0) 0)))
or_of_words s m n a b =
    or_fold (take (n - m) (drop m s)) 0 ∙ fold_each (λ x. eqb x 0) (take (n - m) (drop m s))
    ∙ sym (same_test (each n (λ i. imp (le m i) (eq (get_or s i 0) 0))) (all (λ i. eqb (get_or part i 0) 0) (length part))
    (λ h. at_all (length part) (λ i. eqb (get_or part i 0) 0) (λ i l. eq-eqb _ 0 (word i (omega (arith, long)) ∙ h (m + i) (omega (arith, long)) (omega arith))))
    (λ t i l k. let e : m + (i - m) ≡ i = omega arith in
    rw (← e) (sym (word (i - m) (omega arith)) ∙ eqb-true _ 0 (all-at (length part) (λ i. eqb (get_or part i 0) 0) t (i - m) (omega (arith, long))))))
  where
    part : List ℕ
    part = take (n - m) (drop m s)

    long : length part ≡ n - m
    long = omega (arith, length-take (n - m) (drop m s), length-drop m s)

    word : (i : ℕ) → i < n - m → get_or part i 0 ≡ get_or s (m + i) 0
    word i l = get_or-take (n - m) (drop m s) i 0 l ∙ get_or-drop m s i 0

-- ---- the first m words
pub first_words : (p : ℕ → Bool) (s : List ℕ) (m : ℕ) → m ≤ length s → all (λ i. p (get_or (take m s) i 0)) (length (take m s)) ≡ all (λ i. p (get_or s i 0)) m
first_words p s m l =
    let e : length (take m s) ≡ m = omega (arith, length-take m s) in
    rw e (all_same m (λ i. p (get_or (take m s) i 0)) (λ i. p (get_or s i 0)) (λ i k. ap p (get_or-take m s i 0 k)))
