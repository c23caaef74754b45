-- The verdict one record at a time, without its count of steps.
use Prim.Native.Nat.{ℕ, zero, suc, ◌+◌, ◌-◌, ◌≤◌}
use mathlib.Core.Path.{◌≡◌, refl, sym, ap, ◌∙◌}
use mathlib.Core.Bool.{true, false}
use mathlib.Core.List.{List, ◌++◌}
use native.Mathlib.Omega.{arith}
use lib.ListN.{length, take, drop, length-append, length-drop}
use lib.Seq.{drop_at, take-append-le, take_at}
use lib.Dec.{eqb, ltb}
use borrow.Author.Tests.{eq-eqb, le-ltb, ne_eqb}
use Rattle.pools.proofs.BoolLaws.{split}
use Rattle.records.specs.Bytes.{of_le}
use Rattle.trace.specs.Verdict.{Stand, Taken, Verdict, ends, extent_of, goes_on, judge, judged, verdict_from}
use Rattle.trace.specs.Verdict.Taken.{stop, go}
use Rattle.trace.specs.Verdict.Verdict.{ok, bad, cut}

goes_same : (x : Taken) (f g : Stand → Verdict) (v : Verdict) → ((t : Stand) → f t ≡ g t) → goes_on x f v ≡ goes_on x g v
goes_same stop f g v e = refl
goes_same (go t) f g v e = e t

-- ---- steps enough are steps enough
any_fuel : (i m n : ℕ) (b : Stand) (bs : List ℕ) → length bs ≤ i → length bs ≤ m → judge i n b bs ≡ judge m n b bs
unfolding judge
any_fuel zero zero n b bs h g = refl
any_fuel zero (suc m) n b bs h g = rw (eq-eqb (length bs) 0 (omega arith))
any_fuel (suc i) zero n b bs h g = rw (eq-eqb (length bs) 0 (omega arith))
any_fuel (suc i) (suc m) n b bs h g =
    let d : length (drop (extent_of bs) bs) ≡ length bs - extent_of bs = length-drop (extent_of bs) bs in
    split (eqb (length bs) 0) (λ q. rw q)
    (λ q. split (ends bs) (λ p. rw (q, p))
    (λ p. rw (q, p) (goes_same (judged b (take (extent_of bs) bs)) (λ t. judge i (suc n) t (drop (extent_of bs) bs)) (λ t. judge m (suc n) t (drop (extent_of bs) bs)) (bad n)
    (λ t. any_fuel i m (suc n) t (drop (extent_of bs) bs) (omega arith) (omega arith)))))

pub judge_fuel : (m n : ℕ) (b : Stand) (bs : List ℕ) → length bs ≤ m → judge m n b bs ≡ judge (length bs) n b bs
judge_fuel m n b bs h = any_fuel m (length bs) n b bs h (omega arith)

-- ---- the three ways that it goes
-- no more input: every record was right
pub from_none : (n : ℕ) (b : Stand) (bs : List ℕ) → length bs ≡ 0 → verdict_from n b bs ≡ ok n
unfolding judge
from_none n b bs h = rw h

-- the input ends inside a record, whatever that record is
pub from_cut : (n : ℕ) (b : Stand) (bs : List ℕ) → (length bs ≡ 0 → ⊥) → ends bs ≡ true → verdict_from n b bs ≡ cut n
unfolding judge
from_cut n b bs h e = sym (judge_fuel (suc (length bs)) n b bs (omega arith)) ∙ rw (ne_eqb (length bs) 0 h, e)

-- the first record is whole: it is judged, and the rest after it
pub from_next : (n : ℕ) (b : Stand) (bs : List ℕ) → (length bs ≡ 0 → ⊥) → ends bs ≡ false →
    verdict_from n b bs ≡ goes_on (judged b (take (extent_of bs) bs)) (λ t. verdict_from (suc n) t (drop (extent_of bs) bs)) (bad n)
unfolding judge
from_next n b bs h e =
    let d : length (drop (extent_of bs) bs) ≡ length bs - extent_of bs = length-drop (extent_of bs) bs in
    sym (judge_fuel (suc (length bs)) n b bs (omega arith))
    ∙ rw (ne_eqb (length bs) 0 h, e)
    (goes_same (judged b (take (extent_of bs) bs)) (λ t. judge (length bs) (suc n) t (drop (extent_of bs) bs)) (λ t. verdict_from (suc n) t (drop (extent_of bs) bs)) (bad n)
    (λ t. judge_fuel (length bs) (suc n) t (drop (extent_of bs) bs) (omega arith)))

-- so is one that says its own length, in front of any others
pub from-whole : (n : ℕ) (b : Stand) (r rest : List ℕ) → 2 ≤ length r → 2 + of_le (take 2 r) ≡ length r →
    verdict_from n b (r ++ rest) ≡ goes_on (judged b r) (λ t. verdict_from (suc n) t rest) (bad n)
from-whole n b r rest h e =
    let l : length (r ++ rest) ≡ length r + length rest = length-append r rest in
    let x : extent_of (r ++ rest) ≡ length r = ap (λ (y : List ℕ). 2 + of_le y) (take-append-le 2 r rest h) ∙ e in
    let y₁ : ltb (length (r ++ rest)) 2 ≡ false = le-ltb (length (r ++ rest)) 2 (omega arith) in
    let y₂ : ltb (length (r ++ rest)) (extent_of (r ++ rest)) ≡ false = le-ltb (length (r ++ rest)) (extent_of (r ++ rest)) (omega arith) in
    from_next n b (r ++ rest) (λ q. omega arith) (rw (y₁, y₂)) ∙ rw (x, take_at r rest (length r) refl, drop_at r rest (length r) refl)
