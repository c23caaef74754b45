-- What `ok` means.
use Prim.Native.Nat.{ℕ, zero, suc, ◌+◌, ◌-◌, ◌≤◌}
use mathlib.Core.Path.{◌≡◌, refl, sym, ap, subst, ◌∙◌}
use mathlib.Core.Bool.{true, false}
use mathlib.Core.List.{List, [], ◌∷◌, ◌++◌, append_assoc, append-nil}
use native.Mathlib.Omega.{arith}
use lib.ListN.{length, take, drop, length-drop, take-append-drop}
use lib.Dec.{eqb}
use borrow.Author.Tests.{eqb-true, eqb-false, eq-eqb}
use Rattle.ledger.specs.Call.Answer.{plain}
use Rattle.ledger.specs.Call.Call.{start, op}
use Rattle.pools.proofs.BoolLaws.{and_left, and_right, split}
use Rattle.records.specs.Bytes.{Bytes}
use Rattle.records.proofs.ByteLaws.{bytes_drop, bytes_take}
use Rattle.rules.specs.Run.{step}
use Rattle.rules.specs.Story.{caps_from}
use Rattle.rules.specs.Trim.{newly}
use Rattle.trace.specs.Kinds.{Asked, asked, encode}
use Rattle.trace.specs.Kinds.Asked.{unknown, begins, asks}
use Rattle.trace.specs.Verdict.{Ending, Said, Stand, Taken, Traced, Verdict, begun, can_begin, ends, extent_of, goes_on, left, matched, right_one, same, judged, unbegun, verdict, verdict_from}
use Rattle.trace.specs.Verdict.Said.{wrong, right}
use Rattle.trace.specs.Verdict.Stand.{before, stands}
use Rattle.trace.specs.Verdict.Taken.{stop, go}
use Rattle.trace.specs.Verdict.Verdict.{ok, bad, cut}
use Rattle.trace.specs.Writing.{Fitting, Means}
use Rattle.trace.proofs.Inverse.{Passed, asked_passes}
use Rattle.trace.proofs.StepLaws.{from_cut, from_next, from_none}

-- ---- the comparison
pub same_true : (a b : List ℕ) → same a b ≡ true → a ≡ b
same_true [] [] e = refl
same_true [] (y ∷ ys) e = cc
same_true (x ∷ xs) [] e = cc
same_true (x ∷ xs) (y ∷ ys) e = let p = eqb-true x y (and_left (eqb x y) (same xs ys) e) in let q = same_true xs ys (and_right (eqb x y) (same xs ys) e) in cc

pub same_refl : (a : List ℕ) → same a a ≡ true
same_refl [] = refl
same_refl (x ∷ xs) = rw (eq-eqb x x refl) (same_refl xs)

-- ---- one record
not_right : {r : List ℕ} {t : Stand} {A : Type 0} → wrong ≡ right r t → A
not_right e = absurd (let z : ◌≡◌ {A = ℕ} 0 1 = cc in omega arith)

-- the bytes are the records of n lines, after which u stands; and where A is so, every number that was passed fits 64 bits
record Lines (A : Type 0) (u b : Stand) (bs : List ℕ) (n : ℕ) : Type 0 where
  traced : Traced b bs n
  fitting : A → Fitting traced
  leaves : left traced ≡ u

-- what is said to be right is a line of the rules
said-line : (A : Type 0) (u : Stand) (c : Asked) (b : Stand) (r bs : List ℕ) (t : Stand) (n : ℕ) → (A → Passed c) → right_one c b ≡ right r t → Lines A u t bs n → Lines A u b (r ++ bs) (suc n)
unfolding right_one Fitting left
said-line A u unknown b r bs t n h e x = not_right e
said-line A u (asks o) before r bs t n h e x = not_right e
said-line A u (asks o) (stands k s) r bs t n h e x =
    let p : encode 0 0 (op o) (step o k s).ans ≡ r = cc in
    let q : stands k (step o k s).state ≡ t = cc in
    let y : Lines A u (stands k (step o k s).state) bs n = rw q x in
    rw (← p) (record { traced = Traced.called o y.traced; fitting = λ a. (h a, y.fitting a); leaves = y.leaves })
said-line A u (begins w p z) b r bs t n h e x = split (can_begin (caps_from z) w p) (λ q. done q (was_done b q e)) (λ q. not_done b q e)
  where
    was_done : (b : Stand) → can_begin (caps_from z) w p ≡ true → right_one (begins w p z) b ≡ right r t → begun w p z ≡ right r t
    was_done before q f = rw q at f
    was_done (stands k s) q f = rw q at f

    done : can_begin (caps_from z) w p ≡ true → begun w p z ≡ right r t → Lines A u b (r ++ bs) (suc n)
    done q f =
        let i : encode w p (start z) (plain 0) ≡ r = cc in
        let j : stands (caps_from z) (newly (caps_from z)) ≡ t = cc in
        let y : Lines A u (stands (caps_from z) (newly (caps_from z))) bs n = rw j x in
        rw (← i) (record { traced = Traced.started w p z q y.traced; fitting = λ a. (h a, y.fitting a); leaves = y.leaves })

    not_done : (b : Stand) → can_begin (caps_from z) w p ≡ false → right_one (begins w p z) b ≡ right r t → Lines A u b (r ++ bs) (suc n)
    not_done before q f = not_right (rw q at f)
    not_done (stands k s) q f =
        let g : unbegun w p z (stands k s) ≡ right r t = rw q at f in
        let i : encode w p (start z) (plain 1) ≡ r = cc in
        let j : stands k s ≡ t = cc in
        let y : Lines A u (stands k s) bs n = rw j x in
        rw (← i) (record { traced = Traced.refused w p z q y.traced; fitting = λ a. (h a, y.fitting a); leaves = y.leaves })

-- a record that was taken is, byte for byte, what is said to be right
matched_go : (x : Said) (r : List ℕ) (t : Stand) → matched x r ≡ go t → x ≡ right r t
matched_go wrong r t e = absurd (let z : ◌≡◌ {A = ℕ} 0 1 = cc in omega arith)
matched_go (right b u) r t e =
    split (same b r)
    (λ q. let f : go u ≡ go t = rw q at e in let g : u ≡ t = cc in let h = same_true b r q in cc)
    (λ q. let f : stop ≡ go t = rw q at e in absurd (let z : ◌≡◌ {A = ℕ} 0 1 = cc in omega arith))

taken-line : (A : Type 0) (u b : Stand) (r bs : List ℕ) (t : Stand) (n : ℕ) → (A → Bytes r) → judged b r ≡ go t → Lines A u t bs n → Lines A u b (r ++ bs) (suc n)
taken-line A u b r bs t n h e x = said-line A u (asked r) b r bs t n (λ a. asked_passes r (h a)) (matched_go (right_one (asked r) b) r t e) x

-- ---- all of them
-- from record i on: lines of the rules, and then what the verdict says
record Read (A : Type 0) (i : ℕ) (b : Stand) (bs : List ℕ) (v : Verdict) : Type 0 where
  count : ℕ
  front : List ℕ
  rest : List ℕ
  after : Stand
  is : bs ≡ front ++ rest
  lines : Lines A after b front count
  ending : Ending after rest (i + count) v

-- no more of them
halts : (A : Type 0) (i : ℕ) (b : Stand) (bs : List ℕ) (v : Verdict) → Ending b bs i v → Read A i b bs v
unfolding Fitting left
halts A i b bs v e =
    let z : i ≡ i + 0 = omega arith in
    record { count = 0; front = []; rest = bs; after = b; is = refl; lines = record { traced = Traced.over; fitting = λ a. record {}; leaves = refl }; ending = subst (λ (j : ℕ). Ending b bs j v) z e }

-- one more
more : (A : Type 0) (i : ℕ) (b : Stand) (r bs : List ℕ) (t : Stand) (v : Verdict) → (A → Bytes r) → judged b r ≡ go t → Read A (suc i) t bs v → Read A i b (r ++ bs) v
more A i b r bs t v h e x =
    let z : suc i + x.count ≡ i + suc x.count = omega arith in
    record {
      count = suc x.count;
      front = r ++ x.front;
      rest = x.rest;
      after = x.after;
      is = ap (λ (l : List ℕ). r ++ l) x.is ∙ sym (append_assoc r x.front x.rest);
      lines = taken-line A x.after b r x.front t x.count h e x.lines;
      ending = subst (λ (j : ℕ). Ending x.after x.rest j v) z x.ending;
    }

-- the next record is whole: it is right or it is not
next : (A : Type 0) (i : ℕ) (b : Stand) (bs : List ℕ) → (length bs ≡ 0 → ⊥) → ends bs ≡ false → (A → Bytes bs) → (x : Taken) → judged b (take (extent_of bs) bs) ≡ x →
    ((t : Stand) → Read A (suc i) t (drop (extent_of bs) bs) (verdict_from (suc i) t (drop (extent_of bs) bs))) →
    Read A i b bs (goes_on x (λ t. verdict_from (suc i) t (drop (extent_of bs) bs)) (bad i))
next A i b bs u p a stop e f = halts A i b bs (bad i) (Ending.amiss u p e)
next A i b bs u p a (go t) e f =
    let n = extent_of bs in
    subst (λ (l : List ℕ). Read A i b l (verdict_from (suc i) t (drop n bs))) (take-append-drop n bs)
    (more A i b (take n bs) (drop n bs) t (verdict_from (suc i) t (drop n bs)) (λ c. bytes_take n bs (a c)) e (f t))

no_more : (A : Type 0) (i : ℕ) (b : Stand) (bs : List ℕ) → length bs ≡ 0 → Read A i b bs (verdict_from i b bs)
no_more A i b bs h = subst (Read A i b bs) (sym (from_none i b bs h)) (halts A i b bs (ok i) (Ending.all h))

one-read : (A : Type 0) (i : ℕ) (b : Stand) (bs : List ℕ) → (A → Bytes bs) → ((t : Stand) → Read A (suc i) t (drop (extent_of bs) bs) (verdict_from (suc i) t (drop (extent_of bs) bs))) → Read A i b bs (verdict_from i b bs)
one-read A i b bs a f =
    split (eqb (length bs) 0) (λ q. no_more A i b bs (eqb-true (length bs) 0 q))
    (λ q. let u = eqb-false (length bs) 0 q in
    split (ends bs)
    (λ p. subst (Read A i b bs) (sym (from_cut i b bs u p)) (halts A i b bs (cut i) (Ending.inside u p)))
    (λ p. subst (Read A i b bs) (sym (from_next i b bs u p)) (next A i b bs u p a (judged b (take (extent_of bs) bs)) refl f)))

shorter : (m : ℕ) (bs : List ℕ) → length bs ≤ suc m → length (drop (extent_of bs) bs) ≤ m
shorter m bs h = let d : length (drop (extent_of bs) bs) ≡ length bs - extent_of bs = length-drop (extent_of bs) bs in omega arith

all_read : (A : Type 0) (m i : ℕ) (b : Stand) (bs : List ℕ) → length bs ≤ m → (A → Bytes bs) → Read A i b bs (verdict_from i b bs)
all_read A zero i b bs h a = no_more A i b bs (omega arith)
all_read A (suc m) i b bs h a = one-read A i b bs a (λ t. all_read A m (suc i) t (drop (extent_of bs) bs) (shorter m bs h) (λ c. bytes_drop (extent_of bs) bs (a c)))

-- EVERY VERDICT MEANS what it says
pub verdict_means : (bs : List ℕ) → Bytes bs → Means bs (verdict bs)
verdict_means bs b =
    let x = all_read (Bytes bs) (length bs) 0 before bs (omega arith) (λ a. a) in
    let l = x.lines in
    let z : 0 + x.count ≡ x.count = omega arith in
    record { count = x.count; front = x.front; rest = x.rest; is = x.is; traced = l.traced; fitting = l.fitting b; ending = rw (l.leaves, ← z) x.ending }

-- ---- `ok`
ends_ok : {b : Stand} {rest : List ℕ} {n j : ℕ} {v : Verdict} → Ending b rest n v → v ≡ ok j → (rest ≡ []) × (n ≡ j)
ends_ok {rest = []} {n} {j} (Ending.all h) e = (refl, cc)
ends_ok {rest = x ∷ xs} (Ending.all h) e = absurd (omega arith)
ends_ok {n = n} {j} (Ending.inside h p) e = absurd (let z : ◌≡◌ {A = ℕ} 0 1 = cc in omega arith)
ends_ok {n = n} {j} (Ending.amiss h p q) e = absurd (let z : ◌≡◌ {A = ℕ} 0 1 = cc in omega arith)

all_ok : (A : Type 0) (bs : List ℕ) (n : ℕ) → (A → Bytes bs) → verdict bs ≡ ok n → (t : Traced before bs n) × (A → Fitting t)
all_ok A bs n a e =
    let x = all_read A (length bs) 0 before bs (omega arith) a in
    let g = ends_ok x.ending e in
    let i : x.front ≡ bs = sym (append-nil x.front) ∙ ap (λ (l : List ℕ). x.front ++ l) (sym g.0) ∙ sym x.is in
    let j : x.count ≡ n = omega (arith, g.1) in
    subst (λ (l : List ℕ). (t : Traced before l n) × (A → Fitting t)) i (subst (λ (k : ℕ). (t : Traced before x.front k) × (A → Fitting t)) j (x.lines.traced, x.lines.fitting))

-- `ok` MEANS that the bytes are the records of n lines, the first a start that was done, and each answer the rules'
pub ok_means : (bs : List ℕ) (n : ℕ) → verdict bs ≡ ok n → Traced before bs n
ok_means bs n e = (all_ok ⊥ bs n (λ a. absurd a) e).0

-- and of bytes, that every number that was passed fits 64 bits
pub ok_fits : (bs : List ℕ) (n : ℕ) → Bytes bs → verdict bs ≡ ok n → (t : Traced before bs n) × Fitting t
ok_fits bs n b e = let l = all_ok (Bytes bs) bs n (λ a. a) e in (l.0, l.1 b)
