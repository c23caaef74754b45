-- What is left of an input between two pieces, and the verdict on all of it.
use Rattle.std.proofs.Common.{Result, Ok, Err, OnOk, ℕ, zero, suc, ◌≡◌, ◌+◌, ◌<◌, ◌≤◌, Bool, true, false, cond, eqb, List, [], ◌∷◌, ◌++◌, None, Some, Option, refl, sym, ap, ◌∙◌, subst, length, take, drop, arith, tests, append-nil, length-append}
use Rattle.std.proofs.lemmas.Bool.{ne_eqb}
use Rattle.std.proofs.lemmas.List.{nil_from_length}
use Rattle.records.specs.Bytes.{Bytes, of_le}
use Rattle.trace.specs.Verdict.{Stand, Taken, Verdict, ends, extent_of, goes_on, judge, judged, verdict, verdict_from}
use Rattle.trace.specs.Verdict.Verdict.{bad, cut, ok}
use Rattle.trace.proofs.StepLaws.{from_cut, from_none}
use Rattle.std.specs.Io.KnownBytes.{Appends, IsAtEnd}
use Rattle.judge.specs.declared.feed.Fed.{Fed}
use Rattle.judge.specs.declared.feed.WrongRecord.{WrongRecord}
use Rattle.judge.specs.Feeding.{Going, Stopped, standing, unfinished}
use Rattle.judge.specs.Replayed.{is_first}
use Rattle.replay.specs.Said.{ReadsOn, Tells, end_of, line_of}

-- ---- the number of a verdict lies between the number of the first record and that of the bytes
abbrev pub number : Verdict → ℕ
number (ok n) = n
number (bad n) = n
number (cut n) = n

abbrev Within : (n m : ℕ) → Verdict → Type 0
Within n m v = (n ≤ number v) × (number v ≤ n + m)

within-next : (n m : ℕ) (v : Verdict) → Within (suc n) m v → Within n (suc m) v
within-next n m v h = (omega arith, omega arith)

within-goes : (n m : ℕ) (t : Taken) (f : Stand → Verdict) → ((s : Stand) → Within (suc n) m (f s)) → Within n (suc m) (goes_on t f (bad n))
within-goes n m Taken.stop f h = (omega arith, omega arith)
within-goes n m (Taken.go s) f h = within-next n m (f s) (h s)

within-cond : (n m : ℕ) (b : Bool) (u v : Verdict) → Within n m u → Within n m v → Within n m (cond b u v)
within-cond n m true u v p q = p
within-cond n m false u v p q = q

within : (m n : ℕ) (s : Stand) (bs : List ℕ) → Within n m (judge m n s bs)
unfolding judge
within zero n s bs = (omega arith, omega arith)
within (suc m) n s bs =
    within-cond n (suc m) (eqb (length bs) 0) _ _ (omega arith, omega arith)
    (within-cond n (suc m) (ends bs) _ _ (omega arith, omega arith)
    (within-goes n m (judged s (take (extent_of bs) bs)) _ (λ t. within m (suc n) t (drop (extent_of bs) bs))))

-- ---- what is in hand of an unfinished record is shorter than a record can be
of_le-two : (bs : List ℕ) → Bytes bs → of_le (take 2 bs) < 65536
of_le-two [] h = omega arith
of_le-two (x ∷ []) h = let a = h 0 in omega arith
of_le-two (x ∷ y ∷ bs) h = let a = h 0 in let b = h 1 in omega arith

pub unfinished-short : (bs : List ℕ) → Bytes bs → unfinished bs ≡ true → length bs < 65538
unfinished-short bs h u = let a = of_le-two bs h in grind (arith, tests)

-- ---- between two pieces
-- where the bytes of the input are known, so are those that are left; the verdict on all of them is that on what is in hand and what is left, from record n on;
-- and no piece was empty
pub record Follows (bs : List ℕ) (rest : List ℕ) (n pieces : ℕ) (w p hand : List ℕ) : Type 0 where
  pub same : verdict bs ≡ verdict_from n (standing (is_first n) w p) (hand ++ rest)
  pub count : pieces + length rest ≤ length bs

abbrev pub FollowsOn : (o m : Option (List ℕ)) (n pieces : ℕ) (w p hand : List ℕ) → Type 0
FollowsOn None m n pieces w p hand = Unit {0}
FollowsOn (Some bs) None n pieces w p hand = ⊥
FollowsOn (Some bs) (Some rest) n pieces w p hand = Follows bs rest n pieces w p hand

-- before anything is read
pub follows-first : (o : Option (List ℕ)) (w p buf : List ℕ) → FollowsOn o o 0 0 w p (take 0 buf)
follows-first None w p buf = tt
follows-first (Some bs) w p buf = record { same = refl; count = omega arith }

-- a piece that is not empty was read
read-more : (hand hand' rest rest' : List ℕ) → hand ++ rest ≡ hand' ++ rest' → length hand < length hand' → 1 + length rest' ≤ length rest
read-more hand hand' rest rest' e h =
    let l = ap length e in
    let a = length-append hand rest in
    let b = length-append hand' rest' in
    omega arith

pub follows-read : (o m m' : Option (List ℕ)) (n pieces : ℕ) (w p hand hand' : List ℕ) → FollowsOn o m n pieces w p hand → ReadsOn m m' hand hand' →
    length hand < length hand' → FollowsOn o m' n (pieces + 1) w p hand'
follows-read None m m' n pieces w p hand hand' f r h = tt
follows-read (Some bs) None m' n pieces w p hand hand' f r h = absurd f
follows-read (Some bs) (Some rest) None n pieces w p hand hand' f r h = absurd r
follows-read (Some bs) (Some rest) (Some rest') n pieces w p hand hand' f r h =
    let less = read-more hand hand' rest rest' r h in
    let c = f.count in
    record { same = f.same ∙ ap (verdict_from n (standing (is_first n) w p)) r; count = omega arith }

-- the records of a piece were right
pub follows-fed : (o m : Option (List ℕ)) (n pieces : ℕ) (w p hand : List ℕ) (f : Fed) (w' p' : List ℕ) → FollowsOn o m n pieces w p hand →
    Going n w p hand f w' p' → FollowsOn o m f.count pieces w' p' (drop f.used hand)
follows-fed None m n pieces w p hand f w' p' h g = tt
follows-fed (Some bs) None n pieces w p hand f w' p' h g = absurd h
follows-fed (Some bs) (Some rest) n pieces w p hand f w' p' h g = record { same = h.same ∙ g.same rest; count = h.count }

-- ---- what the verdict is then
-- there are no more records than bytes
pub follows-few : (bs rest : List ℕ) (n pieces : ℕ) (w p hand : List ℕ) → Follows bs rest n pieces w p hand → n ≤ length bs
follows-few bs rest n pieces w p hand f =
    let high = (within (length bs) 0 Stand.before bs).1 in
    let low = (within (length (hand ++ rest)) n (standing (is_first n) w p) (hand ++ rest)).0 in
    let e = ap number f.same in
    omega arith

-- a record was not right
pub follows-stopped : (bs rest : List ℕ) (n pieces : ℕ) (w p hand : List ℕ) (e : WrongRecord) → Follows bs rest n pieces w p hand → Stopped n w p hand e → verdict bs ≡ bad e.0
follows-stopped bs rest n pieces w p hand e h s = h.same ∙ s rest

-- the input has ended
ends-left : (l : List ℕ) → (length l ≡ 0 → ⊥) → unfinished l ≡ true → ends l ≡ true
ends-left l n u = rw (ne_eqb (length l) 0 n) at u

ended-verdict : (n : ℕ) (s : Stand) (hand : List ℕ) → unfinished hand ≡ true → verdict_from n s hand ≡ end_of (length hand) n
ended-verdict n s [] u = from_none n s [] refl
ended-verdict n s (b ∷ hand) u =
    let some : length (b ∷ hand) ≡ 0 → ⊥ = λ e. omega arith in
    from_cut n s (b ∷ hand) some (ends-left (b ∷ hand) some u) ∙ rw (ne_eqb (length (b ∷ hand)) 0 some) refl

pub follows-ended : (bs rest : List ℕ) (n pieces : ℕ) (w p hand : List ℕ) → Follows bs rest n pieces w p hand → rest ≡ [] → unfinished hand ≡ true → verdict bs ≡ end_of (length hand) n
follows-ended bs rest n pieces w p hand f e u =
    f.same ∙ ap (λ l. verdict_from n (standing (is_first n) w p) (hand ++ l)) e ∙ ap (verdict_from n (standing (is_first n) w p)) (append-nil hand)
    ∙ ended-verdict n (standing (is_first n) w p) hand u

-- ---- what was written
pub OnOk-map : {X E : Type 0} (r : Result X E) {P Q : Type 0} → (P → Q) → OnOk r P → OnOk r Q
OnOk-map (Ok x) f h = f h
OnOk-map (Err e) f h = h

pub tells-stopped : (o m out out' : Option (List ℕ)) (n pieces : ℕ) (w p hand : List ℕ) (e : WrongRecord) → FollowsOn o m n pieces w p hand → Stopped n w p hand e →
    Appends out out' (line_of (bad e.0)) → Tells o out out'
tells-stopped None m out out' n pieces w p hand f h s a = tt
tells-stopped (Some bs) None out out' n pieces w p hand f h s a = absurd h
tells-stopped (Some bs) (Some rest) out out' n pieces w p hand f h s a = λ few. subst (λ v. Appends out out' (line_of v)) (sym (follows-stopped bs rest n pieces w p hand f h s)) a

-- nothing came, and there was room
same-hand : (hand hand' rest : List ℕ) → length hand ≡ length hand' → hand ++ rest ≡ hand' ++ [] → rest ≡ []
same-hand hand hand' rest e h =
    let a = ap length h in
    let b = length-append hand rest in
    let c = length-append hand' [] in
    nil_from_length rest (omega arith)

pub tells-ended : (o m m' out out' : Option (List ℕ)) (n pieces : ℕ) (w p hand hand' : List ℕ) → FollowsOn o m n pieces w p hand → ReadsOn m m' hand hand' → IsAtEnd m' →
    length hand ≡ length hand' → unfinished hand ≡ true → Appends out out' (line_of (end_of (length hand) n)) → Tells o out out'
tells-ended None m m' out out' n pieces w p hand hand' f r e l u a = tt
tells-ended (Some bs) None m' out out' n pieces w p hand hand' f r e l u a = absurd f
tells-ended (Some bs) (Some rest) None out out' n pieces w p hand hand' f r e l u a = absurd r
tells-ended (Some bs) (Some rest) (Some rest') out out' n pieces w p hand hand' f r e l u a =
    λ few. subst (λ v. Appends out out' (line_of v)) (sym (follows-ended bs rest n pieces w p hand f (same-hand hand hand' rest l (r ∙ ap (λ x. hand' ++ x) e)) u)) a

-- no input has so many records, or so many pieces
pub tells-many : (o m out out' : Option (List ℕ)) (n pieces : ℕ) (w p hand : List ℕ) → FollowsOn o m n pieces w p hand → 9000000000000000000 < n → Tells o out out'
tells-many None m out out' n pieces w p hand f h = tt
tells-many (Some bs) None out out' n pieces w p hand f h = absurd f
tells-many (Some bs) (Some rest) out out' n pieces w p hand f h = λ few. let l = follows-few bs rest n pieces w p hand f in absurd (omega arith)

pub tells-over : (o m out out' : Option (List ℕ)) (n pieces : ℕ) (w p hand : List ℕ) → FollowsOn o m n pieces w p hand → 9000000000000000000 ≤ pieces → Tells o out out'
tells-over None m out out' n pieces w p hand f h = tt
tells-over (Some bs) None out out' n pieces w p hand f h = absurd f
tells-over (Some bs) (Some rest) out out' n pieces w p hand f h = λ few. let l = f.count in absurd (omega arith)

pub Bytes-take : (n : ℕ) (xs : List ℕ) → Bytes xs → Bytes (take n xs)
Bytes-take zero xs h i = omega arith
Bytes-take (suc n) [] h i = h i
Bytes-take (suc n) (x ∷ xs) h zero = h 0
Bytes-take (suc n) (x ∷ xs) h (suc i) = Bytes-take n xs (λ j. h (suc j)) i
