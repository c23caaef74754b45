-- Header and length of a message, by ranges of the header's number.
use Prim.Native.Nat.{ℕ, ◌≤◌}
use native.Mathlib.Omega.{arith}
use mathlib.Core.Path.{◌≡◌, refl, sym}
use mathlib.Core.Bool.{Bool, true, false, ◌&&◌, ◌||◌}
use lib.Dec.{eqb}
use borrow.Author.Tests.{eqb-true, eqb-false, eq-eqb}
use Rattle.pools.proofs.BoolLaws.{split, and_left, and_right, and_true}
use Rattle.records.specs.Header.{class_of}
use Rattle.records.specs.Records.{EXIT-BYTES, TICK-BYTES}
use Rattle.tables.specs.Limits.{ANY-TAG}
use Rattle.rules.specs.Rule.{Rule, both, test, Holds}
use Rattle.rules.specs.Sound.{header_rule, length_rule}
use Rattle.rules.proofs.Kept.Rules.{same_test}

or-first : (a b : Bool) → a ≡ true → a || b ≡ true
or-first a b e = rw e

or_second : (a b : Bool) → b ≡ true → a || b ≡ true
or_second true b e = refl
or_second false b e = e

or_cases : {P : Type 0} (a b : Bool) → a || b ≡ true → (a ≡ true → P) → (b ≡ true → P) → P
or_cases true b e f g = f refl
or_cases false b e f g = g e

abbrev headed_rule : ℕ → ℕ → Rule
headed_rule h n = both (header_rule h) (length_rule (class_of h) n)

tick-holds : (h n : ℕ) → h ≡ 939524096 → n ≡ TICK-BYTES → Holds (headed_rule h n)
tick-holds h n e f = ((λ z. absurd (omega arith), λ d. ((omega arith, omega arith), (omega arith, omega arith))), (omega arith, (λ z. f, λ z. absurd (omega arith))))

exit_holds : (h n : ℕ) → h ≡ 1207959552 → n ≡ EXIT-BYTES → Holds (headed_rule h n)
exit_holds h n e f = ((λ z. absurd (omega arith), λ d. ((omega arith, omega arith), (omega arith, omega arith))), (omega arith, (λ z. absurd (omega arith), λ z. f)))

-- anything else: a tick or an exit notice
pub record-test : (h n : ℕ) → ANY-TAG ≤ h → eqb h 939524096 && eqb n TICK-BYTES || eqb h 1207959552 && eqb n EXIT-BYTES ≡ test (headed_rule h n)
record-test h n l =
    let x = eqb h 939524096 && eqb n TICK-BYTES in let y = eqb h 1207959552 && eqb n EXIT-BYTES in
    sym (same_test (headed_rule h n) (x || y)
    (λ ((plain, notice), (_, (tick, exit))). split (eqb (class_of h) 0)
    (λ t. let z = eqb-true (class_of h) 0 t in absurd (omega (arith, (plain z).0, (plain z).1)))
    (λ t. let ((least, most), (mark, tag)) = notice (eqb-false (class_of h) 0 t) in
    split (eqb (class_of h) 3)
    (λ u. let z = eqb-true (class_of h) 3 u in
    or-first x y (and_true (eqb h 939524096) (eqb n TICK-BYTES) (eq-eqb h 939524096 (omega (arith, mark, tag))) (eq-eqb n TICK-BYTES (tick z))))
    (λ u. let d = eqb-false (class_of h) 3 u in let z : class_of h ≡ 4 = omega (arith, d, least, most) in
    or_second x y (and_true (eqb h 1207959552) (eqb n EXIT-BYTES) (eq-eqb h 1207959552 (omega (arith, z, mark, tag))) (eq-eqb n EXIT-BYTES (exit z))))))
    (λ t. or_cases x y t
    (λ u. tick-holds h n (eqb-true h 939524096 (and_left (eqb h 939524096) (eqb n TICK-BYTES) u)) (eqb-true n TICK-BYTES (and_right (eqb h 939524096) (eqb n TICK-BYTES) u)))
    (λ u. exit_holds h n (eqb-true h 1207959552 (and_left (eqb h 1207959552) (eqb n EXIT-BYTES) u)) (eqb-true n EXIT-BYTES (and_right (eqb h 1207959552) (eqb n EXIT-BYTES) u)))))
