-- Waits, and how long it is until the earliest of some times.
use Prim.Native.Nat.{ℕ, zero, suc, ◌≤◌, ◌<◌}
use mathlib.Core.Path.{◌≡◌, refl, ap}
use mathlib.Core.Bool.{Bool, true, false, cond, not}
use Rattle.std.specs.Prelude.{Option, None, Some, IfSome}
use Rattle.std.specs.Option.{option_eq}
use native.Mathlib.Omega.{arith}
use lib.Dec.{eqb}
use lib.IntN.{ℤ, pos, negsuc}
use borrow.Author.Tests.{ne_eqb}
use Rattle.pools.proofs.BoolLaws.{split, true_false}
use Rattle.tables.specs.Limits.{LONGEST-WAIT}
use Rattle.rules.specs.Calls.{bad_wait, not_at_all, sleep_for}
use Rattle.calls.specs.Parts.{sleep_until, wait_number, wait_of}
use Rattle.rules.proofs.Kept.Messages.{wait_fits}

-- ---- waits in milliseconds
pub wait_back : (z : ℤ) → bad_wait z ≡ false → wait_number (wait_of z) ≡ z
wait_back (pos n) h = refl
wait_back (negsuc zero) h = refl
wait_back (negsuc (suc n)) h = true_false (not (eqb (suc n) 0)) (ap not (ne_eqb (suc n) 0 (λ e. omega (arith, e)))) h

pub wait_short : (z : ℤ) → bad_wait z ≡ false → IfSome (wait_of z) (λ n. n ≤ LONGEST-WAIT)
wait_short (pos n) h = wait_fits n h
wait_short (negsuc n) h = tt

-- none at all
pub wait_now : (w : Option ℕ) → option_eq eqb w (Some 0) ≡ not_at_all (wait_number w)
wait_now (Some n) = refl
wait_now None = refl

-- ---- the earliest times, each of which there may not be
pub soon_fits : (b : Bool) (n m : ℕ) → n < m → IfSome (cond b None (Some n)) (λ x. x < m)
soon_fits true n m h = tt
soon_fits false n m h = h

pub soon_sleeps : (clock e x f y : ℕ) → sleep_until clock (cond (eqb e 0) None (Some x)) (cond (eqb f 0) None (Some y)) ≡ sleep_for clock e x f y
soon_sleeps clock e x f y =
    split (eqb e 0) (λ q. split (eqb f 0) (λ r. rw (q, r)) (λ r. rw (q, r))) (λ q. split (eqb f 0) (λ r. rw (q, r)) (λ r. rw (q, r)))
