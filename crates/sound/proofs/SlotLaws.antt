-- The rules of a slot tested by its state, and each slot and then the queue.
use Prim.Native.Nat.{ℕ}
use native.Mathlib.Omega.{arith}
use mathlib.Core.Path.{◌≡◌, ap, ◌∙◌}
use mathlib.Core.Bool.{Bool, ◌&&◌}
use lib.Bits.{bit_or}
use lib.Dec.{eqb, leb}
use Rattle.rules.specs.Rule.{test, each, both, le, eq}
use Rattle.rules.specs.Sound.{queue_rule, slot_rule}
use Rattle.rules.proofs.Kept.Rules.{and_same}
use Rattle.sound.specs.Kinds.{form_rule, own_rule}
use Rattle.sound.proofs.ListLaws.{same_rule}
use Rattle.sound.proofs.JoinLaws.{or-test}
use Rattle.tables.specs.declared.Caps.{Caps}
use Rattle.tables.specs.Limits.{OLDEST}
use Rattle.tables.specs.State.{State}

-- four words joined by OR are zero where each is
pub or-four : (a b c d : ℕ) → eqb (bit_or (bit_or a b) (bit_or c d)) 0 ≡ (eqb a 0 && eqb b 0) && (eqb c 0 && eqb d 0)
or-four a b c d = or-test (bit_or a b) (bit_or c d) ∙ and_same (or-test a b) (or-test c d)

-- ---- a slot's own words
module _ (d s p r a h : ℕ) where
  pub form-free : s ≡ 0 → eqb (bit_or (bit_or p r) h) 0 && leb a OLDEST ≡ test (form_rule d s p r a h)
  form-free e =
      ap (λ (x : Bool). x && leb a OLDEST) (or-test (bit_or p r) h ∙ ap (λ (x : Bool). x && eqb h 0) (or-test p r))
      ∙ same_rule (form_rule d s p r a h) (both (both (both (eq p 0) (eq r 0)) (eq h 0)) (le a OLDEST))
      (λ ((_, ((age, _), _)), (unused, quiet)). ((((unused e).0, quiet (λ n. omega arith)), (unused e).1), age))
      (λ (((level, reason), hand), age). (((omega arith, (omega arith, omega arith)), ((age, λ z. e), omega arith)), (λ z. (level, hand), λ z. reason)))

-- ---- each slot, and each word of the queue
pub slot_parts : (k : Caps) (s : State) (n : ℕ) → test (both (each n (λ a. own_rule k s a)) (each n (λ a. queue_rule k s a))) ≡ test (each n (λ a. slot_rule k s a))
slot_parts k s n =
    same_rule (each n (λ a. slot_rule k s a)) (both (each n (λ a. own_rule k s a)) (each n (λ a. queue_rule k s a)))
    (λ h. (
      λ a l. let ((actor, (unused, (quiet, rest))), (waits, (runs, _))) = h a l in ((actor, (unused, quiet)), ((rest, waits), runs)),
      λ a l. let (_, (_, (_, queue))) = h a l in queue,
    ))
    (λ h a l. let ((actor, (unused, quiet)), ((rest, waits), runs)) = h.0 a l in ((actor, (unused, (quiet, rest))), (waits, (runs, h.1 a l))))
