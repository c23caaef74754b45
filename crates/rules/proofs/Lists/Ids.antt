-- Ids of actors: when one is nobody's.
use Prim.Native.Nat.{ℕ, ◌<◌}
use native.Mathlib.Omega.{arith}
use mathlib.Core.Path.{◌≡◌}
use mathlib.Core.Logic.{◌⊎◌, inl, inr}
use mathlib.Core.Bool.{true, false, not, and-false}
use borrow.Author.Tests.{ne_eqb}
use Rattle.pools.specs.Slot.{age_of, slot_of, unused}
use Rattle.pools.proofs.SlotLaws.{of_live}
use Rattle.tables.specs.Columns.{AGE, STATE}
use Rattle.tables.specs.Limits.{ACTOR-FACTOR}
use Rattle.tables.specs.State.{State, at}
use Rattle.rules.specs.Terms.{FREE, is_actor}

-- ---- an id that is nobody's
-- its slot is free
pub id_free : (s : State) (id : ℕ) → at s STATE (slot_of ACTOR-FACTOR id) ≡ FREE → is_actor s id ≡ false
id_free s id e = rw e

-- once the slot of a live actor is free or in a later use, its id is nobody's
pub old_id : (s t : State) (id : ℕ) → is_actor s id ≡ true → (at t STATE (slot_of ACTOR-FACTOR id) ≡ FREE) ⊎ (at s AGE (slot_of ACTOR-FACTOR id) < at t AGE (slot_of ACTOR-FACTOR id)) → is_actor t id ≡ false
old_id s t id e (inl f) = id_free t id f
old_id s t id e (inr f) =
    rw (ne_eqb (at t AGE (slot_of ACTOR-FACTOR id)) (age_of ACTOR-FACTOR id) (λ q. omega (arith, (of_live ACTOR-FACTOR (s STATE) (s AGE) id e).1)))
    (and-false (not (unused (t STATE) (slot_of ACTOR-FACTOR id))))
