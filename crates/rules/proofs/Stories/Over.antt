-- Ids: that one which was given is never given again, until a new start; of actors, that only a spawn makes one, and that no call brings one back.
use Prim.Native.Nat.{ℕ, ◌+◌, ◌≤◌, ◌<◌}
use native.Mathlib.Omega.{arith}
use mathlib.Core.Path.{◌≡◌, refl, sym, subst, ◌∙◌}
use mathlib.Core.Bool.{true, false, ◌||◌}
use lib.ListN.{length}
use lib.Seq.{get_or-set_same}
use lib.Dec.{eqb, ltb}
use borrow.Author.Tests.{eqb-true, ltb-true}
use Rattle.ledger.specs.Call.{Answer, Op, number, id_told}
use Rattle.ledger.specs.Call.Call.{op}
use Rattle.ledger.specs.Call.Op.{spawn}
use Rattle.ledger.specs.Ledger.{Ledger}
use Rattle.ledger.specs.Reckon.{entered}
use Rattle.ledger.specs.Room.{known}
use Rattle.pools.specs.Slot.{aged, age_of, slot_of}
use Rattle.pools.proofs.BoolLaws.{split, true_false}
use Rattle.pools.proofs.SlotLaws.{age_of_id, of_live, slot_of_id}
use Rattle.tables.specs.declared.Caps.{Caps}
use Rattle.tables.specs.Columns.{AGE, STATE}
use Rattle.tables.specs.Limits.{ACTOR-FACTOR, LAST-LEVEL}
use Rattle.tables.specs.State.{State, at}
use Rattle.rules.specs.Aged.{Aged, actor_pool, next_id}
use Rattle.rules.specs.Terms.{is_actor}
use Rattle.rules.specs.Calls.{ruled, slot_for, spawn_entry}
use Rattle.rules.specs.Run.{step}
use Rattle.rules.specs.Agrees.{Agrees}
use Rattle.rules.specs.Good.{Good}
use Rattle.rules.proofs.Claims.{AGES}
use Rattle.rules.proofs.Frames.Wrote.{mem}
use Rattle.rules.proofs.Reckoned.Ledger.{known_same}
use Rattle.rules.proofs.Table.{ages_grow, proved}

-- ---- the reckoning: only a spawn makes somebody known
-- after any call: who is known was, or is the actor that was spawned
pub entered-known : (id : ℕ) (c : Op) (x : Answer) (l : Ledger) → ((priority : ℕ) → c ≡ spawn priority → number x ≡ 0 → id_told x ≡ id → ⊥)
    → known (entered (record { call = op c; answer = x }) l) id ≡ true → known l id ≡ true
unfolding entered
entered-known id c x l n e =
    split (eqb (number x) 0)
    (λ q. (proved c).page.knows id (id_told x) l (λ p f. n p f (eqb-true (number x) 0 q)) (rw q at e))
    (λ q. split (eqb (number x) 5 || eqb (number x) 6)
    (λ p. (proved c).page.knew id (number x) l (rw (q, p) at e))
    (λ p. rw (q, p) at e))

-- ---- ids that were given, of any pool
module _ (P : Aged) where
  -- an id that was given: of an age that its slot has had
  abbrev pub WasGiven : State → ℕ → Type 0
  WasGiven s id = age_of P.factor id ≤ at s P.age (slot_of P.factor id)

  -- no call takes that back
  pub given_stays : mem P.age AGES ≡ true → (o : Op) (k : Caps) (s : State) (id : ℕ) → WasGiven s id → WasGiven (step o k s).state id
  given_stays m o k s id g = omega (arith, g, ages_grow o P.age m k s (slot_of P.factor id))

  module _ (s : State) (i : ℕ) (below : i < P.factor) where
    -- the id of a slot's next use was never given
    pub next_new : at s P.age (slot_of P.factor (next_id P s i)) < age_of P.factor (next_id P s i)
    next_new = rw (slot_of_id P.factor (at s P.age i + 1) i below, age_of_id P.factor (at s P.age i + 1) i below) (omega arith)

    -- once that use has begun it was
    pub next_given : (u : State) → u P.age ≡ aged (s P.age) i → i < length (s P.age) → WasGiven u (next_id P s i)
    next_given u e inside =
        rw (slot_of_id P.factor (at s P.age i + 1) i below, age_of_id P.factor (at s P.age i + 1) i below, e, get_or-set_same (s P.age) i (at s P.age i + 1) 0 inside) (omega arith)

-- ---- THE ACCIDENT
-- the id that a spawn answers is of an age that its slot has never had
pub spawn_new : (priority : ℕ) (k : Caps) (s : State) → Good k s → (ruled (spawn_entry priority) k s).ans.no ≡
    0 → at s AGE (slot_of ACTOR-FACTOR (ruled (spawn_entry priority) k s).ans.id) < age_of ACTOR-FACTOR (ruled (spawn_entry priority) k s).ans.id
unfolding ruled
spawn_new priority k s g =
    split (ltb LAST-LEVEL priority) (λ q. rw q (λ e. absurd (omega arith)))
    (λ q. split (ltb (slot_for k s) k.actors)
    (λ p. rw (q, p) (λ e. next_new actor_pool s (slot_for k s) (omega (arith, ltb-true (slot_for k s) k.actors p, g.range.few_actors))))
    (λ p. rw (q, p) (λ e. absurd (omega arith))))

-- an id that was given, and is nobody's
pub record Over (s : State) (id : ℕ) : Type 0 where
  pub given : WasGiven actor_pool s id
  -- no live actor's
  pub nobody : is_actor s id ≡ false

-- no call brings it back
pub over_stays : (c : Op) (k : Caps) (s : State) (l : Ledger) (id : ℕ) → Good k s → Agrees k l s
    → Good k (step c k s).state → Agrees k (entered (record { call = op c; answer = (step c k s).ans }) l) (step c k s).state
    → Over s id → Over (step c k s).state id
over_stays c k s l id g r h w o = record {
  given = given_stays actor_pool refl c k s id o.given;
  nobody = split (is_actor (step c k s).state id)
      (λ q. true_false (is_actor s id)
      (known_same k s g l r id
      ∙ entered-known id c (step c k s).ans l new (sym (known_same k (step c k s).state h _ w id) ∙ q))
      o.nobody)
      (λ q. q);
}
  where
    -- the spawned actor is another
    new : (p : ℕ) → c ≡ spawn p → number (step c k s).ans ≡ 0 → id_told (step c k s).ans ≡ id → ⊥
    new p e n t =
        let f = spawn_new p k s g (subst (λ (d : Op). number (step d k s).ans ≡ 0) e n) in
        let v : (ruled (spawn_entry p) k s).ans.id ≡ id = subst (λ (d : Op). id_told (step d k s).ans ≡ id) e t in
        omega (arith, o.given, rw v at f)

-- an actor that was alive and is not any more is over
pub over_once : (c : Op) (k : Caps) (s : State) (id : ℕ) → is_actor s id ≡ true → is_actor (step c k s).state id ≡ false → Over (step c k s).state id
over_once c k s id e f = record { given = given_stays actor_pool refl c k s id (omega (arith, (of_live ACTOR-FACTOR (s STATE) (s AGE) id e).1)); nobody = f }
