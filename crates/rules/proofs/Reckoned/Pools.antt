-- Slots with ages and the reckoning's things in them, over any pool: a use begins, uses end, what is left, and whose they are.
use Prim.Native.Nat.{ℕ, ◌≤◌, ◌<◌}
use native.Mathlib.Omega.{arith}
use mathlib.Core.Path.{◌≡◌, sym, ap, ◌∙◌, fun_ext}
use mathlib.Core.Bool.{Bool, false, cond, not, ◌&&◌}
use mathlib.Core.List.{List, [], ◌∷◌, ◌++◌, map, map-map, map-append}
use lib.ListN.{length, set}
use lib.Dec.{eqb, ltb}
use borrow.Author.Tests.{ne_eqb, not-true}
use Rattle.ledger.specs.Lists.{some, those}
use Rattle.ledger.specs.Reckon.{worn_after}
use Rattle.pools.specs.Pool.{occurs}
use Rattle.pools.specs.Lists.{keep}
use Rattle.pools.specs.Slot.{aged, slot_of}
use Rattle.pools.proofs.BoolLaws.{split}
use Rattle.pools.proofs.ListLaws.{keep-same_on}
use Rattle.pools.proofs.SlotLaws.{of_live}
use Rattle.tables.specs.declared.Caps.{Caps}
use Rattle.tables.specs.Limits.{OLDEST}
use Rattle.tables.specs.State.{State, at}
use Rattle.rules.specs.Aged.{Aged, is_use, use_id, can_take, next_slot, slots_left}
use Rattle.rules.specs.Terms.{is_own, runner}
use Rattle.rules.specs.Agrees.{InPool, PoolAgree}
use Rattle.rules.proofs.Reckoned.Ledger.{live_some, map-same_on, some-map, those-map, listed_used, full-same}
use Rattle.rules.proofs.Lists.Ties.{begins, ends, keep_in, worn_begins, worn_ends}

-- ---- the things that stand in a list of entries
module _ {A : Type 0} (thing thing' : ℕ → A) (things : List A) (es : List ℕ) where
  -- one more comes, and the others are as they were
  pub things_begin : (i : ℕ) (new : A) → things ≡ map thing es → thing' i ≡ new → ((e : ℕ) → 0 < occurs e es → thing e ≡ thing' e) → things ++ (new ∷ []) ≡ map thing' (es ++ (i ∷ []))
  things_begin i new a born stays = rw (map-append thing' es (i ∷ []), a, born, map-same_on thing thing' es stays)

  -- those that pass go, by the reckoning's test and by the tables'
  pub things_end : (q : A → Bool) (p : ℕ → Bool) → things ≡ map thing es → ((e : ℕ) → 0 < occurs e es → q (thing e) ≡ p e) → ((e : ℕ) → p e ≡ false → thing e ≡ thing' e) →
      those (λ x. not (q x)) things ≡ map thing' (keep (λ e. not (p e)) es)
  things_end q p a same stays =
      rw a (those-map (λ x. not (q x)) thing es
      ∙ ap (map thing) (keep-same_on (λ e. not (q (thing e))) (λ e. not (p e)) es (λ e o. ap not (same e o)))
      ∙ map-same_on thing thing' (keep (λ e. not (p e)) es) (λ e o. stays e (not-true (p e) (keep_in (λ d. not (p d)) es e o).1)))

-- ---- slots with ages
module _ {A : Type 0} (P : Aged) (s : State) (n : ℕ) (z : length (s P.word) ≡ n) (f : n ≤ P.factor) {thing : ℕ → A} {things : List A} {worn : List ℕ} (a : InPool P s thing things worn) where
  -- a slot of the list is in use, and one of the slots
  pub pool_used : (e : ℕ) → 0 < occurs e a.slots → (at s P.word e ≡ 0 → ⊥) × (e < n)
  pool_used = listed_used (s P.word) a.slots n z a.all_slots

  -- a use of slot i begins: the thing comes to the end of the reckoning's
  pub pool_begins : (u : State) (i v : ℕ) (thing' : ℕ → A) (new : A) → u P.word ≡ set (s P.word) i v → u P.age ≡ aged (s P.age) i → i < n → at s P.word i ≡ 0 → (v ≡ 0 → ⊥) → at s P.age i < OLDEST →
      thing' i ≡ new → ((e : ℕ) → eqb e i ≡ false → thing e ≡ thing' e) → InPool P u thing' (things ++ (new ∷ [])) worn
  pool_begins u i v thing' new w y l free there young born stays =
      let m : i < length (s P.word) = omega arith in
      record {
        slots = a.slots ++ (i ∷ []);
        all_slots = rw w (begins (s P.word) (s P.age) i v m free there a.slots a.all_slots);
        are = things_begin thing thing' things a.slots i new a.are born (λ e o. stays e (ne_eqb e i (λ q. (pool_used e o).0 (ap (at s P.word) q ∙ free))));
        worn_slots = rw (w, y) (worn_begins (s P.word) (s P.age) i v m free there worn young a.worn_slots);
      }

  -- uses end: those that pass, on both sides
  pub pool_ends : (u : State) (thing' : ℕ → A) (id : A → ℕ) (p : ℕ → Bool) (q : A → Bool) →
      ((e : ℕ) → at u P.word e ≡ cond (p e) 0 (at s P.word e)) → u P.age ≡ s P.age → ((e : ℕ) → id (thing e) ≡ use_id P s e) →
      ((e : ℕ) → (at s P.word e ≡ 0 → ⊥) → e < n → q (thing e) ≡ p e) → ((e : ℕ) → p e ≡ false → thing e ≡ thing' e) →
      InPool P u thing' (those (λ x. not (q x)) things) (worn_after P.factor id q things worn)
  pool_ends u thing' id p q t y ids same stays = record {
    slots = keep (λ e. not (p e)) a.slots;
    all_slots = ends (s P.word) (u P.word) p t a.slots a.all_slots;
    are = things_end thing thing' things a.slots q p a.are pass stays;
    worn_slots = rw (a.are, those-map q thing a.slots, keep-same_on (λ e. q (thing e)) p a.slots pass, map-map id thing (keep p a.slots), map-same_on (λ e. id (thing e)) (use_id P s) (keep p a.slots) (λ e o. ids e), y)
        (worn_ends (s P.word) (u P.word) p t P.factor (s P.age) a.slots worn (λ e o. omega (arith, (pool_used e o).1)) a.all_slots a.worn_slots);
  }
    where
      -- the two tests agree on the slots of the list
      pass : (e : ℕ) → 0 < occurs e a.slots → q (thing e) ≡ p e
      pass e o = let c = pool_used e o in same e c.0 c.1

  -- an id is that of one of the running actor's own, on both sides or on neither
  pub pool_own : (id : ℕ) (is owner : A → ℕ) (me : ℕ) → 0 < P.factor → ((e : ℕ) → is (thing e) ≡ use_id P s e) → ((e : ℕ) → 0 < occurs e a.slots → eqb (owner (thing e)) me ≡ eqb (at s P.word e) (runner s)) →
      is_own P s id ≡ some (λ x. eqb (is x) id && eqb (owner x) me) things
  pool_own id is owner me h ids mine =
      let j = slot_of P.factor id in
      split (is_use P s id)
      (λ q. let d = (of_live P.factor (s P.word) (s P.age) id q).0 in
      let o : 0 < occurs j a.slots = rw (a.all_slots j, ne_eqb (at s P.word j) 0 d) (omega arith) in
      ap (λ (y : Bool). is_use P s id && y) (sym (mine j o)))
      (λ q. rw q)
      ∙ sym (live_some P.factor (s P.word) (s P.age) a.slots (λ e. eqb (owner (thing e)) me) id h (λ e o. omega (arith, (pool_used e o).1)) a.all_slots)
      ∙ ap (λ (g : ℕ → ℕ). some (λ e. eqb (g e) id && eqb (owner (thing e)) me) a.slots) (sym (fun_ext ids))
      ∙ sym (some-map (λ x. eqb (is x) id && eqb (owner x) me) thing a.slots)
      ∙ ap (some (λ x. eqb (is x) id && eqb (owner x) me)) (sym a.are)

-- other things that are read of the same slots
pub pool_reads : {A : Type 0} {used old : ℕ → Bool} {thing thing' : ℕ → A} {things things' : List A} {worn : List ℕ}
    (a : PoolAgree used old thing things worn) → things' ≡ map thing' a.slots → PoolAgree used old thing' things' worn
pool_reads a e = record { slots = a.slots; all_slots = a.all_slots; are = e; worn_slots = a.worn_slots }

-- the same things
pub pool_stays : {A : Type 0} {used old : ℕ → Bool} {thing : ℕ → A} {things : List A} {worn : List ℕ} (a : PoolAgree used old thing things worn) (thing' : ℕ → A) → ((e : ℕ) → 0 < occurs e a.slots → thing e ≡ thing' e) →
    PoolAgree used old thing' things worn
pool_stays {thing = thing} a thing' h = pool_reads a (a.are ∙ map-same_on thing thing' a.slots h)

-- there is a slot to take exactly where one is left
pub slots-full : (P : Aged) (k : Caps) (s : State) (left : ℕ) → slots_left P k s ≡ left → not (ltb (next_slot P k s) (P.many k)) ≡ eqb left 0
slots-full P k s = full-same (can_take P s) (P.many k)
