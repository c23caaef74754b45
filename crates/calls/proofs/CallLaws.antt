-- What a good state says of the numbers that the calls reckon with.
use Prim.Native.Nat.{ℕ, ◌-◌, ◌≤◌, ◌<◌}
use mathlib.Core.Path.{◌≡◌, refl, sym, ◌∙◌, ap}
use mathlib.Core.Bool.{Bool, true, false, not, ◌||◌}
use mathlib.Core.List.{List}
use native.Mathlib.Omega.{arith}
use Rattle.std.specs.Prelude.{Result, Ok, Err}
use lib.ListN.{get_or}
use lib.Dec.{eqb, ltb}
use borrow.Author.Tests.{eq-eqb, eqb-false, ne_eqb, lt-ltb, le-ltb, ltb-true, not-true, not-false}
use Rattle.tables.specs.declared.Caps.{Caps}
use Rattle.tables.specs.Columns.{AGE, ARRIVAL, ARRIVED, CLOCK, HAND, MAIL-DATA}
use Rattle.tables.specs.Limits.{ACTOR-FACTOR, OLDEST}
use Rattle.tables.specs.State.{State, at, head, Reads, RoomWith}
use Rattle.rules.specs.declared.refusals.Refusal.{Refusal}
use Rattle.rules.specs.declared.refusals.Refusal.TheVariants.{Malformed, NoRoom, NotNow, Unknown}
use Rattle.rules.specs.Actions.{let_go}
use Rattle.rules.specs.Calls.{data_of}
use Rattle.rules.specs.Sound.{Ready}
use Rattle.rules.specs.Aged.{Aged}
use Rattle.rules.specs.Terms.{is_actor, is_own, runner, runner_id}
use Rattle.pools.specs.Slot.{slot_of}
use Rattle.calls.specs.Parts.{hand_of, other_of, own_of, refused, unless}
use Rattle.rules.proofs.Kept.Clauses.{age_fits, runner-fits}
use Rattle.rules.proofs.Kept.Ready.{good_ready}
use Rattle.rules.proofs.Frames.Actions.{wrote_let_go}

-- ---- a test of the code on what it has read is the rule's
module _ {r x : ℕ} (e : r ≡ x) where
  pub nobody : r ≡ 0 → eqb x 0 ≡ true
  nobody h = eq-eqb x 0 (sym e ∙ h)

  pub somebody : (r ≡ 0 → ⊥) → eqb x 0 ≡ false
  somebody h = ne_eqb x 0 (λ z. h (e ∙ z))

  module _ {q n : ℕ} (f : q ≡ n) where
    pub below : r < q → ltb x n ≡ true
    below h = lt-ltb x n (omega arith)

    pub not-below : q ≤ r → ltb x n ≡ false
    not-below h = le-ltb x n (omega arith)

module _ {b x : Bool} (e : b ≡ x) where
  pub is_not : not b ≡ true → x ≡ false
  is_not h = sym e ∙ not-true b h

  pub is_so : not b ≡ false → x ≡ true
  is_so h = sym e ∙ not-false b h

-- the wait is bad, whatever the filter is
pub or_true : (b : Bool) → b || true ≡ true
or_true true = refl
or_true false = refl

-- the running actor's slot is one of them, and its id fits
pub runner_id-fits : {k : Caps} {w p : List ℕ} {r : ℕ} → Ready k w p → Reads k runner w p r → RoomWith k (λ s. (r - 1 < ACTOR-FACTOR) × (at s AGE (r - 1) ≤ OLDEST)) w p
runner_id-fits {k} {w} {p} {r} c e =
    let g = good_ready k w p c in (c.room, (omega (arith, runner-fits g, g.range), age_fits g (r - 1)))

-- ---- what a test found: it refuses, and why; or it does not, and what it found
module _ {T : Type 0} where
  pub stops : (b : Bool) (y : Refusal) (x : T) {e : Refusal} → ◌≡◌ {A = Result T Refusal} (Err e) (unless b y x) → (b ≡ true) × (e ≡ y)
  stops true y x h = (refl, cc)
  stops false y x h = cc

  pub finds : (b : Bool) (y : Refusal) (x : T) {v : T} → ◌≡◌ {A = Result T Refusal} (Ok v) (unless b y x) → (b ≡ false) × (v ≡ x)
  finds true y x h = cc
  finds false y x h = (refl, cc)

  -- the same of two tests in a row
  pub stops_two : (b : Bool) (y : Refusal) (c : Bool) (z : Refusal) (x : T) {e : Refusal} → ◌≡◌ {A = Result T Refusal} (Err e) (refused b y (unless c z x)) →
      {P : Type 0} → (b ≡ true → e ≡ y → P) → (b ≡ false → c ≡ true → e ≡ z → P) → P
  stops_two true y c z x h f g = f refl cc
  stops_two false y c z x h f g = let q = stops c z x h in g refl q.0 q.1

  pub finds_two : (b : Bool) (y : Refusal) (c : Bool) (z : Refusal) (x : T) {v : T} → ◌≡◌ {A = Result T Refusal} (Ok v) (refused b y (unless c z x)) →
      (b ≡ false) × (c ≡ false) × (v ≡ x)
  finds_two true y c z x h = cc
  finds_two false y c z x h = let q = finds c z x h in (refl, q.0, q.1)

-- another actor
module _ (s : State) (id : ℕ) where
  pub other_stops : {e : Refusal} → ◌≡◌ {A = Result ℕ Refusal} (Err e) (other_of s id) → {P : Type 0} →
      (eqb id (runner_id s) ≡ true → e ≡ Malformed → P) → (eqb id (runner_id s) ≡ false → not (is_actor s id) ≡ true → e ≡ Unknown → P) → P
  other_stops h = stops_two (eqb id (runner_id s)) Malformed (not (is_actor s id)) Unknown (slot_of ACTOR-FACTOR id) h

  pub other_finds : {v : ℕ} → ◌≡◌ {A = Result ℕ Refusal} (Ok v) (other_of s id) → (eqb id (runner_id s) ≡ false) × (not (is_actor s id) ≡ false) × (v ≡ slot_of ACTOR-FACTOR id)
  other_finds h = finds_two (eqb id (runner_id s)) Malformed (not (is_actor s id)) Unknown (slot_of ACTOR-FACTOR id) h

-- one of the running actor's own
module _ (P : Aged) (s : State) (id : ℕ) where
  pub own_stops : {e : Refusal} → ◌≡◌ {A = Result ℕ Refusal} (Err e) (own_of P.word P.age P.factor s id) → {Q : Type 0} →
      (eqb (runner s) 0 ≡ true → e ≡ NotNow → Q) → (eqb (runner s) 0 ≡ false → not (is_own P s id) ≡ true → e ≡ Unknown → Q) → Q
  own_stops h = stops_two (eqb (runner s) 0) NotNow (not (is_own P s id)) Unknown (slot_of P.factor id) h

  pub own_finds : {v : ℕ} → ◌≡◌ {A = Result ℕ Refusal} (Ok v) (own_of P.word P.age P.factor s id) → (eqb (runner s) 0 ≡ false) × (not (is_own P s id) ≡ false) × (v ≡ slot_of P.factor id)
  own_finds h = finds_two (eqb (runner s) 0) NotNow (not (is_own P s id)) Unknown (slot_of P.factor id) h

-- what is in hand
module _ (s : State) where
  pub hand_stops : {e : Refusal} → ◌≡◌ {A = Result ℕ Refusal} (Err e) (hand_of s) → {P : Type 0} →
      (eqb (runner s) 0 ≡ true → e ≡ NotNow → P) → (eqb (runner s) 0 ≡ false → eqb (at s HAND (runner s - 1)) 0 ≡ true → e ≡ Unknown → P) → P
  hand_stops h = stops_two (eqb (runner s) 0) NotNow (eqb (at s HAND (runner s - 1)) 0) Unknown (at s HAND (runner s - 1) - 1) h

  pub hand_finds : {v : ℕ} → ◌≡◌ {A = Result ℕ Refusal} (Ok v) (hand_of s) → (eqb (runner s) 0 ≡ false) × (eqb (at s HAND (runner s - 1)) 0 ≡ false) × (v ≡ at s HAND (runner s - 1) - 1)
  hand_finds h = finds_two (eqb (runner s) 0) NotNow (eqb (at s HAND (runner s - 1)) 0) Unknown (at s HAND (runner s - 1) - 1) h

-- somebody runs
pub runs : (r : ℕ) {v : ℕ} → ◌≡◌ {A = Result ℕ Refusal} (Ok v) (unless (eqb r 0) NotNow r) → (eqb r 0 ≡ false) × (v ≡ r) × (0 < v)
runs r h =
    let q = finds _ _ _ h in
    (q.0, q.1, omega (arith, eqb-false r 0 q.0, q.1))

-- there is an entry
pub placed : (i n : ℕ) {v : ℕ} → ◌≡◌ {A = Result ℕ Refusal} (Ok v) (unless (not (ltb i n)) NoRoom i) → (ltb i n ≡ true) × (v ≡ i) × (v < n)
placed i n h =
    let q = finds _ _ _ h in
    let t = not-false (ltb i n) q.0 in
    (t, q.1, omega (arith, ltb-true i n t, q.1))

-- ---- what stays while the hand is emptied
module _ (s : State) (a : ℕ) where
  pub let_go_clock : head (let_go s a) CLOCK ≡ head s CLOCK
  let_go_clock = ap (λ (l : List ℕ). get_or l 0 0) ((wrote_let_go s a).cols CLOCK refl)

  pub let_go-arrived : head (let_go s a) ARRIVED ≡ head s ARRIVED
  let_go-arrived = ap (λ (l : List ℕ). get_or l 0 0) ((wrote_let_go s a).cols ARRIVED refl)

  pub let_go_data : (j : ℕ) → data_of (let_go s a) j ≡ data_of s j
  let_go_data j = rw ((wrote_let_go s a).cols MAIL-DATA refl, (wrote_let_go s a).cols ARRIVAL refl)
