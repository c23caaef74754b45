-- From the tables to the reckoning: its lists over a list of entries, what its things name, and the tests that it shares with the tables.
use Prim.Native.Nat.{ℕ, zero, suc, ◌+◌, ◌-◌, ◌*◌, ◌/◌, ◌%◌, ◌≤◌, ◌<◌}
use native.Mathlib.Nat.{le_of_suc-le-suc}
use native.Mathlib.Omega.{arith}
use mathlib.Core.Path.{◌≡◌, refl, sym, ap, ap₂, ◌∙◌, fun_ext}
use mathlib.Core.Bool.{Bool, true, false, not, ◌&&◌, ◌||◌, not-not, and-true as and_yes}
use mathlib.Core.List.{List, [], ◌∷◌, ◌++◌, map, map-append}
use mir.Val.{bool_byte}
use lib.ListN.{length, get_or, length-append, length-map, get_or-eq_default}
use lib.Dec.{eqb, ltb, lit<}
use borrow.Author.Tests.{eqb-true, eqb-false, eq-eqb, ne_eqb, ltb-true, lt-ltb, le-ltb, not-false, not-true}
use Rattle.ledger.specs.Lists.{those, some, first, but_first, by_slot, total}
use Rattle.ledger.specs.Ledger.{Ledger}
use Rattle.ledger.specs.Room.{actors_left, datas_left, holds, idle, known, links_left, mails_left, messages_left, monitors_left, timers_left, aged_left, holdings}
use Rattle.pools.specs.Pool.{count, lowest, occurs, Exact}
use Rattle.pools.specs.Bits.{free}
use Rattle.pools.specs.Lists.{keep, without}
use Rattle.pools.specs.Slot.{id_of, is_live, slot_of, unused}
use Rattle.pools.proofs.BoolLaws.{split, true_false, and_left, and_right, and_true, flag_eq, neither}
use Rattle.pools.proofs.PoolLaws.{none_iff, room_iff}
use Rattle.pools.proofs.ListLaws.{occurs-append, occurs_get_d, occurs-head, occurs-once, occurs-place, occurs_tail}
use Rattle.pools.proofs.ExactLaws.{exact_free, exact_used}
use Rattle.pools.proofs.SlotLaws.{slot_of_id, id_pos, live_id, live_is, of_live}
use Rattle.tables.specs.declared.Caps.{Caps}
use Rattle.tables.specs.Columns.{AGE, DATA-FREE, HAND, ISSUED, LINK-ONE, LINK-TWO, MAIL-FREE, MAIL-OWNER, MONITOR-AGE, SEAT, STATE, TIMER-AGE, TIMER-OWNER, WATCHED, WATCHER}
use Rattle.tables.specs.Limits.{ACTOR-FACTOR, MOST-BUSES, MOST-SEATS, OLDEST}
use Rattle.tables.specs.State.{State, at, head}
use Rattle.rules.specs.Aged.{is_worn, Aged, can_take, actor_pool, timer_pool, monitor_pool, slots_left}
use Rattle.rules.specs.Terms.{RUNS, actor_id, alive, is_actor, runner, runner_id}
use Rattle.rules.specs.Agrees.{Agrees, actor_at, arrivals, box_at, hand_at, letter, link_at, up_to, used_mail, value_said, values_in, InPool, named, owners}
use Rattle.rules.specs.Buses.{seat_at, value_at}
use Rattle.rules.specs.Actions.{has_room}
use Rattle.rules.proofs.Kept.Owners.{named-length, owner_some}
use Rattle.rules.specs.Good.{Good}
use Rattle.rules.proofs.Lists.Ties
use Rattle.rules.proofs.Kept.Clauses.{mail_owner_lives, runner-fits, timer_owner_lives, timer_age_fits, monitor-ends, monitor_age_fits, link_ends, age_fits, seat_lives}
use Rattle.rules.proofs.Lists.Columns.{alive-of, of-alive, alive-below}

-- ---- the reckoning's lists are the tables' entries, read
module _ {A : Type 0} {B : Type 0} (p : B → Bool) (f : A → B) where
  -- those of the things that pass are the things of those entries
  pub those-map : (es : List A) → those p (map f es) ≡ map f (keep (λ e. p (f e)) es)
  unfolding those keep
  those-map [] = refl
  those-map (x ∷ es) = split (p (f x)) (λ q. rw (q, those-map es)) (λ q. rw (q, those-map es))

  -- one of the things passes
  pub some-map : (es : List A) → some p (map f es) ≡ some (λ e. p (f e)) es
  unfolding some
  some-map [] = refl
  some-map (x ∷ es) = rw (some-map es)

  -- the first of the things that passes
  pub first-map : (es : List A) → first p (map f es) ≡ map f (first (λ e. p (f e)) es)
  unfolding first
  first-map [] = refl
  first-map (x ∷ es) = split (p (f x)) (λ q. rw q) (λ q. rw (q, first-map es))

  -- and the others
  pub but-map : (es : List A) → but_first p (map f es) ≡ map f (but_first (λ e. p (f e)) es)
  unfolding but_first
  but-map [] = refl
  but-map (x ∷ es) = split (p (f x)) (λ q. rw q) (λ q. rw (q, but-map es))

-- the reckoning's `those` is the pools' `keep`
pub those-keep : {A : Type 0} (p : A → Bool) (es : List A) → those p es ≡ keep p es
unfolding those keep
those-keep p [] = refl
those-keep p (x ∷ es) = split (p x) (λ q. rw (q, those-keep p es)) (λ q. rw (q, those-keep p es))

-- the things by ascending slot
pub slot_map : {A : Type 0} {B : Type 0} (slot : B → ℕ) (f : A → B) (n : ℕ) (es : List A) → by_slot slot n (map f es) ≡ map f (by_slot (λ e. slot (f e)) n es)
unfolding by_slot
slot_map slot f zero es = refl
slot_map slot f (suc n) es =
    rw (slot_map slot f n es, those-map (λ x. eqb (slot x) n) f es) (sym
    (map-append f (by_slot (λ e. slot (f e)) n es) _ ∙ ap (λ (m : List _). map f (by_slot (λ e. slot (f e)) n es) ++ map f m)
    (those-keep (λ e. eqb (slot (f e)) n) es)))

-- ---- what is read of the entries that stand in a list
-- two readings that agree on what stands in it
pub map-same_on : {B : Type 0} (f h : ℕ → B) (es : List ℕ) → ((e : ℕ) → 0 < occurs e es → f e ≡ h e) → map f es ≡ map h es
map-same_on f h [] w = refl
map-same_on f h (x ∷ es) w = ap₂ (λ (y : _) (m : List _). y ∷ m) (w x (occurs-head x es)) (map-same_on f h es (λ e o. w e (occurs_tail e x es o)))

-- one that stands in it passes
pub some_yes : (p : ℕ → Bool) (es : List ℕ) (e : ℕ) → 0 < occurs e es → p e ≡ true → some p es ≡ true
unfolding some occurs
some_yes p [] e o q = absurd (omega arith)
some_yes p (x ∷ es) e o q =
    split (eqb x e) (λ c. rw (ap p (eqb-true x e c) ∙ q))
    (λ c. let i = some_yes p es e (omega (arith, rw c at o)) q in split (p x) (λ d. rw d) (λ d. rw d i))

-- none does
pub some_no : (p : ℕ → Bool) (es : List ℕ) → ((e : ℕ) → 0 < occurs e es → p e ≡ false) → some p es ≡ false
unfolding some
some_no p [] w = refl
some_no p (x ∷ es) w = rw (w x (occurs-head x es)) (some_no p es (λ e o. w e (occurs_tail e x es o)))

-- the first that passes is the j-th, where none before it does
pub first-at : (p : ℕ → Bool) (es : List ℕ) (j : ℕ) → j < length es → p (get_or es j 0) ≡ true → ((i : ℕ) → i < j → p (get_or es i 0) ≡ false)
    → (first p es ≡ get_or es j 0 ∷ []) × (but_first p es ≡ without j es)
unfolding first but_first
first-at p [] j h q w = absurd (omega arith)
first-at p (x ∷ es) zero h q w = (rw q, rw q)
first-at p (x ∷ es) (suc j) h q w =
    let i = first-at p es j (le_of_suc-le-suc h) q (λ i g. w (suc i) (omega arith)) in
    let c : p x ≡ false = w 0 (omega arith) in
    (rw (c, i.0), rw (c, i.1))

-- where none passes there is no first
pub first_none : (p : ℕ → Bool) (es : List ℕ) → ((e : ℕ) → 0 < occurs e es → p e ≡ false) → first p es ≡ []
unfolding first
first_none p [] w = refl
first_none p (x ∷ es) w = rw (w x (occurs-head x es)) (first_none p es (λ e o. w e (occurs_tail e x es o)))

-- where one number alone passes, and stands in the list at most once, it is the first
pub first-only : (p : ℕ → Bool) (es : List ℕ) (e : ℕ) → occurs e es ≡ 1 → ((d : ℕ) → 0 < occurs d es → p d ≡ eqb d e) → first p es ≡ e ∷ []
first-only p es e o w =
    let j = occurs-place e es (omega arith) in
    let f = first-at p es j.0 j.1
    (w (get_or es j.0 0) (occurs_get_d es j.0 j.1) ∙ eq-eqb (get_or es j.0 0) e j.2)
    (λ i h. w (get_or es i 0) (occurs_get_d es i (omega (arith, j.1))) ∙ ne_eqb (get_or es i 0) e (λ q. omega (arith, occurs-once e es (omega arith) i j.0 (omega (arith, j.1)) j.1 q j.2))) in
    f.0 ∙ ap (λ (x : ℕ). x ∷ []) j.2

-- ---- what stands in a list of all that are in use is in use
pub listed_in : (words es : List ℕ) → Exact es (λ i. not (unused words i)) → (e : ℕ) → 0 < occurs e es → get_or words e 0 ≡ 0 → ⊥
listed_in words es x e o = eqb-false (get_or words e 0) 0 (not-true (unused words e) (exact_used (λ i. not (unused words i)) es e x o))

-- and has a word
pub listed_used : (words es : List ℕ) (n : ℕ) → length words ≡ n → Exact es (λ i. not (unused words i)) → (e : ℕ) → 0 < occurs e es → (get_or words e 0 ≡ 0 → ⊥) × (e < n)
listed_used words es n z x e o =
    let d = listed_in words es x e o in
    (d, omega (arith, alive-below words e (alive-of words e d)))

-- an id of those in use that passes: it is live, and its slot passes
pub live_some : (F : ℕ) (words ages es : List ℕ) (p : ℕ → Bool) (id : ℕ) → 0 < F → ((i : ℕ) → 0 < occurs i es → i < F) → Exact es (λ i. not (unused words i)) →
    some (λ i. eqb (id_of F (get_or ages i 0) i) id && p i) es ≡ is_live F words ages id && p (slot_of F id)
live_some F words ages es p id f b x =
    let j = slot_of F id in
    let t = is_live F words ages id in
    split (t && p j)
    (λ q. let y = and_left t (p j) q in
    let o : 0 < occurs j es = rw (x j, ne_eqb (get_or words j 0) 0 (of_live F words ages id y).0) (omega arith) in
    some_yes (λ i. eqb (id_of F (get_or ages i 0) i) id && p i) es j o
    (and_true (eqb (id_of F (get_or ages j 0) j) id) (p j) (eq-eqb (id_of F (get_or ages j 0) j) id (sym (live_is F words ages id f y))) (and_right t (p j) q)) ∙ sym q)
    (λ q. some_no (λ i. eqb (id_of F (get_or ages i 0) i) id && p i) es (λ i o.
    split (eqb (id_of F (get_or ages i 0) i) id)
    (λ e. let z = eqb-true (id_of F (get_or ages i 0) i) id e in
    let u : j ≡ i = ap (slot_of F) (sym z) ∙ slot_of_id F (get_or ages i 0) i (b i o) in
    let d = eqb-false (get_or words i 0) 0 (not-true (unused words i) (exact_used (λ i. not (unused words i)) es i x o)) in
    let y : t ≡ true = ap (is_live F words ages) (sym z) ∙ live_id F words ages i (b i o) d in
    let w : p j ≡ false = rw y at q in
    rw e (ap p (sym u) ∙ w))
    (λ e. rw e)) ∙ sym q)

-- ---- what the things of a sound runtime name is alive
module _ (k : Caps) (s : State) (g : Good k s) where
  -- who is alive has one of the slots
  pub alive_slot : (a : ℕ) → alive (s STATE) a ≡ true → a < k.actors
  alive_slot a e = omega (arith, alive-below (s STATE) a e, g.sized.words STATE (lit< tt))

  -- a slot in use has an age
  pub alive_age : (a : ℕ) → alive (s STATE) a ≡ true → 0 < at s AGE a
  alive_age a e = let h : at s AGE a ≡ 0 → ⊥ = λ z. of-alive (s STATE) a e ((g.actors a (alive_slot a e)).1.0.1 z) in omega arith

  -- two that are alive have one id where they have one slot
  pub actor_id-eqb : (a b : ℕ) → alive (s STATE) a ≡ true → alive (s STATE) b ≡ true → eqb (actor_id s a) (actor_id s b) ≡ eqb a b
  actor_id-eqb a b x y = Ties.slot_id_eqb ACTOR-FACTOR (s AGE) a b (omega (arith, alive_slot a x, g.range.few_actors)) (omega (arith, alive_slot b y, g.range.few_actors))

  -- no id is 0
  pub id_not_zero : (a : ℕ) → alive (s STATE) a ≡ true → eqb (actor_id s a) 0 ≡ false
  id_not_zero a e = ne_eqb (actor_id s a) 0 (λ z. omega (arith, id_pos ACTOR-FACTOR (at s AGE a) a (alive_age a e) (lit< tt)))

  -- the slot that the head names is one of the slots, and runs
  pub runs-at : (a : ℕ) → runner s ≡ suc a → (a < k.actors) × (at s STATE a ≡ RUNS)
  runs-at a r =
      let l : a < k.actors = omega (arith, runner-fits g) in
      (l, flag_eq (at s STATE a) RUNS (g.runs a l ∙ rw (eq-eqb (runner s) (suc a) r)))

  -- and is alive
  pub runs-alive : (a : ℕ) → runner s ≡ suc a → alive (s STATE) a ≡ true
  runs-alive a r = alive-of (s STATE) a (λ z. omega (arith, (runs-at a r).1))

  -- the same where somebody runs
  pub runner-runs : eqb (runner s) 0 ≡ false → (runner s - 1 < k.actors) × (at s STATE (runner s - 1) ≡ RUNS)
  runner-runs q = runs-at (runner s - 1) (omega (arith, eqb-false (runner s) 0 q))

  -- who is alive
  pub runner-alive : eqb (runner s) 0 ≡ false → alive (s STATE) (runner s - 1) ≡ true
  runner-alive q = runs-alive (runner s - 1) (omega (arith, eqb-false (runner s) 0 q))

  -- a live slot is another's than an id that is nobody's
  pub stranger : (id : ℕ) → is_actor s id ≡ false → (a : ℕ) → alive (s STATE) a ≡ true → eqb (actor_id s a) id ≡ false
  stranger id n a v =
      ne_eqb (actor_id s a) id (λ z.
      true_false (is_actor s id) (ap (is_actor s) (sym z) ∙ live_id ACTOR-FACTOR (s STATE) (s AGE) a (omega (arith, alive_slot a v, g.range.few_actors)) (of-alive (s STATE) a v)) n)

  -- who sits in a seat in use
  pub seat_owner : (i : ℕ) → (at s SEAT i ≡ 0 → ⊥) → alive (s STATE) (at s SEAT i - 1) ≡ true
  seat_owner i h =
      let m : i < MOST-BUSES * MOST-SEATS = omega (arith, Ties.used_inside (s SEAT) i h, g.sized.words SEAT (lit< tt)) in
      let e : seat_at (i / MOST-SEATS) (i % MOST-SEATS) ≡ i = omega arith in
      rw e at (seat_lives g (i / MOST-SEATS) (i % MOST-SEATS) (omega arith) (omega arith) (rw e h))

  module _ (l : Ledger) (r : Agrees k l s) where
    -- the owner of a queued message
    pub box_owner : (e : ℕ) → 0 < occurs e (arrivals s) → alive (s STATE) (at s MAIL-OWNER e - 1) ≡ true
    box_owner e o =
        let u = exact_used (used_mail k s) (arrivals s) e r.mail.all_boxes o in
        mail_owner_lives g e (ltb-true e k.mails (and_left (ltb e k.mails) (not (free (s MAIL-FREE) e)) u)) (and_right (ltb e k.mails) (not (free (s MAIL-FREE) e)) u)

    -- who has something in hand
    pub palm_owner : (a : ℕ) → 0 < occurs a r.mail.palms → alive (s STATE) a ≡ true
    palm_owner a o =
        let u = listed_used (s HAND) r.mail.palms k.actors (g.sized.words HAND (lit< tt)) r.mail.all_palms a o in
        alive-of (s STATE) a (λ z. u.0 ((g.unused_words a u.1).0 z).1)

    -- the owner of a timer
    pub clock_owner : (i : ℕ) → 0 < occurs i r.time.pool.slots → alive (s STATE) (at s TIMER-OWNER i - 1) ≡ true
    clock_owner i o =
        let u = listed_used (s TIMER-OWNER) r.time.pool.slots k.timers (g.sized.words TIMER-OWNER (lit< tt)) r.time.pool.all_slots i o in
        timer_owner_lives g i u.1 u.0

    -- a seat of the list is in use
    pub seat_used : (i : ℕ) → 0 < occurs i r.buses.seats → at s SEAT i ≡ 0 → ⊥
    seat_used = listed_in (s SEAT) r.buses.seats r.buses.all_seats

    -- and one in use is of the list
    pub used_seat : (i : ℕ) → (at s SEAT i ≡ 0 → ⊥) → 0 < occurs i r.buses.seats
    used_seat i u = rw (r.buses.all_seats i, ne_eqb (at s SEAT i) 0 u) (omega arith)

    -- both ends of a link
    pub bond_ends : (e : ℕ) → 0 < occurs e r.links.bonds → (alive (s STATE) (at s LINK-ONE e - 1) ≡ true) × (alive (s STATE) (at s LINK-TWO e - 1) ≡ true)
    bond_ends e o =
        let u = listed_used (s LINK-ONE) r.links.bonds k.links (g.sized.words LINK-ONE (lit< tt)) r.links.all_bonds e o in
        let c = link_ends g e u.1 u.0 in
        (c.one_lives, c.two_lives)

    -- both ends of a monitor
    pub eye_ends : (i : ℕ) → 0 < occurs i r.monitors.slots → (alive (s STATE) (at s WATCHER i - 1) ≡ true) × (alive (s STATE) (at s WATCHED i - 1) ≡ true)
    eye_ends i o =
        let u = listed_used (s WATCHER) r.monitors.slots k.monitors (g.sized.words WATCHER (lit< tt)) r.monitors.all_slots i o in
        let c = monitor-ends g i u.1 u.0 in
        (c.one_lives, c.two_lives)

    -- ---- tests that refuse a call, the tables' and the reckoning's
    -- nobody runs
    pub idle-same : eqb (runner s) 0 ≡ idle l
    idle-same = rw r.people.running (split (eqb (runner s) 0) (λ q. rw q) (λ q. rw q (sym (id_not_zero (runner s - 1) (runner-alive q)))))

    -- who runs
    pub running_is : eqb (runner s) 0 ≡ false → l.people.running ≡ runner_id s
    running_is q = r.people.running ∙ rw q

    -- id is that of a live actor
    pub known_same : (id : ℕ) → is_actor s id ≡ known l id
    unfolding alive
    known_same id =
        let es = r.people.pool.slots in
        rw (r.people.pool.are, some-map (λ a. eqb a.id id) (actor_at s) es)
        (sym (and_yes (is_actor s id))
        ∙ sym (live_some ACTOR-FACTOR (s STATE) (s AGE) es (λ i. true) id (lit< tt)
        (λ i o. omega (arith, alive_slot i (exact_used (alive (s STATE)) es i r.people.pool.all_slots o), g.range.few_actors)) r.people.pool.all_slots)
        ∙ ap (λ (q : ℕ → Bool). some q es) (fun_ext (λ i. and_yes (eqb (actor_id s i) id))))

    -- the running actor has nothing in hand
    pub hand_same : eqb (runner s) 0 ≡ false → eqb (at s HAND (runner s - 1)) 0 ≡ not (holds l)
    hand_same h =
        let b = runner s - 1 in
        rw (sym (some-map (λ x. eqb x.to l.people.running) letter l.mail.hands), r.mail.hands, some-map (λ x. eqb x.to l.people.running) (hand_at s) r.mail.palms, running_is h)
        (split (eqb (at s HAND b) 0)
        (λ q. let none = some_no (λ a. eqb (actor_id s a) (actor_id s b)) r.mail.palms (λ a o. actor_id-eqb a b (palm_owner a o) (runner-alive h)
        ∙ ne_eqb a b (λ z. let n = owner_some (s HAND) r.mail.palms r.mail.all_palms a o in omega (arith, eqb-true (at s HAND b) 0 q, rw z at n))) in
        rw (q, none))
        (λ q. let o : 0 < occurs b r.mail.palms = rw (r.mail.all_palms b, q) (omega arith) in
        rw (q, some_yes (λ a. eqb (actor_id s a) (actor_id s b)) r.mail.palms b o (eq-eqb (actor_id s b) (actor_id s b) refl))))

-- ---- what is left of each pool
-- as many slots can be taken as the reckoning has left: those in use, those worn and those that can be taken are all
pub pool_left : {A : Type 0} (P : Aged) (k : Caps) (s : State) {thing : ℕ → A} {things : List A} {worn : List ℕ} → length (s P.word) ≡ P.many k → length (s P.age) ≡ P.many k →
    ((e : ℕ) → e < P.many k → at s P.age e ≤ OLDEST) → InPool P s thing things worn → slots_left P k s ≡ aged_left (P.many k) things worn
pool_left P k s {thing = thing} {worn = worn} x y old a =
    let free = exact_free (λ i. not (unused (s P.word) i) || is_worn (s P.word) (s P.age) i) (can_take P s) (P.many k) (a.slots ++ worn) past
    (λ e. occurs-append e a.slots worn ∙ ap₂ (λ (i j : ℕ). i + j) (a.all_slots e) (a.worn_slots e)
    ∙ either (unused (s P.word) e) (eqb (at s P.age e) OLDEST))
    (λ e h. young (unused (s P.word) e) (at s P.age e) (old e h)) in
    rw (a.are, length-map a.slots thing) (omega (arith, length-append a.slots worn, free))
  where
    -- a slot is in use or worn, not both
    either : (u o : Bool) → bool_byte (not u) + bool_byte (u && o) ≡ bool_byte (not u || u && o)
    either true true = refl
    either true false = refl
    either false o = refl

    -- past the last slot there is neither
    past : (e : ℕ) → P.many k ≤ e → (not (unused (s P.word) e) || is_worn (s P.word) (s P.age) e) ≡ false
    past e h =
        let c : at s P.word e ≡ 0 = get_or-eq_default (s P.word) 0 (omega arith) in
        let d : at s P.age e ≡ 0 = get_or-eq_default (s P.age) 0 (omega arith) in
        rw (c, d)

    -- one that is neither can be taken
    young : (u : Bool) (age : ℕ) → age ≤ OLDEST → u && ltb age OLDEST ≡ not (not u || u && eqb age OLDEST)
    young false age h = refl
    young true age h =
        split (eqb age OLDEST)
        (λ q. rw (q, le-ltb age OLDEST (omega (arith, eqb-true age OLDEST q))))
        (λ q. rw (q, lt-ltb age OLDEST (omega (arith, eqb-false age OLDEST q))))

-- bits: those taken and those free are all
pub bits_left : (n : ℕ) (f : ℕ → Bool) (es : List ℕ) → Exact es (λ e. ltb e n && not (f e)) → length es + count f n ≡ n
bits_left n f es x = exact_free (λ e. ltb e n && not (f e)) f n es (λ e h. rw (le-ltb e n h)) x (λ e h. rw (lt-ltb e n h) (sym (not-not (f e))))

-- words: those in use and those unused are all
pub words_left : (words : List ℕ) (n : ℕ) (es : List ℕ) → length words ≡ n → Exact es (λ i. not (unused words i)) → length es + count (unused words) n ≡ n
words_left words n es z x = exact_free (λ i. not (unused words i)) (unused words) n es past x (λ e h. sym (not-not (unused words e)))
  where
    -- past the last word none is in use
    past : (e : ℕ) → n ≤ e → not (unused words e) ≡ false
    past e h = let c : get_or words e 0 ≡ 0 = get_or-eq_default words 0 (omega arith) in rw c

-- an entry can be taken where something is left
pub room_same : (f : ℕ → Bool) (n left : ℕ) → count f n ≡ left → ltb (lowest f n) n ≡ not (eqb left 0)
room_same f n left e =
    split (eqb left 0)
    (λ q. rw q (le-ltb (lowest f n) n (omega (arith, (none_iff f n).1 (e ∙ eqb-true left 0 q)))))
    (λ q. rw q (lt-ltb (lowest f n) n ((room_iff f n).1 (omega (arith, eqb-false left 0 q)))))

-- and none can where nothing is
pub full-same : (f : ℕ → Bool) (n left : ℕ) → count f n ≡ left → not (ltb (lowest f n) n) ≡ eqb left 0
full-same f n left e = ap not (room_same f n left e) ∙ not-not (eqb left 0)

module _ (k : Caps) (s : State) (g : Good k s) (l : Ledger) (r : Agrees k l s) where
  -- actor slots
  pub actors-left : slots_left actor_pool k s ≡ actors_left l
  unfolding alive
  actors-left = rw r.sizes (pool_left actor_pool k s (g.sized.words STATE (lit< tt)) (g.sized.words AGE (lit< tt)) (λ e h. age_fits g e) r.people.pool)

  -- queued messages and free mailbox entries are all mailbox entries
  pub boxes-count : length l.mail.boxes + count (free (s MAIL-FREE)) k.mails ≡ l.sizes.mails
  boxes-count = rw (r.sizes, sym (length-map l.mail.boxes letter), r.mail.boxes, length-map (arrivals s) (box_at s)) (bits_left k.mails (free (s MAIL-FREE)) (arrivals s) r.mail.all_boxes)

  -- mailbox entries
  pub mails-left : count (free (s MAIL-FREE)) k.mails ≡ mails_left l
  mails-left = omega (arith, boxes-count)

  -- the data entries of the owners and the free ones are all data entries
  pub datas-count : total (holdings l) + count (free (s DATA-FREE)) k.datas ≡ l.sizes.datas
  datas-count =
      rw (
        r.sizes,
        sym (length-map l.mail.boxes letter),
        sym (length-map l.mail.hands letter),
        r.mail.boxes,
        r.mail.hands,
        length-map (arrivals s) (box_at s),
        length-map r.mail.palms (hand_at s),
        r.buses.values,
        length-map (values_in s) (value_said s r.buses.rank),
        length-map (up_to (head s ISSUED)) (value_at s),
      )
      (omega (arith, bits_left k.datas (free (s DATA-FREE)) (named s (owners s r.mail.palms)) r.mail.all_datas, named-length s (owners s r.mail.palms)))

  -- data entries
  pub datas-left : count (free (s DATA-FREE)) k.datas ≡ datas_left l
  datas-left = omega (arith, datas-count)

  -- there is room for a message exactly where something is left of both message pools
  pub message_room : has_room k s ≡ not (eqb (mails_left l) 0 || eqb (datas_left l) 0)
  message_room =
      rw (room_same (free (s MAIL-FREE)) k.mails (mails_left l) mails-left, room_same (free (s DATA-FREE)) k.datas (datas_left l) datas-left)
      (both (eqb (mails_left l) 0) (eqb (datas_left l) 0))
    where
      -- neither of two
      both : (a b : Bool) → not a && not b ≡ not (a || b)
      both true b = refl
      both false b = refl

  -- there is room, and it is left
  pub room_some : has_room k s ≡ true → messages_left l ≡ 0 → ⊥
  room_some q z =
      let n = neither (eqb (mails_left l) 0) (eqb (datas_left l) 0) (not-true (eqb (mails_left l) 0 || eqb (datas_left l) 0) (sym message_room ∙ q)) in
      omega (arith, eqb-false (mails_left l) 0 n.0, eqb-false (datas_left l) 0 n.1)

  -- there is none, and none is left
  pub room_none : has_room k s ≡ false → messages_left l ≡ 0
  room_none q =
      let e = not-false (eqb (mails_left l) 0 || eqb (datas_left l) 0) (sym message_room ∙ q) in
      split (eqb (mails_left l) 0) (λ y. omega (arith, eqb-true (mails_left l) 0 y)) (λ y. omega (arith, eqb-true (datas_left l) 0 (rw y at e)))

  -- links
  pub links-left : count (unused (s LINK-ONE)) k.links ≡ links_left l
  links-left =
      rw (r.sizes, r.links.links, length-map r.links.bonds (link_at s))
      (omega (arith, words_left (s LINK-ONE) k.links r.links.bonds (g.sized.words LINK-ONE (lit< tt)) r.links.all_bonds))

  -- monitors
  pub monitors-left : slots_left monitor_pool k s ≡ monitors_left l
  monitors-left = rw r.sizes (pool_left monitor_pool k s (g.sized.words WATCHER (lit< tt)) (g.sized.words MONITOR-AGE (lit< tt)) (λ e h. monitor_age_fits g e) r.monitors)

  -- timers
  pub timers-left : slots_left timer_pool k s ≡ timers_left l
  timers-left = rw r.sizes (pool_left timer_pool k s (g.sized.words TIMER-OWNER (lit< tt)) (g.sized.words TIMER-AGE (lit< tt)) (λ e h. timer_age_fits g e) r.time.pool)
