-- Who reads the buses, and the reckoning: who stands up, who leaves every bus, who sits down.
use Prim.Native.Nat.{ℕ, zero, suc, ◌+◌, ◌-◌, ◌/◌, ◌%◌, ◌≤◌, ◌<◌}
use native.Mathlib.Omega.{arith}
use mathlib.Core.Path.{◌≡◌, refl, sym, ap, subst, ◌∙◌, fun_ext}
use mathlib.Core.Bool.{Bool, true, false, cond, not, ◌&&◌, and-false, and-true as and_yes}
use mathlib.Core.List.{List, [], ◌∷◌, ◌++◌, map}
use lib.ListN.{length, get_or, set}
use lib.Seq.{get_or-set_same}
use lib.Dec.{eqb, ltb, lit<}
use borrow.Author.Tests.{eqb-true, eqb-false, eq-eqb, ne_eqb, lt-ltb, le-ltb, lt-leb}
use Rattle.ledger.specs.Lists.{some, those}
use Rattle.ledger.specs.Ledger.{Ledger, Reader}
use Rattle.ledger.specs.Reckon.{end_readers, joined, with_readers}
use Rattle.ledger.specs.Room.{is_reader, subscribed}
use Rattle.pools.specs.Bits.{cleared}
use Rattle.pools.specs.Lists.{keep}
use Rattle.pools.specs.Slot.{id_of}
use Rattle.pools.proofs.BoolLaws.{and_left, and_right, and_true, same_bool, split}
use Rattle.pools.proofs.BitLaws.{cleared-other}
use Rattle.pools.proofs.ListLaws.{keep-all_on, keep-keep, keep-same_on}
use Rattle.pools.proofs.PoolLaws.{count_same}
use Rattle.tables.specs.declared.Caps.{Caps}
use Rattle.tables.specs.Columns.{AGE, BUSES, LENGTH, PAYLOAD, PUBLISHED, READERS, SEAT, STATE, VALUE-BUS}
use Rattle.tables.specs.Limits.{ACTOR-FACTOR, MOST-BUSES, MOST-SEATS}
use Rattle.tables.specs.State.{State, at, head, poke, with_col}
use Rattle.rules.specs.Agrees.{Agrees, reader_at, value_said, values_in}
use Rattle.rules.specs.Buses.{has_read, in_seat, leave_buses, may_read, read_by, seat_at, seat_of, sit_down, sits, stand_up}
use Rattle.rules.specs.Good.{Good}
use Rattle.rules.specs.Terms.{actor_id, alive, runner}
use Rattle.rules.proofs.Frames.Buses.{wrote_leave_buses, wrote_sit_down, wrote_stand_up}
use Rattle.rules.proofs.Kept.Clauses.{buses-fit, seat_once}
use Rattle.rules.proofs.Kept.Seats.{forget-at, seat_made, sits-not, sits_seat, sits-there, stand_up_keeps, stand_up-seats}
use Rattle.rules.proofs.Lists.Columns.{other, set-zero}
use Rattle.rules.proofs.Lists.Ties.{begins, down, ends, set-cond, step, used_inside}
use Rattle.rules.proofs.Lists.Values.{anew}
use Rattle.rules.proofs.Reckoned.Ledger.{map-same_on, runner-alive, running_is, seat_owner, seat_used, some-map, some_no, some_yes, those-keep, those-map, used_seat}
use Rattle.rules.proofs.Reckoned.Parts.{agrees_buses, living}
use Rattle.rules.proofs.Reckoned.Pools.{things_begin, things_end}
use Rattle.rules.proofs.Reckoned.Ties.{up_id}
use Rattle.rules.proofs.Reckoned.Values.{made-still, row-still}

-- ---- an actor in the seats of a bus
module _ (k : Caps) (l : Ledger) (s : State) (g : Good k s) (r : Agrees k l s) (b a : ℕ) (there : alive (s STATE) a ≡ true) where
  -- who sits in a seat is that actor on that bus, on both sides or on neither
  reader_same : (i : ℕ) → (at s SEAT i ≡ 0 → ⊥) → is_reader b (actor_id s a) (reader_at s r.buses.cursor i) ≡ eqb (i / MOST-SEATS) b && eqb (at s SEAT i) (suc a)
  reader_same i u = ap (λ (x : Bool). eqb (i / MOST-SEATS) b && x) (up_id k l s g r (at s SEAT i) a (omega (arith, u)) (seat_owner k s g i u) there)

  -- where it sits in seat n, it is that seat
  pub reader_seat : (n : ℕ) → b < MOST-BUSES → n < MOST-SEATS → in_seat s b n ≡ suc a →
      (i : ℕ) → (at s SEAT i ≡ 0 → ⊥) → is_reader b (actor_id s a) (reader_at s r.buses.cursor i) ≡ eqb i (seat_at b n)
  reader_seat n bl nl e i u =
      reader_same i u
      ∙ same_bool (eqb (i / MOST-SEATS) b && eqb (at s SEAT i) (suc a)) (eqb i (seat_at b n))
      (λ q. let x = eqb-true (i / MOST-SEATS) b (and_left (eqb (i / MOST-SEATS) b) (eqb (at s SEAT i) (suc a)) q) in
      let y = eqb-true (at s SEAT i) (suc a) (and_right (eqb (i / MOST-SEATS) b) (eqb (at s SEAT i) (suc a)) q) in
      let here : i ≡ seat_at b (i % MOST-SEATS) = omega arith in
      let z = seat_once g b (i % MOST-SEATS) n bl (omega arith) nl (λ w. omega arith) (ap (at s SEAT) (sym here) ∙ y ∙ sym e) in
      eq-eqb i (seat_at b n) (omega arith))
      (λ q. let z = eqb-true i (seat_at b n) q in
      and_true _ _ (eq-eqb (i / MOST-SEATS) b (omega arith)) (eq-eqb (at s SEAT i) (suc a) (ap (at s SEAT) z ∙ e)))

  -- where it sits nowhere on the bus, it is none
  pub reader_none : sits s b (suc a) ≡ false → (i : ℕ) → (at s SEAT i ≡ 0 → ⊥) → is_reader b (actor_id s a) (reader_at s r.buses.cursor i) ≡ false
  reader_none q i u =
      reader_same i u
      ∙ split (eqb (i / MOST-SEATS) b)
      (λ x. let here : i ≡ seat_at b (i % MOST-SEATS) = omega (arith, eqb-true (i / MOST-SEATS) b x) in
      rw x (ap (λ (j : ℕ). eqb (at s SEAT j) (suc a)) here ∙ ne_eqb (in_seat s b (i % MOST-SEATS)) (suc a) (sits-not s b (suc a) q (i % MOST-SEATS) (omega arith))))
      (λ x. rw x)

  -- THE LAW: it is subscribed on both sides, or on neither
  pub sits-same : sits s b (suc a) ≡ some (is_reader b (actor_id s a)) l.buses.readers
  sits-same =
      let f = reader_at s r.buses.cursor in
      let p = is_reader b (actor_id s a) in
      rw (r.buses.readers, some-map p f r.buses.seats)
      (split (sits s b (suc a))
      (λ q. let n = seat_of s b (suc a) in
      let h = sits_seat s b (suc a) q in
      let e = sits-there s b (suc a) q in
      let u : at s SEAT (seat_at b n) ≡ 0 → ⊥ = λ z. omega arith in
      rw q (sym (some_yes (λ i. p (f i)) r.buses.seats (seat_at b n) (used_seat k s g l r (seat_at b n) u)
      (reader_same (seat_at b n) u ∙ and_true _ _ (eq-eqb (seat_at b n / MOST-SEATS) b (omega arith)) (eq-eqb (in_seat s b n) (suc a) e)))))
      (λ q. rw q (sym (some_no (λ i. p (f i)) r.buses.seats (λ i o. reader_none q i (seat_used k s g l r i o))))))

-- ---- the running actor
-- its slot, one up
pub runner-up : (s : State) → eqb (runner s) 0 ≡ false → suc (runner s - 1) ≡ runner s
runner-up s h = omega (arith, eqb-false (runner s) 0 h)

-- it is subscribed on both sides, or on neither
pub subscribed-same : (k : Caps) (l : Ledger) (s : State) (g : Good k s) (r : Agrees k l s) (b : ℕ) → eqb (runner s) 0 ≡ false → sits s b (runner s) ≡ subscribed l b
subscribed-same k l s g r b h =
    ap (sits s b) (sym (runner-up s h))
    ∙ sits-same k l s g r b (runner s - 1) (runner-alive k s g h)
    ∙ ap (λ (id : ℕ). some (is_reader b id) l.buses.readers) (sym (running_is k s g l r h))

-- ---- who stands up
-- a bit of those who may still read is none of those who have read
clear_reads : (x n : ℕ) → read_by (cleared x (MOST-SEATS + n)) ≡ read_by x
clear_reads x n =
    count_same (has_read x) (has_read (cleared x (MOST-SEATS + n))) MOST-SEATS (λ i h. ap (λ (y : ℕ). eqb y 1) (cleared-other x (MOST-SEATS + n) i (λ z. omega arith)))

-- nobody else's
clear-may : (x n m : ℕ) → eqb m n ≡ false → may_read (cleared x (MOST-SEATS + n)) m ≡ may_read x m
clear-may x n m q = let d = eqb-false m n q in ap (λ (y : ℕ). eqb y 1) (cleared-other x (MOST-SEATS + n) (MOST-SEATS + m) (λ z. d (omega arith)))

module _ (k : Caps) (s : State) (g : Good k s) (b n : ℕ) where
  -- who reads a data entry once one stood up
  stood_reads : (d : ℕ) → at (stand_up k s b n) READERS d ≡ cond (eqb (at s VALUE-BUS d) (suc b)) (cleared (at s READERS d) (MOST-SEATS + n)) (at s READERS d)
  unfolding stand_up poke with_col
  stood_reads d =
      forget-at b n k.datas s d
      ∙ split (eqb (at s VALUE-BUS d) (suc b))
      (λ q. let e = eqb-true (at s VALUE-BUS d) (suc b) q in
      rw (q, lt-ltb d k.datas (omega (arith, used_inside (s VALUE-BUS) d (λ z. omega arith), g.sized.words VALUE-BUS (lit< tt)))))
      (λ q. rw (q, and-false (ltb d k.datas)))

  -- as many have read it
  stood-read : (d : ℕ) → read_by (at (stand_up k s b n) READERS d) ≡ read_by (at s READERS d)
  stood-read d =
      split (eqb (at s VALUE-BUS d) (suc b))
      (λ q. rw (stood_reads d, q) (clear_reads (at s READERS d) n))
      (λ q. rw (stood_reads d, q))

  -- another may still read what it could
  stood-may : (c m d : ℕ) → at s VALUE-BUS d ≡ suc c → (c ≡ b → m ≡ n → ⊥) → may_read (at (stand_up k s b n) READERS d) m ≡ may_read (at s READERS d) m
  stood-may c m d e f =
      split (eqb (at s VALUE-BUS d) (suc b))
      (λ q. let z = eqb-true (at s VALUE-BUS d) (suc b) q in
      rw (stood_reads d, q) (clear-may (at s READERS d) n m (ne_eqb m n (f (omega arith)))))
      (λ q. rw (stood_reads d, q))

module _ (k : Caps) (l : Ledger) (s : State) (g : Good k s) (r : Agrees k l s) (b n : ℕ) (bl : b < MOST-BUSES) (nl : n < MOST-SEATS) where
  -- who sits in a seat then is in another
  stood-sits : (i : ℕ) → (at (stand_up k s b n) SEAT i ≡ 0 → ⊥) → (eqb i (seat_at b n) ≡ false) × (at s SEAT i ≡ 0 → ⊥)
  stood-sits i u =
      let e = ap (λ (c : List ℕ). get_or c i 0) (stand_up-seats k s b n) in
      let q : eqb i (seat_at b n) ≡ false = ne_eqb i (seat_at b n) (λ z. u (e ∙ ap (λ (j : ℕ). get_or (set (s SEAT) (seat_at b n) 0) j 0) z ∙ set-zero (s SEAT) (seat_at b n))) in
      (q, λ z. u (e ∙ other (s SEAT) (seat_at b n) 0 i q ∙ z))

  -- the seat is given up on both sides, where the reckoning's test is that of this seat
  stood_agrees : (q : Reader → Bool) → ((i : ℕ) → (at s SEAT i ≡ 0 → ⊥) → q (reader_at s r.buses.cursor i) ≡ eqb i (seat_at b n)) → Agrees k (end_readers q l) (stand_up k s b n)
  unfolding end_readers
  stood_agrees q same =
      let t = stand_up k s b n in
      let w = wrote_stand_up k s b n in
      let v = r.buses in
      let seats = stand_up-seats k s b n in
      let inside : seat_at b n < length (s SEAT) = omega (arith, g.sized.words SEAT (lit< tt)) in
      agrees_buses w r _ (living w refl) refl (record {
        made = made-still w refl v.made;
        rank = v.rank;
        values = v.values
            ∙ map-same_on (value_said s v.rank) (value_said t v.rank) (values_in s)
            (λ d o. rw (w.cols VALUE-BUS refl, w.cols LENGTH refl, w.cols PAYLOAD refl, w.cols PUBLISHED refl, stood-read k s g b n d))
            ∙ ap (map (value_said t v.rank)) (sym (row-still w refl));
        seats = keep (λ i. not (eqb i (seat_at b n))) v.seats;
        all_seats = rw seats (ends (s SEAT) (set (s SEAT) (seat_at b n) 0) (λ i. eqb i (seat_at b n)) (λ i. set-cond (s SEAT) (seat_at b n) 0 i inside) v.seats v.all_seats);
        cursor = v.cursor;
        readers = things_end (reader_at s v.cursor) (reader_at t v.cursor) l.buses.readers v.seats q (λ i. eqb i (seat_at b n)) v.readers
            (λ i o. same i (seat_used k s g l r i o)) (λ i z. rw (w.cols AGE refl, seats, other (s SEAT) (seat_at b n) 0 i z));
        ascending = rw (row-still w refl) v.ascending;
        before = λ d u. v.before d (λ z. u (rw (w.cols VALUE-BUS refl) z));
        came = λ i u. v.came i (stood-sits i u).1;
        unread = λ c m d ml u e.
            let p = stood-sits (seat_at c m) u in
            let x : at s VALUE-BUS d ≡ suc c = rw (w.cols VALUE-BUS refl) at e in
            stood-may k s g b n c m d x (λ y z. eqb-false (seat_at c m) (seat_at b n) p.0 (omega arith)) ∙ v.unread c m d ml p.1 x;
      })

  -- THE THEOREM of one who stands up: the reckoning's subscription of that actor to that bus ends
  pub stand_up_agrees : (a : ℕ) → alive (s STATE) a ≡ true → in_seat s b n ≡ suc a → Agrees k (end_readers (is_reader b (actor_id s a)) l) (stand_up k s b n)
  stand_up_agrees a there e = stood_agrees (is_reader b (actor_id s a)) (reader_seat k l s g r b a there n bl nl e)

-- ---- who leaves every bus
-- the reckoning where subscriptions end of which there are none
readers_none : (k : Caps) (l : Ledger) (s : State) (g : Good k s) (r : Agrees k l s) (q : Reader → Bool) →
    ((i : ℕ) → (at s SEAT i ≡ 0 → ⊥) → q (reader_at s r.buses.cursor i) ≡ false) → those (λ x. not (q x)) l.buses.readers ≡ l.buses.readers
readers_none k l s g r q none =
    let f = reader_at s r.buses.cursor in
    rw (r.buses.readers, those-map (λ x. not (q x)) f r.buses.seats, keep-all_on (λ i. not (q (f i))) r.buses.seats (λ i o. ap not (none i (seat_used k s g l r i o))))

-- one bus
leave_one : (k : Caps) (l : Ledger) (s : State) → Good k s → Agrees k l s → (a b : ℕ) → alive (s STATE) a ≡ true → b < MOST-BUSES →
    let t = cond (sits s b (suc a)) (stand_up k s b (seat_of s b (suc a))) s in Good k t × Agrees k (end_readers (is_reader b (actor_id s a)) l) t
unfolding end_readers
leave_one k l s g r a b there bl =
    let n = seat_of s b (suc a) in
    split (sits s b (suc a))
    (λ q. let nl = sits_seat s b (suc a) q in
    rw q (stand_up_keeps k s g b n bl nl, stand_up_agrees k l s g r b n bl nl a there (sits-there s b (suc a) q)))
    (λ q. rw q (g, subst (λ (xs : List Reader). Agrees k (with_readers l xs) s) (sym (readers_none k l s g r (is_reader b (actor_id s a)) (reader_none k l s g r b a there q))) r))

-- the subscriptions of that one to the first n buses
abbrev on_first : ℕ → ℕ → Reader → Bool
on_first n id x = ltb x.bus n && eqb x.who id

-- those of the first buses end, and then those of the next
ends_next : (b id : ℕ) (l : Ledger) → end_readers (is_reader b id) (end_readers (on_first b id) l) ≡ end_readers (on_first (suc b) id) l
unfolding end_readers
ends_next b id l =
    let p : Reader → Bool = λ x. not (on_first b id x) in
    let q : Reader → Bool = λ x. not (is_reader b id x) in
    let xs = l.buses.readers in
    ap (with_readers l)
    (those-keep q (those p xs) ∙ ap (keep q) (those-keep p xs) ∙ keep-keep q p xs
    ∙ ap (λ (f : Reader → Bool). keep f xs) (fun_ext (λ x. both x.bus (eqb x.who id)))
    ∙ sym (those-keep (λ x. not (on_first (suc b) id x)) xs))
  where
    -- below b or b is below b + 1
    both : (c : ℕ) (w : Bool) → not (ltb c b && w) && not (eqb c b && w) ≡ not (ltb c (suc b) && w)
    both c false = rw (and-false (ltb c b), and-false (eqb c b), and-false (ltb c (suc b)))
    both c true =
        split (eqb c b)
        (λ q. let e = eqb-true c b q in rw (q, lt-ltb c (suc b) (omega arith), le-ltb c b (omega arith)))
        (λ q. rw (q, step b c q) (and_yes (not (ltb c b && true))))

-- what is so once one has left the first n buses
abbrev Leaves : ℕ → Type 0
Leaves n = (k : Caps) (l : Ledger) (s : State) → Good k s → Agrees k l s → (a : ℕ) → alive (s STATE) a ≡ true → n ≤ MOST-BUSES →
    Good k (leave_buses k a n s) × Agrees k (end_readers (on_first n (actor_id s a)) l) (leave_buses k a n s)

-- none of none
leaves_none : Leaves 0
unfolding leave_buses end_readers
leaves_none k l s g r a there h =
    (g, subst (λ (xs : List Reader). Agrees k (with_readers l xs) s) (sym (readers_none k l s g r (on_first 0 (actor_id s a)) (λ i u. rw (le-ltb (i / MOST-SEATS) 0 (omega arith))))) r)

-- one bus more
leaves_next : (b : ℕ) → Leaves b → Leaves (suc b)
unfolding leave_buses
leaves_next b leaves k l s g r a there h =
    let u = leave_buses k a b s in
    let w = wrote_leave_buses k a b s in
    let x = leaves k l s g r a there (omega arith) in
    let v : alive (u STATE) a ≡ true = rw (w.cols STATE refl) there in
    let y = leave_one k _ u x.0 x.1 a b v h in
    let id : actor_id u a ≡ actor_id s a = ap (λ (c : List ℕ). id_of ACTOR-FACTOR (get_or c a 0) a) (w.cols AGE refl) in (
      y.0,
      subst (λ (m : Ledger). Agrees k m (cond (sits u b (suc a)) (stand_up k u b (seat_of u b (suc a))) u))
          (ap (λ (j : ℕ). end_readers (is_reader b j) (end_readers (on_first b (actor_id s a)) l)) id ∙ ends_next b (actor_id s a) l) y.1,
    )

-- any of them
leaves : (n : ℕ) → Leaves n
leaves zero = leaves_none
leaves (suc b) = leaves_next b (leaves b)

-- THE THEOREM of one who leaves every bus: its subscriptions end
pub leave_buses_agrees : (k : Caps) (l : Ledger) (s : State) → Good k s → Agrees k l s → (a : ℕ) → alive (s STATE) a ≡ true →
    Agrees k (end_readers (λ x. eqb x.who (actor_id s a)) l) (leave_buses k a (head s BUSES) s)
unfolding end_readers
leave_buses_agrees k l s g r a there =
    let id = actor_id s a in
    let f = reader_at s r.buses.cursor in
    let same : those (λ x. not (on_first (head s BUSES) id x)) l.buses.readers ≡ those (λ x. not (eqb x.who id)) l.buses.readers =
    rw (r.buses.readers, those-map (λ x. not (on_first (head s BUSES) id x)) f r.buses.seats, those-map (λ x. not (eqb x.who id)) f r.buses.seats)
    (ap (map f) (keep-same_on (λ i. not (on_first (head s BUSES) id (f i))) (λ i. not (eqb (f i).who id)) r.buses.seats
    (λ i o. rw (lt-ltb (i / MOST-SEATS) (head s BUSES) (seat_made k s g i (seat_used k s g l r i o)))))) in
    subst (λ (xs : List Reader). Agrees k (with_readers l xs) (leave_buses k a (head s BUSES) s)) same (leaves (head s BUSES) k l s g r a there (buses-fit g)).1

-- ---- who sits down
module _ (k : Caps) (l : Ledger) (s : State) (g : Good k s) (r : Agrees k l s) (b n a : ℕ) (bl : b < MOST-BUSES) (nl : n < MOST-SEATS) (empty : in_seat s b n ≡ 0) where
  -- in a free seat nobody may read what is there
  unseated : (d : ℕ) → at s VALUE-BUS d ≡ suc b → may_read (at s READERS d) n ≡ false
  unseated d e =
      let u : at s VALUE-BUS d ≡ 0 → ⊥ = λ z. omega arith in
      let h : d < k.datas = omega (arith, used_inside (s VALUE-BUS) d u, g.sized.words VALUE-BUS (lit< tt)) in
      let c : at s VALUE-BUS d - 1 ≡ b = omega arith in
      split (may_read (at s READERS d) n)
      (λ q. absurd ((((g.values d h).1 u).1 n nl q).1 (ap (λ (x : ℕ). in_seat s x n) c ∙ empty)))
      (λ q. q)

  -- THE THEOREM of one who sits down: the reckoning has one subscription more
  pub sit_down_agrees : Agrees k (joined b (actor_id s a) l) (sit_down s b n (suc a))
  unfolding joined sit_down poke with_col
  sit_down_agrees =
      let t = sit_down s b n (suc a) in
      let i = seat_at b n in
      let w = wrote_sit_down s b n (suc a) in
      let v = r.buses in
      let inside : i < length (s SEAT) = omega (arith, g.sized.words SEAT (lit< tt)) in
      let here : get_or (set (s SEAT) i (suc a)) i 0 ≡ suc a = get_or-set_same (s SEAT) i (suc a) 0 inside in
      let began = anew i l.buses.published v.cursor in
      agrees_buses w r _ (living w refl) refl (record {
        made = v.made;
        rank = v.rank;
        values = v.values;
        seats = v.seats ++ (i ∷ []);
        all_seats = begins (s SEAT) (s SEAT) i (suc a) inside empty (λ z. omega arith) v.seats v.all_seats;
        cursor = began;
        readers = things_begin (reader_at s v.cursor) (reader_at t began) l.buses.readers v.seats i (record { bus = b; who = actor_id s a; cursor = l.buses.published }) v.readers
            (rw (here, eq-eqb i i refl, down a) (ap (λ (x : ℕ). record { bus = x; who = actor_id s a; cursor = l.buses.published }) (omega arith)))
            (λ j o. let q : eqb j i ≡ false = ne_eqb j i (λ z. seat_used k s g l r j o (ap (at s SEAT) z ∙ empty)) in rw (other (s SEAT) i (suc a) j q, q));
        ascending = v.ascending;
        before = v.before;
        came = λ j u. split (eqb j i)
            (λ q. rw q (omega arith))
            (λ q. rw q (v.came j (λ z. u (other (s SEAT) i (suc a) j q ∙ z))));
        unread = λ c m d ml u e. split (eqb (seat_at c m) i)
            (λ q. let z = eqb-true (seat_at c m) i q in
            let x : c ≡ b = omega arith in
            let y : m ≡ n = omega arith in
            let o = v.before d (λ o. omega arith) in
            rw (q, y, lt-leb l.buses.published (v.rank d) o) (unseated d (omega arith)))
            (λ q. rw q (v.unread c m d ml (λ z. u (other (s SEAT) i (suc a) (seat_at c m) q ∙ z)) e));
      })
