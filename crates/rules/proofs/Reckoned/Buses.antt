-- The calls on buses, and the reckoning: their tests are the reckoning's, and what they do keeps the tables and the reckoning in step.
use Prim.Native.Nat.{ℕ, suc, ◌+◌, ◌-◌, ◌/◌, ◌%◌, ◌≤◌, ◌<◌}
use native.Mathlib.Omega.{arith}
use native.Mathlib.Numerals.{add-one}
use mathlib.Core.Path.{◌≡◌, refl, sym, ap, ap₂, subst, ◌∙◌}
use mathlib.Core.Bool.{Bool, true, false, not, ◌&&◌, and-false, not-not}
use mathlib.Core.List.{List, [], ◌∷◌, map, map-id}
use lib.ListN.{length, get_or, length-map}
use lib.Dec.{eqb, ltb, leb}
use borrow.Author.Tests.{eqb-true, eqb-false, eq-eqb, ne_eqb, le-leb, leb-true, leb-false, ltb-true, ltb-false, lt-ltb, not-false}
use Rattle.ledger.specs.Call.Op.{bus, publish, read, subscribe, unsubscribe}
use Rattle.ledger.specs.Ledger.{Ledger, Value}
use Rattle.ledger.specs.Lists.{but_first, those}
use Rattle.ledger.specs.Reckon.{bus_made, end_readers, entered, evicted, joined, reading}
use Rattle.ledger.specs.Room
use Rattle.ledger.specs.Room.{datas_left, heard, is_reader, seats_full}
use Rattle.pools.specs.Pool.{Exact, count, lowest, occurs}
use Rattle.pools.specs.Bits.{free}
use Rattle.pools.specs.Lists.{keep, without}
use Rattle.pools.proofs.BoolLaws.{and_left, and_right, and_true, same_bool, split}
use Rattle.pools.proofs.ExactLaws.{exact_free, exact_used}
use Rattle.pools.proofs.ListLaws.{keep-keep, keep_none_on, keep-same_on}
use Rattle.pools.proofs.PoolLaws.{lowest-at, lowest-first}
use Rattle.tables.specs.declared.Caps.{Caps}
use Rattle.tables.specs.Columns.{BUS-AGE, BUS-READS, BUS-SEATS, BUS-SIZE, BUSES, DATA-FREE, ISSUED, VALUE-BUS}
use Rattle.tables.specs.Limits.{MOST-BUSES, MOST-SEATS, PAYLOAD-MOST}
use Rattle.tables.specs.State.{State, at, head, poke, with_col}
use Rattle.rules.specs.Actions.{data_for}
use Rattle.rules.specs.Agrees.{Agrees, bus_at, reader_at, up_to, value_said, values_in}
use Rattle.rules.specs.Buses.{broadcast, bus_full, evict, in_seat, is_on, is_unread, make_bus, oldest_on}
use Rattle.rules.specs.Buses.{oldest_unread, read_off, seat_at, seat_for, seat_of, sit_down, sits, stand_up, unread_length, value_at}
use Rattle.rules.specs.Calls.{entry}
use Rattle.rules.specs.Run.{say}
use Rattle.rules.specs.Good.{Good}
use Rattle.rules.specs.Terms.{runner, runner_id}
use Rattle.rules.proofs.Claims.{Agreed, Tested}
use Rattle.rules.proofs.Frames.Buses.{wrote_make_bus}
use Rattle.rules.proofs.Guards.{Passed, fourth_passed, second_passed, third_passed}
use Rattle.rules.proofs.Kept.Buses.{publish_keeps}
use Rattle.rules.proofs.Kept.Clauses.{buses-fit, read_back, seat_below, seats-fit}
use Rattle.rules.proofs.Kept.Owners.{occurs-column}
use Rattle.rules.proofs.Kept.Row.{value_there, values-at, values_listed, values_long}
use Rattle.rules.proofs.Kept.Seats.{bus-there, seat_there, sits-bus, sits_seat, sits-there}
use Rattle.rules.proofs.Kept.Values.{evict-free, evict_keeps, oldest_there}
use Rattle.rules.proofs.Lists.Columns.{other}
use Rattle.rules.proofs.Lists.Ties.{one_up}
use Rattle.rules.proofs.Lists.Values.{map-without, occurs-map, up_to_exact}
use Rattle.rules.proofs.Reckoned.Ledger.{but-map, datas-left, first-at, full-same, idle-same, runner-alive, running_is, those-map}
use Rattle.rules.proofs.Reckoned.Parts.{agrees_buses, living}
use Rattle.rules.proofs.Reckoned.Pools.{things_begin}
use Rattle.rules.proofs.Reckoned.Readers.{runner-up, sit_down_agrees, stand_up_agrees, subscribed-same}
use Rattle.rules.proofs.Reckoned.Reads.{oldest_is, oldest_none, read_off_agrees, unread_long}
use Rattle.rules.proofs.Reckoned.Values.{bus_is, buses_long, issue_agrees, retire_agrees}

-- ---- a bus that is full
module _ (k : Caps) (l : Ledger) (s : State) (g : Good k s) (r : Agrees k l s) (b : ℕ) (made : b < head s BUSES) where
  -- there are as many values of a bus
  values_of : length (those (λ v. eqb v.bus b) l.buses.values) ≡ occurs (suc b) (s VALUE-BUS)
  values_of =
      rw (r.buses.values, those-map (λ v. eqb v.bus b) (value_said s r.buses.rank) (values_in s))
      (length-map (keep (λ d. eqb (at s VALUE-BUS d - 1) b) (values_in s)) (value_said s r.buses.rank)
      ∙ sym (occurs-map b (λ d. at s VALUE-BUS d - 1) (values_in s)) ∙ occurs-column b (s VALUE-BUS) (values_in s) (values_listed k s g))

  -- it has all that it can have
  full-bus : bus_full s b ≡ Room.bus_full l b
  full-bus = rw (bus_is k l s g r b made, values_of)

  -- the reckoning without its oldest
  oldest_gone : oldest_on s b < head s ISSUED → but_first (λ v. eqb v.bus b) l.buses.values ≡ without (oldest_on s b) l.buses.values
  oldest_gone h =
      let j = oldest_on s b in
      let f = value_said s r.buses.rank in
      let p : ℕ → Bool = λ d. eqb (at s VALUE-BUS d - 1) b in
      let on : (i : ℕ) → i < head s ISSUED → p (get_or (values_in s) i 0) ≡ is_on s b i = λ i m.
      ap p (values-at k s g i m) ∙ one_up (at s VALUE-BUS (value_at s i)) b (value_there k s g i m) in
      rw r.buses.values (but-map (λ v. eqb v.bus b) f (values_in s)
      ∙ ap (map f) (first-at p (values_in s) j (omega (arith, values_long k s g)) (on j h ∙ lowest-at (is_on s b) (head s ISSUED) h)
      (λ i m. on i (omega arith) ∙ lowest-first (is_on s b) (head s ISSUED) i m)).1
      ∙ map-without f j (values_in s))

  -- "a full bus evicts its oldest entry first": on both sides
  pub evict_agrees : Agrees k (evicted b l) (evict s b)
  unfolding evict evicted
  evict_agrees =
      split (bus_full s b)
      (λ q. let h = oldest_there k s g b made q in
      rw (q, sym full-bus ∙ q) (rw (oldest_gone h) (retire_agrees k s g (oldest_on s b) h l r)))
      (λ q. rw (q, sym full-bus ∙ q) r)

-- ---- publish
-- its tests are the reckoning's
pub publish_same : (b : ℕ) (payload : List ℕ) → Tested (publish b payload)
publish_same b payload k s l g r = (
  idle-same k s g l r,
  refl,
  λ h. (
    refl,
    refl,
    λ q. (
      ap (λ (n : ℕ). not (ltb b n)) (sym (buses_long k l s g r)),
      refl,
      λ u. (
        ap₂ (λ (x : Bool) (y : Bool). not x && y) (full-bus k l s g r b (bus-there s b u))
            (full-same (free (s DATA-FREE)) k.datas (datas_left l) (datas-left k s g l r)),
        refl,
        λ z. record {},
      ),
    ),
  ),
)

-- THE THEOREM of publish, and the reckoning
pub publish_agrees : (b : ℕ) (payload : List ℕ) → Agreed (publish b payload)
unfolding entered broadcast
publish_agrees b payload k s l g r p =
    let u = evict s b in
    let made = bus-there s b (third_passed p) in
    let f = evict-free k s g b made (fourth_passed p) in
    issue_agrees k u (evict_keeps k s g b made) (data_for k u) f (lowest-at (free (u DATA-FREE)) k.datas f) b payload (ltb-false PAYLOAD-MOST (length payload) (second_passed p))
    (publish_keeps b payload k s g p) (evicted b l) (evict_agrees k l s g r b made)

-- ---- subscribe and unsubscribe
module _ (k : Caps) (l : Ledger) (s : State) (g : Good k s) (r : Agrees k l s) where
  module _ (b : ℕ) (made : b < head s BUSES) where
    -- the seats of the bus that are in use, each once
    seats_exact : Exact (map (λ i. i % MOST-SEATS) (keep (λ i. eqb (i / MOST-SEATS) b) r.buses.seats)) (λ n. ltb n MOST-SEATS && not (eqb (in_seat s b n) 0))
    seats_exact n =
        let seats = r.buses.seats in
        let p : ℕ → Bool = λ i. eqb (i / MOST-SEATS) b in
        let q : ℕ → Bool = λ i. eqb (i % MOST-SEATS) n in
        occurs-map n (λ i. i % MOST-SEATS) (keep p seats) ∙ ap length (keep-keep q p seats)
        ∙ split (ltb n MOST-SEATS)
        (λ h. let m = ltb-true n MOST-SEATS h in
        rw (h, keep-same_on (λ i. p i && q i) (λ i. eqb i (seat_at b n)) seats (λ i o. one_seat i n m))
        (sym (occurs-map (seat_at b n) (λ i. i) seats) ∙ rw (map-id seats) (r.buses.all_seats (seat_at b n))))
        (λ h. let m = ltb-false n MOST-SEATS h in
        rw (h, keep_none_on (λ i. p i && q i) seats (λ i o. rw (ne_eqb (i % MOST-SEATS) n (λ z. omega arith)) (and-false (p i)))))
      where
        -- seat n of bus b is one of all
        one_seat : (i n : ℕ) → n < MOST-SEATS → eqb (i / MOST-SEATS) b && eqb (i % MOST-SEATS) n ≡ eqb i (seat_at b n)
        one_seat i n m =
            same_bool (eqb (i / MOST-SEATS) b && eqb (i % MOST-SEATS) n) (eqb i (seat_at b n))
            (λ q. let x = eqb-true (i / MOST-SEATS) b (and_left (eqb (i / MOST-SEATS) b) (eqb (i % MOST-SEATS) n) q) in
            let y = eqb-true (i % MOST-SEATS) n (and_right (eqb (i / MOST-SEATS) b) (eqb (i % MOST-SEATS) n) q) in
            eq-eqb i (seat_at b n) (omega arith))
            (λ q. let z = eqb-true i (seat_at b n) q in
            and_true (eqb (i / MOST-SEATS) b) (eqb (i % MOST-SEATS) n) (eq-eqb (i / MOST-SEATS) b (omega arith)) (eq-eqb (i % MOST-SEATS) n (omega arith)))

    -- the subscribers of a bus and its free seats are all its seats
    seats-count : length (those (λ x. eqb x.bus b) l.buses.readers) + count (λ n. eqb (in_seat s b n) 0) (at s BUS-SEATS b) ≡ at s BUS-SEATS b
    seats-count =
        let mine = keep (λ i. eqb (i / MOST-SEATS) b) r.buses.seats in
        let free = exact_free (λ n. ltb n MOST-SEATS && not (eqb (in_seat s b n) 0)) (λ n. eqb (in_seat s b n) 0) (at s BUS-SEATS b) (map (λ i. i % MOST-SEATS) mine) past seats_exact
        (λ n h. rw (lt-ltb n MOST-SEATS (omega (arith, seats-fit g b))) (sym (not-not (eqb (in_seat s b n) 0)))) in
        rw (r.buses.readers, those-map (λ x. eqb x.bus b) (reader_at s r.buses.cursor) r.buses.seats, length-map mine (reader_at s r.buses.cursor))
        (rw (length-map mine (λ i. i % MOST-SEATS)) at free)
      where
        -- past its seats nobody sits
        past : (n : ℕ) → at s BUS-SEATS b ≤ n → ltb n MOST-SEATS && not (eqb (in_seat s b n) 0) ≡ false
        past n h =
            split (ltb n MOST-SEATS)
            (λ q. rw q (split (eqb (in_seat s b n) 0) (λ z. rw z) (λ z. absurd (omega (arith, seat_below g b n (omega (arith, buses-fit g)) (ltb-true n MOST-SEATS q) (eqb-false (in_seat s b n) 0 z))))))
            (λ q. rw q)

    -- it has all the subscribers that it can have
    full-seats : not (ltb (seat_for s b) (at s BUS-SEATS b)) ≡ seats_full l b
    full-seats =
        let n = length (those (λ x. eqb x.bus b) l.buses.readers) in
        let m = at s BUS-SEATS b in
        rw (bus_is k l s g r b made) (full-same (λ n. eqb (in_seat s b n) 0) m (m - n) (omega (arith, seats-count))
        ∙ same_bool (eqb (m - n) 0) (leb m n) (λ q. le-leb m n (omega (arith, eqb-true (m - n) 0 q))) (λ q. eq-eqb (m - n) 0 (omega (arith, leb-true m n q))))

-- its tests are the reckoning's
pub subscribe_same : (b : ℕ) → Tested (subscribe b)
subscribe_same b k s l g r = (
  idle-same k s g l r,
  refl,
  λ h. (
    subscribed-same k l s g r b h,
    refl,
    λ q. (
      ap (λ (n : ℕ). not (ltb b n)) (sym (buses_long k l s g r)),
      refl,
      λ u. (full-seats k l s g r b (bus-there s b u), refl, λ z. record {}),
    ),
  ),
)

-- THE THEOREM of subscribe, and the reckoning
pub subscribe_agrees : (b : ℕ) → Agreed (subscribe b)
unfolding entered
subscribe_agrees b k s l g r p =
    let n = seat_for s b in
    let made = bus-there s b (third_passed p) in
    let (nl, empty) = seat_there s b (fourth_passed p) in
    subst (λ (id : ℕ). Agrees k (joined b id l) (sit_down s b n (runner s))) (sym (running_is k s g l r p.0))
    (subst (λ (a : ℕ). Agrees k (joined b (runner_id s) l) (sit_down s b n a)) (runner-up s p.0)
    (sit_down_agrees k l s g r b n (runner s - 1) (omega (arith, buses-fit g)) (omega (arith, seats-fit g b)) empty))

-- its tests are the reckoning's
pub unsubscribe_same : (b : ℕ) → Tested (unsubscribe b)
unsubscribe_same b k s l g r = (idle-same k s g l r, refl, λ h. (ap not (subscribed-same k l s g r b h), refl, λ z. record {}))

-- THE THEOREM of unsubscribe, and the reckoning
pub unsubscribe_agrees : (b : ℕ) → Agreed (unsubscribe b)
unfolding entered
unsubscribe_agrees b k s l g r p =
    let n = seat_of s b (runner s) in
    let there = not-false (sits s b (runner s)) (second_passed p) in
    subst (λ (id : ℕ). Agrees k (end_readers (is_reader b id) l) (stand_up k s b n)) (sym (running_is k s g l r p.0))
    (stand_up_agrees k l s g r b n (sits-bus s b (runner s) there k g (eqb-false (runner s) 0 p.0)) (sits_seat s b (runner s) there) (runner s - 1)
    (runner-alive k s g p.0) (sits-there s b (runner s) there ∙ sym (runner-up s p.0)))

-- ---- a bus is made
-- its tests are the reckoning's
pub bus-same : (entries subscribers reads age : ℕ) → Tested (bus entries subscribers reads age)
bus-same entries subscribers reads age k s l g r = (refl, refl, λ h. (ap (leb MOST-BUSES) (sym (buses_long k l s g r)), refl, λ z. record {}))

-- THE THEOREM of a new bus, and the reckoning
pub bus_agrees : (entries subscribers reads age : ℕ) → Agreed (bus entries subscribers reads age)
unfolding entered bus_made make_bus poke with_col up_to
bus_agrees entries subscribers reads age k s l g r p =
    let b = head s BUSES in
    let room = leb-false MOST-BUSES b (second_passed p) in
    let t = make_bus s entries subscribers reads age in
    let w = wrote_make_bus s entries subscribers reads age in
    let v = r.buses in
    let more : head t BUSES ≡ suc b = read_back g BUSES 0 (b + 1) tt (omega arith) ∙ add-one b in
    agrees_buses w r _ (living w refl) refl (record {
      made = rw more (things_begin (bus_at s) (bus_at t) l.buses.made (up_to b) b _ v.made
          (rw (read_back g BUS-SIZE b entries tt room, read_back g BUS-SEATS b subscribers tt room, read_back g BUS-READS b reads tt room, read_back g BUS-AGE b age tt room))
          (λ c o. let q : eqb c b ≡ false = ne_eqb c b (λ z. omega (arith, ltb-true c b (exact_used (λ i. ltb i b) (up_to b) c (up_to_exact b) o))) in
          rw (other (s BUS-SIZE) b entries c q, other (s BUS-SEATS) b subscribers c q, other (s BUS-READS) b reads c q, other (s BUS-AGE) b age c q)));
      rank = v.rank;
      values = v.values;
      seats = v.seats;
      all_seats = v.all_seats;
      cursor = v.cursor;
      readers = v.readers;
      ascending = v.ascending;
      before = v.before;
      came = v.came;
      unread = v.unread;
    })

-- ---- read
-- the oldest value that the running actor has not read
module _ (k : Caps) (l : Ledger) (s : State) (g : Good k s) (r : Agrees k l s) (b : ℕ) (h : eqb (runner s) 0 ≡ false) where
  -- the reckoning's, where there is one
  run_oldest : oldest_unread s b (runner s) < head s ISSUED → Room.oldest_unread l b ≡ value_said s r.buses.rank (value_at s (oldest_unread s b (runner s))) ∷ []
  run_oldest =
      subst (λ (w : ℕ). oldest_unread s b w < head s ISSUED → Room.oldest_unread l b ≡ value_said s r.buses.rank (value_at s (oldest_unread s b w)) ∷ []) (runner-up s h)
      (oldest_is k l s g r b (runner s - 1) (runner-alive k s g h) (running_is k s g l r h))

  -- and where there is none
  run_none : head s ISSUED ≤ oldest_unread s b (runner s) → Room.oldest_unread l b ≡ []
  run_none =
      subst (λ (w : ℕ). head s ISSUED ≤ oldest_unread s b w → Room.oldest_unread l b ≡ []) (runner-up s h) (oldest_none k l s g r b (runner s - 1) (runner-alive k s g h) (running_is k s g l r h))

-- its tests are the reckoning's
pub read_same : (b room : ℕ) → Tested (read b room)
read_same b room k s l g r = (
  idle-same k s g l r,
  refl,
  λ h. (
    ap (ltb room) (ap (unread_length s b) (sym (runner-up s h)) ∙ unread_long k l s g r b (runner s - 1) (runner-alive k s g h) (running_is k s g l r h)),
    refl,
    λ q. (ap not (subscribed-same k l s g r b h), refl, λ z. record {}),
  ),
)

-- THE THEOREM of read, and the reckoning
pub read_agrees : (b room : ℕ) → Agreed (read b room)
unfolding entered reading
read_agrees b room k s l g r p =
    let h = p.0 in
    let a = runner s - 1 in
    let n = seat_of s b (runner s) in
    let j = oldest_unread s b (runner s) in
    let up = runner-up s h in
    let there = runner-alive k s g h in
    let run = running_is k s g l r h in
    let sit = not-false (sits s b (runner s)) (third_passed p) in
    let low : oldest_unread s b (runner s) ≡ lowest (is_unread s b n) (head s ISSUED) = rw sit in
    split (ltb j (head s ISSUED))
    (λ q. let jl = ltb-true j (head s ISSUED) q in
    rw q (subst (λ (vs : List Value). Agrees k (reading b l.people.running vs l) (read_off s b n j)) (sym (run_oldest k l s g r b h jl))
    (subst (λ (id : ℕ). Agrees k (reading b id (value_said s r.buses.rank (value_at s j) ∷ []) l) (read_off s b n j)) (sym run)
    (read_off_agrees k l s g r b n a j there (sits-bus s b (runner s) sit k g (eqb-false (runner s) 0 h)) (sits_seat s b (runner s) sit) (sits-there s b (runner s) sit ∙ sym up) jl
    (subst (λ (i : ℕ). i < head s ISSUED → is_unread s b n i ≡ true) (sym low) (lowest-at (is_unread s b n) (head s ISSUED)) jl)
    (λ i m. lowest-first (is_unread s b n) (head s ISSUED) i (omega arith))))))
    (λ q. rw q r)

-- and its answer: what is heard of the oldest unread value
pub read_answers : (b room : ℕ) (k : Caps) (s : State) (l : Ledger) → Good k s → Agrees k l s → Passed ((entry (read b room)).tests k s) →
    say (entry (read b room)).shape ((entry (read b room)).work k s).ans ≡ heard (Room.oldest_unread l b)
read_answers b room k s l g r p =
    let j = oldest_unread s b (runner s) in
    split (ltb j (head s ISSUED))
    (λ q. rw q (sym (ap heard (run_oldest k l s g r b p.0 (ltb-true j (head s ISSUED) q)))))
    (λ q. rw q (sym (ap heard (run_none k l s g r b p.0 (ltb-false j (head s ISSUED) q)))))
