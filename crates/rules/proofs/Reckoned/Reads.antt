-- Reading a value, and the reckoning: what is unread, and what reading does.
use Prim.Native.Nat.{ℕ, suc, ◌+◌, ◌-◌, ◌/◌, ◌≤◌, ◌<◌}
use native.Mathlib.Decide.{dec_lt}
use native.Mathlib.Omega.{arith}
use mathlib.Core.Path.{◌≡◌, refl, sym, ap, subst, ◌∙◌}
use mathlib.Core.Bool.{Bool, true, false, cond, not, ◌&&◌}
use mathlib.Core.List.{List, [], ◌∷◌, map, map-map}
use lib.ListN.{length, get_or, length-map, length-drop}
use lib.Seq.{length-take-le}
use lib.Dec.{eqb, ltb, leb}
use borrow.Author.Tests.{eqb-true, eqb-false, eq-eqb, ne_eqb, le-leb, lt-leb, leb-true, ltb-true, ltb-false, not-true}
use Rattle.ledger.specs.Ledger.{Ledger, Reader, Value, buses, with_buses}
use Rattle.ledger.specs.Lists.{first, some, those}
use Rattle.ledger.specs.Reckon
use Rattle.ledger.specs.Reckon.{moved, one_more_of, reading, with_values}
use Rattle.ledger.specs.Room
use Rattle.ledger.specs.Room.{is_reader, payload_of, unread}
use Rattle.pools.specs.Pool.{lowest, occurs}
use Rattle.pools.specs.Bits.{cleared}
use Rattle.pools.specs.Lists.{without}
use Rattle.pools.proofs.BitLaws.{marked-same}
use Rattle.pools.proofs.BoolLaws.{and_left, and_right, same_bool, split}
use Rattle.pools.proofs.ListLaws.{keep-all_on}
use Rattle.pools.proofs.PoolLaws.{count_change, count_same, lowest-at, lowest-first}
use Rattle.tables.specs.declared.Caps.{Caps}
use Rattle.tables.specs.Columns.{AGE, BUS-READS, BUSES, ISSUED, LENGTH, PAYLOAD, PUBLISHED, READERS, SEAT, STATE, VALUE-BUS}
use Rattle.tables.specs.Limits.{MOST-BUSES, MOST-SEATS}
use Rattle.tables.specs.State.{State, at, head, poke, with_col}
use Rattle.rules.specs.Agrees.{Agrees, reader_at, value_said, values_in}
use Rattle.rules.specs.Buses.{has_read, in_seat, is_on, is_unread, may_read, oldest_unread, read_by, read_off, read_out_of, retire, seat_at, seat_of, signed, sits, unread_length, value_at, value_of}
use Rattle.rules.specs.Good.{Good}
use Rattle.rules.specs.Terms.{actor_id, alive}
use Rattle.rules.proofs.Frames.Wrote.{Wrote, wrote_none, wrote_poke}
use Rattle.rules.proofs.Kept.Clauses.{length-fits, read_back}
use Rattle.rules.proofs.Kept.Row.{used_value, value_below, value_once, value_there, value_used, values-at, values_long}
use Rattle.rules.proofs.Kept.Seats.{sits-bus, sits_seat, sits-there}
use Rattle.rules.proofs.Kept.Values.{signed_keeps, signed-may, signed-read, signed_reads}
use Rattle.rules.proofs.Lists.Columns.{other}
use Rattle.rules.proofs.Lists.Ties.{one_up}
use Rattle.rules.proofs.Lists.Values.{anew, keep-but, map_at, map-without}
use Rattle.rules.proofs.Reckoned.Ledger.{first-at, first-map, first_none, map-same_on, seat_used, some-map, some_no, some_yes, those-map, used_seat}
use Rattle.rules.proofs.Reckoned.Parts.{agrees_buses, living}
use Rattle.rules.proofs.Reckoned.Readers.{reader_none, reader_seat}
use Rattle.rules.proofs.Reckoned.Values.{bus_is, made-still, row-still, retire_agrees, value_bus}

-- ---- what is unread
-- the reckoning's test: a value is unread for that one
abbrev unread_by : Ledger → ℕ → ℕ → Value → Bool
unread_by l b id v = some (λ x. is_reader b id x && unread x v) l.buses.readers

-- where one alone passes the first test, one passes both where it passes the second
some-only : (p q : ℕ → Bool) (es : List ℕ) (j : ℕ) → 0 < occurs j es → ((i : ℕ) → 0 < occurs i es → p i ≡ eqb i j) → some (λ i. p i && q i) es ≡ q j
some-only p q es j o w =
    split (q j)
    (λ y. some_yes (λ i. p i && q i) es j o (rw (w j o, eq-eqb j j refl) y) ∙ sym y)
    (λ y. some_no (λ i. p i && q i) es (λ i m. split (eqb i j) (λ z. rw (w i m, z) (ap q (eqb-true i j z) ∙ y)) (λ z. rw (w i m, z))) ∙ sym y)

module _ (k : Caps) (l : Ledger) (s : State) (g : Good k s) (r : Agrees k l s) (b a : ℕ) (there : alive (s STATE) a ≡ true) where
  -- who sits on the bus has its seat there
  own_seat : sits s b (suc a) ≡ true → at s SEAT (seat_at b (seat_of s b (suc a))) ≡ 0 → ⊥
  own_seat q z = omega (arith, sits-there s b (suc a) q)

  -- the two tests agree on a value
  unread-same : sits s b (suc a) ≡ true → (d : ℕ) → (at s VALUE-BUS d ≡ 0 → ⊥) →
      unread_by l b (actor_id s a) (value_said s r.buses.rank d) ≡ eqb (at s VALUE-BUS d) (suc b) && may_read (at s READERS d) (seat_of s b (suc a))
  unread-same q d u =
      let n = seat_of s b (suc a) in
      let i = seat_at b n in
      let f = reader_at s r.buses.cursor in
      let v = value_said s r.buses.rank d in
      let p : Reader → Bool = λ x. is_reader b (actor_id s a) x && unread x v in
      let nl = sits_seat s b (suc a) q in
      let i-bus : i / MOST-SEATS ≡ b = omega arith in
      ap (some p) r.buses.readers ∙ some-map p f r.buses.seats
      ∙ some-only (λ j. is_reader b (actor_id s a) (f j)) (λ j. unread (f j) v) r.buses.seats i (used_seat k s g l r i (own_seat q))
      (λ j o. reader_seat k l s g r b a there n (sits-bus s b (suc a) q k g (λ z. omega arith)) nl (sits-there s b (suc a) q) j (seat_used k s g l r j o))
      ∙ rw (i-bus, one_up (at s VALUE-BUS d) b u)
      (split (eqb (at s VALUE-BUS d) (suc b))
      (λ y. rw y (sym (r.buses.unread b n d nl (own_seat q) (eqb-true (at s VALUE-BUS d) (suc b) y))))
      (λ y. rw y))

  -- the reckoning's oldest, where there is one
  pub oldest_is : l.people.running ≡ actor_id s a → oldest_unread s b (suc a) < head s ISSUED →
      Room.oldest_unread l b ≡ value_said s r.buses.rank (value_at s (oldest_unread s b (suc a))) ∷ []
  unfolding Room.oldest_unread
  oldest_is run h =
      let f = value_said s r.buses.rank in
      let n = seat_of s b (suc a) in
      let p = unread_by l b (actor_id s a) in
      split (sits s b (suc a))
      (λ q. let j = lowest (is_unread s b n) (head s ISSUED) in
      let jl : j < head s ISSUED = rw q at h in
      let at_i : (i : ℕ) → i < head s ISSUED → p (f (get_or (values_in s) i 0)) ≡ is_unread s b n i = λ i m.
      ap (λ (d : ℕ). p (f d)) (values-at k s g i m) ∙ unread-same q (value_at s i) (value_there k s g i m) in
      rw q (ap (λ (id : ℕ). first (unread_by l b id) l.buses.values) run
      ∙ ap (first p) r.buses.values ∙ first-map p f (values_in s)
      ∙ ap (map f) (first-at (λ d. p (f d)) (values_in s) j (omega (arith, values_long k s g)) (at_i j jl ∙ lowest-at (is_unread s b n) (head s ISSUED) jl)
      (λ i m. at_i i (omega arith) ∙ lowest-first (is_unread s b n) (head s ISSUED) i m)).0
      ∙ ap (λ (d : ℕ). f d ∷ []) (values-at k s g j jl)))
      (λ q. absurd (omega (arith, rw q at h)))

  -- and where there is none
  pub oldest_none : l.people.running ≡ actor_id s a → head s ISSUED ≤ oldest_unread s b (suc a) → Room.oldest_unread l b ≡ []
  unfolding Room.oldest_unread
  oldest_none run h =
      let f = value_said s r.buses.rank in
      let n = seat_of s b (suc a) in
      let p = unread_by l b (actor_id s a) in
      ap (λ (id : ℕ). first (unread_by l b id) l.buses.values) run
      ∙ ap (first p) r.buses.values ∙ first-map p f (values_in s)
      ∙ ap (map f) (first_none (λ d. p (f d)) (values_in s) (λ d o. split (sits s b (suc a))
      (λ q. let u = (value_used k s g d o).0 in
      let w = used_value k s g d u in
      let low : head s ISSUED ≤ lowest (is_unread s b n) (head s ISSUED) = rw q at h in
      unread-same q d u ∙ ap (λ (e : ℕ). eqb (at s VALUE-BUS e) (suc b) && may_read (at s READERS e) n) (sym w.2) ∙ lowest-first (is_unread s b n) (head s ISSUED) w.0 (omega (arith, w.1)))
      (λ q. ap (some (λ x. is_reader b (actor_id s a) x && unread x (f d))) r.buses.readers
      ∙ some-map (λ x. is_reader b (actor_id s a) x && unread x (f d)) (reader_at s r.buses.cursor) r.buses.seats
      ∙ some_no (λ i. is_reader b (actor_id s a) (reader_at s r.buses.cursor i) && unread (reader_at s r.buses.cursor i) (f d)) r.buses.seats
      (λ i m. rw (reader_none k l s g r b a there q i (seat_used k s g l r i m))))))

  -- a payload is as long as its word says
  value_long : (d : ℕ) → d < k.datas → length (value_of s d) ≡ at s LENGTH d
  value_long d h = length-take-le (at s LENGTH d) _ (rw length-drop (omega (arith, length-fits g d, g.sized.bytes)))

  -- how long it is, on both sides
  pub unread_long : l.people.running ≡ actor_id s a → unread_length s b (suc a) ≡ length (payload_of (Room.oldest_unread l b))
  unread_long run =
      let j = oldest_unread s b (suc a) in
      split (ltb j (head s ISSUED))
      (λ q. let h = ltb-true j (head s ISSUED) q in
      rw (q, oldest_is run h) (sym (value_long (value_at s j) (value_below k s g j h))))
      (λ q. rw (q, oldest_none run (ltb-false j (head s ISSUED) q)))

-- ---- a value is read
-- by the one in seat n: the state once it is
abbrev signed_in : State → ℕ → ℕ → State
signed_in s n d = poke s READERS d (signed (at s READERS d) n)

-- by that one: the reckoning with one read more of the value of that rank, and the cursor past it
abbrev read_in : Ledger → ℕ → ℕ → ℕ → Ledger
read_in l b id rank =
    with_buses l
    (buses l.buses.made (map (λ u. cond (eqb u.rank rank) (one_more_of u) u) l.buses.values)
    (map (λ x. cond (is_reader b id x) (moved rank x) x) l.buses.readers) l.buses.published)

-- who had not read it is one more who has
signed-count : (x n : ℕ) → n < MOST-SEATS → has_read x n ≡ false → read_by (signed x n) ≡ read_by x + 1
signed-count x n nl q =
    let one : ℕ → Bool = λ m. cond (eqb m n) true (has_read x m) in
    let c = count_change (has_read x) one n MOST-SEATS nl (λ m d. rw (ne_eqb m n d)) in
    count_same one (has_read (signed x n)) MOST-SEATS (λ m h. split (eqb m n)
    (λ z. rw (z, eqb-true m n z, marked-same (cleared x (MOST-SEATS + n)) n))
    (λ z. rw z (ap (λ (y : ℕ). eqb y 1) (signed-read x n m h (eqb-false m n z)))))
    ∙ omega (arith, rw (q, eq-eqb n n refl) at c)

module _ (k : Caps) (l : Ledger) (s : State) (g : Good k s) (r : Agrees k l s) where
  -- of two values the later has the greater rank
  rank_less : (i j : ℕ) → i < j → j < head s ISSUED → r.buses.rank (value_at s i) < r.buses.rank (value_at s j)
  rank_less i j h m =
      let n = values_long k s g in
      let place : (i : ℕ) → i < head s ISSUED → get_or (map r.buses.rank (values_in s)) i 0 ≡ r.buses.rank (value_at s i) = λ i o.
      map_at r.buses.rank (values_in s) i 0 0 (omega arith) ∙ ap r.buses.rank (values-at k s g i o) in
      omega (arith, r.buses.ascending i j h (omega (arith, length-map (values_in s) r.buses.rank)), place i (omega arith), place j m)

  -- so two values of one rank are one
  rank-once : (j : ℕ) → j < head s ISSUED → (d : ℕ) → (at s VALUE-BUS d ≡ 0 → ⊥) → eqb (r.buses.rank d) (r.buses.rank (value_at s j)) ≡ eqb d (value_at s j)
  rank-once j jl d u =
      let rank = r.buses.rank in
      let w = used_value k s g d u in
      same_bool (eqb (rank d) (rank (value_at s j))) (eqb d (value_at s j))
      (λ q. let e = eqb-true (rank d) (rank (value_at s j)) q in
      elim (dec_lt w.0 j) [
        | yes y ↦ absurd (omega (arith, rank_less w.0 j y jl, ap rank w.2))
        | no y ↦ elim (dec_lt j w.0) [
          | yes z ↦ absurd (omega (arith, rank_less j w.0 z w.1, ap rank w.2))
          | no z ↦ eq-eqb d (value_at s j) (sym w.2 ∙ ap (value_at s) (omega arith))
        ]
      ])
      (λ q. eq-eqb (rank d) (rank (value_at s j)) (ap rank (eqb-true d (value_at s j) q)))

  -- the one in seat n of bus b reads the j-th, the oldest that it has not read
  module _ (b n a j : ℕ) (there : alive (s STATE) a ≡ true) (bl : b < MOST-BUSES) (nl : n < MOST-SEATS) (here : in_seat s b n ≡ suc a) (jl : j < head s ISSUED)
      (new : is_unread s b n j ≡ true) (old : (i : ℕ) → i < j → is_unread s b n i ≡ false) where
    -- the state once it is read, and the reckoning
    abbrev state_read : State
    state_read = signed_in s n (value_at s j)

    abbrev ledger_read : Ledger
    ledger_read = read_in l b (actor_id s a) (r.buses.rank (value_at s j))

    -- of the state, who reads what is written alone
    wrote_read : Wrote (READERS ∷ []) s state_read
    wrote_read = wrote_poke (wrote_none s) READERS (value_at s j) (signed (at s READERS (value_at s j)) n)

    -- it is one of the bus's
    read_on : at s VALUE-BUS (value_at s j) ≡ suc b
    read_on = eqb-true (at s VALUE-BUS (value_at s j)) (suc b) (and_left (is_on s b j) (may_read (at s READERS (value_at s j)) n) new)

    -- it may be read
    read-may : may_read (at s READERS (value_at s j)) n ≡ true
    read-may = and_right (is_on s b j) (may_read (at s READERS (value_at s j)) n) new

    -- somebody sits there
    read_seat : at s SEAT (seat_at b n) ≡ 0 → ⊥
    read_seat z = omega (arith, here)

    -- what is unread then for that one: the later values
    read-later : (d : ℕ) → at s VALUE-BUS d ≡ suc b → eqb d (value_at s j) ≡ false → may_read (at s READERS d) n ≡ leb (r.buses.rank (value_at s j) + 1) (r.buses.rank d)
    read-later d e q =
        let rank = r.buses.rank in
        let w = used_value k s g d (λ z. omega arith) in
        let reached = leb-true (r.buses.cursor (seat_at b n)) (rank (value_at s j)) (sym (r.buses.unread b n (value_at s j) nl read_seat read_on) ∙ read-may) in
        elim (dec_lt w.0 j) [
          | yes y ↦ let no = old w.0 y in
              let yes : is_on s b w.0 ≡ true = eq-eqb _ (suc b) (ap (at s VALUE-BUS) w.2 ∙ e) in
              let done : may_read (at s READERS (value_at s w.0)) n ≡ false = rw yes at no in
              ap (λ (x : ℕ). may_read (at s READERS x) n) (sym w.2) ∙ done ∙ sym (lt-leb (rank (value_at s j) + 1) (rank d) (omega (arith, rank_less w.0 j y jl, ap rank w.2)))
          | no y ↦ elim (dec_lt j w.0) [
            | yes z ↦ let more : rank (value_at s j) < rank d = omega (arith, rank_less j w.0 z w.1, ap rank w.2) in
                r.buses.unread b n d nl read_seat e ∙ le-leb _ (rank d) (omega arith) ∙ sym (le-leb _ (rank d) (omega arith))
            | no z ↦ absurd (eqb-false d (value_at s j) q (sym w.2 ∙ ap (value_at s) (omega arith)))
          ]
        ]

    -- its bits once it is read
    read_bits : at state_read READERS (value_at s j) ≡ signed (at s READERS (value_at s j)) n
    unfolding poke with_col
    read_bits = read_back g READERS (value_at s j) (signed (at s READERS (value_at s j)) n) tt (value_below k s g j jl)

    -- those of another value
    other_bits : (d : ℕ) → eqb d (value_at s j) ≡ false → at state_read READERS d ≡ at s READERS d
    unfolding poke with_col
    other_bits d q = other (s READERS) (value_at s j) (signed (at s READERS (value_at s j)) n) d q

    -- it says one read more, and the others what they said
    read-says : (d : ℕ) → (at s VALUE-BUS d ≡ 0 → ⊥) →
        cond (eqb (r.buses.rank d) (r.buses.rank (value_at s j))) (one_more_of (value_said s r.buses.rank d)) (value_said s r.buses.rank d)
        ≡ value_said state_read r.buses.rank d
    read-says d u =
        let e = value_at s j in
        let w = wrote_read in
        let unsigned = not-true (has_read (at s READERS e) n) (((g.values e (value_below k s g j jl)).1 (λ z. omega (arith, read_on))).1 n nl read-may).0 in
        rw (rank-once j jl d u, w.cols VALUE-BUS refl, w.cols LENGTH refl, w.cols PAYLOAD refl, w.cols PUBLISHED refl)
        (split (eqb d e)
        (λ q. rw (q, eqb-true d e q, read_bits, signed-count (at s READERS e) n nl unsigned))
        (λ q. rw (q, other_bits d q)))

    -- so the reckoning's values
    read-values : ledger_read.buses.values ≡ map (value_said state_read r.buses.rank) (values_in s)
    read-values =
        let rank = r.buses.rank in
        let count : Value → Value = λ u. cond (eqb u.rank (rank (value_at s j))) (one_more_of u) u in
        ap (map count) r.buses.values ∙ map-map count (value_said s rank) (values_in s)
        ∙ map-same_on (λ d. count (value_said s rank d)) (value_said state_read rank) (values_in s) (λ d o. read-says d (value_used k s g d o).0)

    -- who may read what
    read_masks : (c m d : ℕ) → m < MOST-SEATS → (in_seat s c m ≡ 0 → ⊥) → at s VALUE-BUS d ≡ suc c →
        may_read (at state_read READERS d) m ≡ leb (anew (seat_at b n) (r.buses.rank (value_at s j) + 1) r.buses.cursor (seat_at c m)) (r.buses.rank d)
    read_masks c m d ml u e =
        let x = value_at s j in
        let rank = r.buses.rank in
        split (eqb (seat_at c m) (seat_at b n))
        (λ q. let z = eqb-true (seat_at c m) (seat_at b n) q in
        let c-is : c ≡ b = omega arith in
        let m-is : m ≡ n = omega arith in
        rw (q, m-is) (split (eqb d x)
        (λ y. let d-is = eqb-true d x y in
        rw (d-is, read_bits, signed_reads (at s READERS x) n nl, lt-leb (rank x + 1) (rank x) (omega arith)))
        (λ y. rw (other_bits d y) (read-later d (e ∙ ap suc c-is) y))))
        (λ q. rw q (split (eqb d x)
        (λ y. let d-is = eqb-true d x y in
        let c-is : c ≡ b = omega (arith, read_on, ap (at s VALUE-BUS) d-is) in
        rw (d-is, read_bits, signed-may (at s READERS x) n m nl (λ z. eqb-false (seat_at c m) (seat_at b n) q (omega arith))) (r.buses.unread c m x ml u (ap (at s VALUE-BUS) (sym d-is) ∙ e)))
        (λ y. rw (other_bits d y) (r.buses.unread c m d ml u e))))

    -- THE LAW of a value that is read: the reckoning counts it, and its cursor passes it
    signed_agrees : Agrees k ledger_read state_read
    signed_agrees =
        let d = value_at s j in
        let t = signed_in s n d in
        let w = wrote_read in
        let v = r.buses in
        let cursor = anew (seat_at b n) (v.rank d + 1) v.cursor in
        let pass : Reader → Reader = λ x. cond (is_reader b (actor_id s a) x) (moved (v.rank d) x) x in
        agrees_buses w r _ (living w refl) refl (record {
          made = made-still w refl v.made;
          rank = v.rank;
          values = read-values ∙ ap (map (value_said t v.rank)) (sym (row-still w refl));
          seats = v.seats;
          all_seats = rw (w.cols SEAT refl) v.all_seats;
          cursor = cursor;
          readers = ap (map pass) v.readers ∙ map-map pass (reader_at s v.cursor) v.seats
              ∙ map-same_on (λ i. pass (reader_at s v.cursor i)) (reader_at t cursor) v.seats (λ i o.
              rw (reader_seat k l s g r b a there n bl nl here i (seat_used k s g l r i o), w.cols AGE refl, w.cols SEAT refl)
              (split (eqb i (seat_at b n)) (λ q. rw q) (λ q. rw q)));
          ascending = rw (row-still w refl) v.ascending;
          before = λ e u. v.before e (λ z. u (rw (w.cols VALUE-BUS refl) z));
          came = λ i u. split (eqb i (seat_at b n))
              (λ q. let m = v.before d (λ z. omega (arith, read_on)) in rw q (omega arith))
              (λ q. rw q (v.came i (λ z. u (rw (w.cols SEAT refl) z))));
          unread = λ c m e ml u y. read_masks c m e ml (λ z. u (rw (w.cols SEAT refl) z)) (rw (w.cols VALUE-BUS refl) at y);
        })

    -- it has been read as often as its bus asks, on both sides or on neither
    out-same : Reckon.read_out_of l (value_said state_read r.buses.rank (value_at s j)) ≡ read_out_of state_read b (value_at s j)
    out-same =
        let d = value_at s j in
        let w = wrote_read in
        let b-is : at s VALUE-BUS d - 1 ≡ b = omega (arith, read_on) in
        let made : b < head s BUSES = omega (arith, value_bus k l s g r d (λ z. omega (arith, read_on))) in
        rw (w.cols VALUE-BUS refl, w.cols BUS-READS refl, b-is, bus_is k l s g r b made)

    -- one that is read out ends
    read_left : those (λ u. not (eqb u.rank (r.buses.rank (value_at s j)) && Reckon.read_out_of l u)) ledger_read.buses.values
        ≡ cond (read_out_of state_read b (value_at s j)) (without j ledger_read.buses.values) ledger_read.buses.values
    read_left =
        let d = value_at s j in
        let t = signed_in s n d in
        let rank = r.buses.rank in
        let f = value_said t rank in
        let p : Value → Bool = λ u. not (eqb u.rank (rank d) && Reckon.read_out_of l u) in
        let long = values_long k s g in
        let others : (e : ℕ) → (at s VALUE-BUS e ≡ 0 → ⊥) → eqb e d ≡ false → p (f e) ≡ true = λ e u q. rw (rank-once j jl e u, q) in
        let this : p (f d) ≡ not (read_out_of t b d) = rw (eq-eqb (rank d) (rank d) refl, out-same) in
        rw (read-values, those-map p f (values_in s))
        (split (read_out_of t b d)
        (λ q. rw q (ap (map f) (keep-but (λ e. p (f e)) (values_in s) j (omega arith) (ap (λ (e : ℕ). p (f e)) (values-at k s g j jl) ∙ this ∙ rw q)
        (λ i m ne. let il : i < head s ISSUED = omega arith in
        ap (λ (e : ℕ). p (f e)) (values-at k s g i il) ∙ others (value_at s i) (value_there k s g i il) (ne_eqb (value_at s i) d (λ z. ne (value_once k s g i j il jl z)))))
        ∙ map-without f j (values_in s)))
        (λ q. rw q (ap (map f) (keep-all_on (λ e. p (f e)) (values_in s) (λ e o. split (eqb e d)
        (λ y. ap (λ (x : ℕ). p (f x)) (eqb-true e d y) ∙ this ∙ rw q)
        (λ y. others e (value_used k s g e o).0 y))))))

    -- THE THEOREM of a value that is read
    pub read_off_agrees : Agrees k (reading b (actor_id s a) (value_said s r.buses.rank (value_at s j) ∷ []) l) (read_off s b n j)
    unfolding reading read_off
    read_off_agrees =
        let d = value_at s j in
        let t = signed_in s n d in
        let w = wrote_read in
        let m = read_in l b (actor_id s a) (r.buses.rank d) in
        let good = signed_keeps k s g n j nl jl in
        subst (λ (vs : List Value). Agrees k (with_values m vs) (cond (read_out_of t b d) (retire t j) t)) (sym read_left)
        (split (read_out_of t b d)
        (λ q. rw q (retire_agrees k t good j (rw (w.cols ISSUED refl) jl) m signed_agrees))
        (λ q. rw q signed_agrees))
