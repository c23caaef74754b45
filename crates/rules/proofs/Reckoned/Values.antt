-- The values of the buses, and the reckoning: one ends, those that have reached their age end, one is published.
use Prim.Native.Nat.{ℕ, zero, suc, ◌-◌, ◌≤◌, ◌<◌}
use native.Mathlib.Omega.{arith}
use mathlib.Core.Path.{◌≡◌, refl, sym, ap, ap₂, subst, ◌∙◌}
use mathlib.Core.Bool.{Bool, true, false, not}
use mathlib.Core.List.{List, [], ◌∷◌, ◌++◌, append-nil, map, map-append}
use lib.ListN.{length, get_or, take, drop, drop_of_length-le, length-map}
use lib.Seq.{take_all}
use lib.Dec.{eqb, lit<}
use borrow.Author.Tests.{eqb-true, eq-eqb, ne_eqb, le-leb, lt-ltb}
use Rattle.ledger.specs.Lists.{those}
use Rattle.ledger.specs.Ledger.{Bus, Buses, Ledger, Reader, Value, with_buses}
use Rattle.ledger.specs.Reckon
use Rattle.ledger.specs.Reckon.{issued, stale, with_values}
use Rattle.ledger.specs.Room.{bus_of}
use Rattle.pools.specs.Pool.{occurs}
use Rattle.pools.specs.Bits.{free}
use Rattle.pools.specs.Lists.{without}
use Rattle.pools.specs.Slot.{unused}
use Rattle.pools.proofs.BoolLaws.{flag≤, split}
use Rattle.pools.proofs.PoolLaws.{count_none}
use Rattle.pools.proofs.ListLaws.{occurs_get_d, occurs-without}
use Rattle.tables.specs.declared.Caps.{Caps}
use Rattle.tables.specs.Columns.{AGE, ARRIVAL, ARRIVED, BUS-AGE, BUS-READS, BUS-SEATS, BUS-SIZE, BUSES, CLOCK, DATA-FREE, HAND, ISSUE, ISSUED}
use Rattle.tables.specs.Columns.{LENGTH, MAIL-DATA, MAIL-OWNER, PAYLOAD, PUBLISHED, READERS, SEAT, SENDER, VALUE-BUS}
use Rattle.tables.specs.Limits.{MOST-SEATS, PAYLOAD-MOST}
use Rattle.tables.specs.State.{State, at, head, poke, with_col}
use Rattle.tables.specs.Action.{free_bit, pull, push, take_bit}
use Rattle.tables.proofs.ActionLaws.{pull_leaves, push-joins}
use Rattle.rules.specs.Agrees.{Agrees, BusesAgree, MailAgree, arrivals, box_at, bus_at, hand_at, message_of, reader_at, up_to, value_said, values_in}
use Rattle.rules.specs.Buses.{aired, airing, audience, has_read, in_seat, is_stale, issue, may_read, retire, seat_at, value_at}
use Rattle.rules.specs.Good.{Good}
use Rattle.rules.specs.Sound.{OWNERS}
use Rattle.rules.proofs.Frames.Buses.{AIRED, wrote_issue}
use Rattle.rules.proofs.Frames.Wrote.{Wrote, apart, mixed, mixed_is}
use Rattle.rules.proofs.Kept.Messages.{filled, ink, unfilled, wipe, wipe_is}
use Rattle.rules.proofs.Kept.Values.{audience-may, audience-unread, issue_is, issue_text, retire-bus, retire-count, retire_is, retire_keeps, row_next, wrote_retire}
use Rattle.rules.proofs.Kept.Clauses.{length-fits, read_back, read_down}
use Rattle.rules.proofs.Kept.Owners.{all-datas, boxes_exact, datas-arrived, free_no_value, owned, owner_else, owner_fresh, owner_some, sole}
use Rattle.rules.proofs.Kept.Row.{row_fits, value_at_lem, value_below, value_there, value_used, values-at, values_listed, values_long, values-row}
use Rattle.rules.proofs.Lists.Columns.{other, set-zero}
use Rattle.rules.proofs.Lists.Messages.{bytes_at, header-same, text_same}
use Rattle.rules.proofs.Lists.Values.{anew, ascending_snoc, ascending_without, map_at, map-without, those-gone, those_stays, up_to-at, up_to-length}
use Rattle.rules.proofs.Lists.Ties.{down, used_inside}
use Rattle.rules.proofs.Reckoned.Ledger.{map-same_on}
use Rattle.rules.proofs.Reckoned.Parts.{links-same, living, monitors-same, parts, people-same, time-same}
use Rattle.rules.proofs.Reckoned.Pools.{things_begin}

-- ---- what is not written is said as before
module _ {ws : List ℕ} {s t : State} (w : Wrote ws s t) where
  -- of the buses
  pub made-still : {bs : List Bus} → apart (BUSES ∷ BUS-SIZE ∷ BUS-SEATS ∷ BUS-READS ∷ BUS-AGE ∷ []) ws ≡ true → bs ≡ map (bus_at s) (up_to (head s BUSES)) → bs ≡ map (bus_at t) (up_to (head t BUSES))
  unfolding mixed
  made-still {bs = bs} e m = subst (λ (x : State). bs ≡ map (bus_at x) (up_to (head x BUSES))) (mixed_is (BUSES ∷ BUS-SIZE ∷ BUS-SEATS ∷ BUS-READS ∷ BUS-AGE ∷ []) w e) m

  -- of who sits in a list of seats
  readers_still : {xs : List Reader} (cursor : ℕ → ℕ) (seats : List ℕ) → apart (SEAT ∷ AGE ∷ []) ws ≡ true → xs ≡ map (reader_at s cursor) seats → xs ≡ map (reader_at t cursor) seats
  unfolding mixed
  readers_still {xs = xs} cursor seats e m = subst (λ (x : State). xs ≡ map (reader_at x cursor) seats) (mixed_is (SEAT ∷ AGE ∷ []) w e) m

  -- of the row of values
  pub row-still : apart (ISSUE ∷ ISSUED ∷ []) ws ≡ true → values_in t ≡ values_in s
  unfolding mixed
  row-still e = subst (λ (x : State). values_in x ≡ values_in s) (mixed_is (ISSUE ∷ ISSUED ∷ []) w e) refl

-- ---- where data entry d alone is written
-- the words and the bytes of every other are as they were
pub record Alone (d : ℕ) (s t : State) : Type 0 where
  pub sender : (x : ℕ) → eqb x d ≡ false → at t SENDER x ≡ at s SENDER x
  pub length : (x : ℕ) → eqb x d ≡ false → at t LENGTH x ≡ at s LENGTH x
  pub bus : (x : ℕ) → eqb x d ≡ false → at t VALUE-BUS x ≡ at s VALUE-BUS x
  pub readers : (x : ℕ) → eqb x d ≡ false → at t READERS x ≡ at s READERS x
  pub published : (x : ℕ) → eqb x d ≡ false → at t PUBLISHED x ≡ at s PUBLISHED x
  pub bytes : (x : ℕ) → eqb x d ≡ false → bytes_at (t PAYLOAD) x ≡ bytes_at (s PAYLOAD) x

-- no message is in it
abbrev Unsent : ℕ → State → Type 0
Unsent d s = (c e : ℕ) → sole c OWNERS ≡ true → eqb c ISSUE ≡ false → 1 ≤ at s c e → eqb (at s c e - 1) d ≡ false

module _ (k : Caps) (s t : State) (g : Good k s) (d : ℕ) (h : Alone d s t) where
  -- another says the same as a message
  message-still : (to x : ℕ) → eqb x d ≡ false → message_of s to x ≡ message_of t to x
  message-still to x q =
      rw (
        h.sender x q,
        h.length x q,
        header-same (s PAYLOAD) (t PAYLOAD) x (h.bytes x q),
        text_same (s PAYLOAD) (t PAYLOAD) x (h.bytes x q) (at s LENGTH x) (length-fits g x),
      )

  -- and as a value
  value_still : (rank : ℕ → ℕ) (x : ℕ) → eqb x d ≡ false → value_said s rank x ≡ value_said t rank x
  value_still rank x q =
      rw (
        h.bus x q,
        h.length x q,
        h.published x q,
        h.readers x q,
        text_same (s PAYLOAD) (t PAYLOAD) x (h.bytes x q) (at s LENGTH x) (length-fits g x),
      )

  module _ (g' : Good k t) (w : Wrote AIRED s t) (n : Unsent d s) (l : Ledger) (r : Agrees k l s) where
    -- the messages are as they were
    mail-still : MailAgree k l.mail t
    mail-still = record {
      all_boxes = boxes_exact k t g';
      boxes = r.mail.boxes
          ∙ map-same_on (box_at s) (box_at t) (arrivals s) (λ e o.
          rw (w.cols AGE refl, w.cols MAIL-OWNER refl, w.cols MAIL-DATA refl)
          (message-still _ (at s MAIL-DATA e - 1) (n MAIL-DATA e refl refl (owner_some (s MAIL-DATA) (arrivals s) (datas-arrived k s g) e o))))
          ∙ rw (w.cols ARRIVED refl, w.cols ARRIVAL refl);
      palms = r.mail.palms;
      all_palms = rw (w.cols HAND refl) r.mail.all_palms;
      hands = r.mail.hands
          ∙ map-same_on (hand_at s) (hand_at t) r.mail.palms (λ a o.
          rw (w.cols AGE refl, w.cols HAND refl)
          (message-still _ (at s HAND a - 1) (n HAND a refl refl (owner_some (s HAND) r.mail.palms r.mail.all_palms a o))));
      all_datas = all-datas k t g' r.mail.palms (rw (w.cols HAND refl) r.mail.all_palms);
    }

    -- THE LAW of values: where one data entry was written, in which no message is, the reckoning follows once it says what is on the buses
    pub agrees_values : (b : Buses) → BusesAgree b t → Agrees k (with_buses l b) t
    agrees_values b x =
        parts w r (people-same w (living w refl) refl r.people) mail-still (time-same w refl r.time) (links-same w refl r.links) (monitors-same w refl r.monitors) x

-- ---- a value ends
module _ (k : Caps) (s : State) (g : Good k s) (j : ℕ) (jl : j < head s ISSUED) where
  -- every other data entry is as it was
  retire_alone : Alone (value_at s j) s (retire s j)
  unfolding pull poke with_col free_bit
  retire_alone =
      let d = value_at s j in
      rw (retire_is s j) (record {
        sender = other (s SENDER) d 0;
        length = other (s LENGTH) d 0;
        bus = other (s VALUE-BUS) d 0;
        readers = other (s READERS) d 0;
        published = other (s PUBLISHED) d 0;
        bytes = (wipe_is k s d g.sized (value_below k s g j jl)).apart;
      })

  -- the row closes up
  retire-values : values_in (retire s j) ≡ without j (values_in s)
  unfolding poke with_col free_bit
  retire-values =
      let d = value_at s j in
      let u : State = poke (poke (poke (unfilled s d (wipe (s PAYLOAD) d)) VALUE-BUS d 0) READERS d 0) PUBLISHED d 0 in
      let row : take (head (retire s j) ISSUED) (retire s j ISSUE) ≡ without j (take (head s ISSUED) (s ISSUE)) =
      rw (retire-count k s g j jl, retire_is s j) (pull_leaves u ISSUE ISSUED refl j jl (row_fits k s g)) in
      values-row k (retire s j) (retire_keeps k s g j jl)
      ∙ ap (map (λ w. w - 1)) row
      ∙ map-without (λ w. w - 1) j (take (head s ISSUED) (s ISSUE))
      ∙ ap (without j) (sym (values-row k s g))

  -- its data entry is no bus's
  retire_none : at (retire s j) VALUE-BUS (value_at s j) ≡ 0
  retire_none = rw (retire-bus s j) (set-zero (s VALUE-BUS) (value_at s j))

  -- no message is in it
  value_unsent : Unsent (value_at s j) s
  value_unsent c e o n m = owner_else (owned k s g) ISSUE j refl (value_at s j) (value_at_lem k s g j jl) c e o m (rw n)

  -- one that has a bus then had it, and is another
  retire_used : (d : ℕ) → (at (retire s j) VALUE-BUS d ≡ 0 → ⊥) → eqb d (value_at s j) ≡ false
  retire_used d n = ne_eqb d (value_at s j) (λ z. n (ap (at (retire s j) VALUE-BUS) z ∙ retire_none))

  -- what is left is another
  retire-left : (d : ℕ) → 0 < occurs d (without j (values_in s)) → eqb d (value_at s j) ≡ false
  retire-left d o =
      let w = occurs-without d j (values_in s) (omega (arith, values_long k s g)) in
      let x = rw (values-at k s g j jl) at w in
      ne_eqb d (value_at s j) (λ z. omega (arith, rw (eq-eqb (value_at s j) d (sym z)) at x, values_listed k s g d, flag≤ (not (unused (s VALUE-BUS) d))))

  module _ (l : Ledger) (r : Agrees k l s) where
    -- the buses, without it
    retired-buses : BusesAgree (with_values l (without j l.buses.values)).buses (retire s j)
    retired-buses =
        let b = r.buses in
        let h = retire_alone in
        let w = wrote_retire k s g j jl in
        let listed = retire-values in
        record {
          made = made-still w refl b.made;
          rank = b.rank;
          values = ap (without j) b.values ∙ sym (map-without (value_said s b.rank) j (values_in s))
              ∙ map-same_on (value_said s b.rank) (value_said (retire s j) b.rank) (without j (values_in s)) (λ d o. value_still k s (retire s j) g (value_at s j) h b.rank d (retire-left d o))
              ∙ ap (map (value_said (retire s j) b.rank)) (sym listed);
          seats = b.seats;
          all_seats = rw (w.cols SEAT refl) b.all_seats;
          cursor = b.cursor;
          readers = readers_still w b.cursor b.seats refl b.readers;
          ascending = rw (listed, map-without b.rank j (values_in s))
              (ascending_without (map b.rank (values_in s)) j (omega (arith, length-map (values_in s) b.rank, values_long k s g)) b.ascending);
          before = λ d n. let q = retire_used d n in b.before d (λ z. n (h.bus d q ∙ z));
          came = λ i n. b.came i (λ z. n (rw (w.cols SEAT refl) z));
          unread = λ c n d m i e.
              let q = retire_used d (λ z. omega arith) in
              rw (h.readers d q) (b.unread c n d m (λ z. i (rw (w.cols SEAT refl) z)) (sym (h.bus d q) ∙ e));
        }

    -- THE THEOREM of a value that ends: the reckoning's values are without it
    pub retire_agrees : Agrees k (with_values l (without j l.buses.values)) (retire s j)
    retire_agrees = agrees_values k s (retire s j) g (value_at s j) retire_alone (retire_keeps k s g j jl) (wrote_retire k s g j jl) value_unsent l r _ retired-buses

-- ---- the buses and the values of the reckoning, one by one
module _ (k : Caps) (l : Ledger) (s : State) (g : Good k s) (r : Agrees k l s) where
  -- there are as many buses
  pub buses_long : length l.buses.made ≡ head s BUSES
  buses_long = rw (r.buses.made, length-map (up_to (head s BUSES)) (bus_at s)) (up_to-length (head s BUSES))

  -- the bus of a number
  pub bus_is : (b : ℕ) → b < head s BUSES → bus_of l b ≡ bus_at s b
  bus_is b h = rw r.buses.made (map_at (bus_at s) (up_to (head s BUSES)) b 0 _ (omega (arith, up_to-length (head s BUSES))) ∙ ap (bus_at s) (up_to-at (head s BUSES) b h))

  -- there are as many values
  values-count : length l.buses.values ≡ head s ISSUED
  values-count = rw (r.buses.values, length-map (values_in s) (value_said s r.buses.rank)) (values_long k s g)

  -- the j-th
  value_is : (j : ℕ) (v : Value) → j < head s ISSUED → get_or l.buses.values j v ≡ value_said s r.buses.rank (value_at s j)
  value_is j v h =
      rw r.buses.values (map_at (value_said s r.buses.rank) (values_in s) j 0 v (omega (arith, values_long k s g)) ∙ ap (value_said s r.buses.rank) (values-at k s g j h))

  -- a value is one of the buses'
  pub value_bus : (d : ℕ) → (at s VALUE-BUS d ≡ 0 → ⊥) → at s VALUE-BUS d - 1 < head s BUSES
  value_bus d n =
      let h = used_inside (s VALUE-BUS) d n in
      omega (arith, n, ((g.values d (omega (arith, g.sized.words VALUE-BUS (lit< tt)))).1 n).0.0)

  -- it has reached its age on both sides, or on neither
  pub stale-same : (j : ℕ) → j < head s ISSUED → stale l (value_said s r.buses.rank (value_at s j)) ≡ is_stale s j
  stale-same j h =
      let d = value_at s j in
      rw (bus_is (at s VALUE-BUS d - 1) (value_bus d (value_there k s g j h)), r.time.clock)

-- ---- "Entries that have reached their age end"
-- the reckoning without the stale ones among the first n
abbrev aired_first : ℕ → Ledger → Ledger
aired_first n l = with_values l (those (λ v. not (stale l v)) (take n l.buses.values) ++ drop n l.buses.values)

-- what is so once those among the first n have ended
abbrev Airs : ℕ → Type 0
Airs n = (k : Caps) (l : Ledger) (s : State) → Good k s → Agrees k l s → n ≤ head s ISSUED → Agrees k (aired_first n l) (airing n s)

-- none is among none
airs_none : Airs 0
unfolding airing those
airs_none k l s g r h = r

-- one more of the first
airs_next : (i : ℕ) → Airs i → Airs (suc i)
unfolding airing
airs_next i airs k l s g r h =
    let vs = l.buses.values in
    let v = value_said s r.buses.rank (value_at s i) in
    let p : Value → Bool = λ v. not (stale l v) in
    let m : i < length vs = omega (arith, values-count k l s g r) in
    let e : stale l (get_or vs i v) ≡ is_stale s i = ap (stale l) (value_is k l s g r i v h) ∙ stale-same k l s g r i h in
    split (is_stale s i)
    (λ q. rw q (subst (λ (xs : List Value). Agrees k (with_values l xs) (airing i (retire s i))) (those-gone p vs i v m (ap not (e ∙ q)))
    (airs k (with_values l (without i vs)) (retire s i) (retire_keeps k s g i h) (retire_agrees k s g i h l r) (omega (arith, retire-count k s g i h)))))
    (λ q. rw q (subst (λ (xs : List Value). Agrees k (with_values l xs) (airing i s)) (those_stays p vs i v m (ap not (e ∙ q))) (airs k l s g r (omega arith))))

-- any of them
airs : (n : ℕ) → Airs n
airs zero = airs_none
airs (suc i) = airs_next i (airs i)

-- THE THEOREM of ageing
pub aired_agrees : (k : Caps) (l : Ledger) (s : State) → Good k s → Agrees k l s → Agrees k (Reckon.aired l) (aired s)
unfolding Reckon.aired
aired_agrees k l s g r =
    let vs = l.buses.values in
    let n = values-count k l s g r in
    subst (λ (xs : List Value). Agrees k (with_values l xs) (aired s))
    (ap₂ (λ (x y : List Value). those (λ v. not (stale l v)) x ++ y) (take_all (head s ISSUED) vs (omega arith)) (drop_of_length-le vs {i = head s ISSUED} (omega arith))
    ∙ append-nil (those (λ v. not (stale l v)) vs))
    (airs (head s ISSUED) k l s g r (omega arith))

-- ---- a value begins
module _ (k : Caps) (s : State) (g : Good k s) (d : ℕ) (below : d < k.datas) (df : free (s DATA-FREE) d ≡ true) (b : ℕ) (payload : List ℕ) (short : length payload ≤ PAYLOAD-MOST) where
  -- every other is as it was
  issue_alone : Alone d s (issue s d b payload)
  unfolding push poke with_col take_bit
  issue_alone =
      rw (issue_is s d b payload) (record {
        sender = λ x q. other (s SENDER) d 0 x q;
        length = λ x q. other (s LENGTH) d (length payload) x q;
        bus = λ x q. other (s VALUE-BUS) d (suc b) x q;
        readers = λ x q. other (s READERS) d (audience s b MOST-SEATS) x q;
        published = λ x q. other (s PUBLISHED) d (head s CLOCK) x q;
        bytes = (issue_text k s g d below df payload short).apart;
      })

  -- no message is in it
  issue_unsent : Unsent d s
  issue_unsent c e o n m = owner_fresh (owned k s g) c e o m d df

  -- it is the last of the row
  issue-values : Good k (issue s d b payload) → values_in (issue s d b payload) ≡ values_in s ++ (d ∷ [])
  unfolding poke with_col take_bit
  issue-values good =
      let u : State = poke (poke (poke (filled s d 0 (length payload) (ink s d 0 payload)) VALUE-BUS d (suc b)) READERS d (audience s b MOST-SEATS)) PUBLISHED d (head s CLOCK) in
      let good' : Good k (push u ISSUE ISSUED (suc d)) = rw (issue_is s d b payload) at good in
      rw (issue_is s d b payload)
      (values-row k (push u ISSUE ISSUED (suc d)) good'
      ∙ ap (map (λ w. w - 1)) (push-joins u ISSUE ISSUED refl (suc d) (g.sized.words ISSUED (lit< tt)) (row_next k s g d below df))
      ∙ map-append (λ w. w - 1) (take (head s ISSUED) (s ISSUE)) (suc d ∷ [])
      ∙ ap₂ (λ (x : List ℕ) (y : ℕ). x ++ (y ∷ [])) (sym (values-row k s g)) (down d))

  -- it says what was published, read by nobody
  issue-says : (rank : ℕ → ℕ) → value_said (issue s d b payload) rank d ≡ record { bus = b; payload = payload; time = head s CLOCK; reads = 0; rank = rank d }
  unfolding push poke with_col take_bit
  issue-says rank =
      rw (
        issue_is s d b payload,
        read_down g VALUE-BUS d b tt below,
        read_back g LENGTH d (length payload) tt below,
        read_back g PUBLISHED d (head s CLOCK) tt below,
        read_back g READERS d (audience s b MOST-SEATS) tt below,
        (issue_text k s g d below df payload short).text,
        count_none (has_read (audience s b MOST-SEATS)) MOST-SEATS (λ n h. ap (λ (x : ℕ). eqb x 1) (audience-unread s b MOST-SEATS n h)),
      )

  -- who reads it: those who sit on its bus
  issue-may : (n : ℕ) → n < MOST-SEATS → (in_seat s b n ≡ 0 → ⊥) → may_read (at (issue s d b payload) READERS d) n ≡ true
  unfolding push poke with_col take_bit
  issue-may n h u =
      rw (issue_is s d b payload, read_back g READERS d (audience s b MOST-SEATS) tt below)
      (eq-eqb _ 1 (audience-may s b MOST-SEATS n ∙ rw (lt-ltb n MOST-SEATS h, ne_eqb (in_seat s b n) 0 u)))

  -- its bus
  issue-bus : at (issue s d b payload) VALUE-BUS d ≡ suc b
  unfolding push poke with_col take_bit
  issue-bus = rw (issue_is s d b payload) (read_back g VALUE-BUS d (suc b) tt below)

  module _ (good : Good k (issue s d b payload)) (l : Ledger) (r : Agrees k l s) where
    -- the buses, with it
    begun-buses : BusesAgree (issued b payload l).buses (issue s d b payload)
    unfolding issued
    begun-buses =
        let v = r.buses in
        let t = issue s d b payload in
        let h = issue_alone in
        let w = wrote_issue s d b payload in
        let listed = issue-values good in
        let rank = anew d l.buses.published v.rank in
        let old : (x : ℕ) → 0 < occurs x (values_in s) → eqb x d ≡ false = λ x o. ne_eqb x d (λ z. (value_used k s g x o).0 (ap (at s VALUE-BUS) z ∙ free_no_value k s g d below df)) in
        let ranks : map rank (values_in s ++ (d ∷ [])) ≡ map v.rank (values_in s) ++ (l.buses.published ∷ []) =
        map-append rank (values_in s) (d ∷ []) ∙ ap₂ (λ (x : List ℕ) (y : ℕ). x ++ (y ∷ [])) (map-same_on rank v.rank (values_in s) (λ x o. rw (old x o))) (rw (eq-eqb d d refl)) in
        record {
          made = made-still w refl v.made;
          rank = rank;
          values = things_begin (value_said s v.rank) (value_said t rank) l.buses.values (values_in s) d _ v.values
              (issue-says rank ∙ rw (eq-eqb d d refl, r.time.clock))
              (λ x o. rw (old x o) (value_still k s t g d h v.rank x (old x o)))
              ∙ ap (map (value_said t rank)) (sym listed);
          seats = v.seats;
          all_seats = rw (w.cols SEAT refl) v.all_seats;
          cursor = v.cursor;
          readers = readers_still w v.cursor v.seats refl v.readers;
          ascending = rw (listed, ranks) (ascending_snoc (map v.rank (values_in s)) l.buses.published (λ i m.
              let o : i < length (values_in s) = omega (arith, length-map (values_in s) v.rank) in
              rw (map_at v.rank (values_in s) i 0 0 o) (v.before (get_or (values_in s) i 0) (value_used k s g (get_or (values_in s) i 0) (occurs_get_d (values_in s) i o)).0)) v.ascending);
          before = λ x n. split (eqb x d) (λ q. rw q (omega arith)) (λ q. let o = v.before x (λ z. n (h.bus x q ∙ z)) in rw q (omega arith));
          came = λ i n. let o = v.came i (λ z. n (rw (w.cols SEAT refl) z)) in omega arith;
          unread = λ c n x m u e.
              let i : in_seat s c n ≡ 0 → ⊥ = λ z. u (rw (w.cols SEAT refl) z) in
              split (eqb x d)
              (λ q. let z = eqb-true x d q in
              let c-is : c ≡ b = omega (arith, issue-bus, ap (at t VALUE-BUS) z) in
              rw (q, z, le-leb (v.cursor (seat_at c n)) l.buses.published (v.came (seat_at c n) i)) (issue-may n m (rw c-is at i)))
              (λ q. rw (q, h.readers x q) (v.unread c n x m i (sym (h.bus x q) ∙ e)));
        }

    -- THE THEOREM of a value that begins: it is the reckoning's last
    pub issue_agrees : Agrees k (issued b payload l) (issue s d b payload)
    unfolding issued
    issue_agrees = agrees_values k s (issue s d b payload) g d issue_alone good (wrote_issue s d b payload) issue_unsent l r _ begun-buses
