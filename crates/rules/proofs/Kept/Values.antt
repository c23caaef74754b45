-- What is done to the values of the buses keeps a sound state sound.
use Prim.Native.Nat.{ℕ, zero, suc, ◌+◌, ◌-◌, ◌≤◌, ◌<◌}
use native.Mathlib.Nat.{add-zero}
use native.Mathlib.Omega.{arith}
use mathlib.Core.Path.{◌≡◌, refl, ◌∙◌}
use mathlib.Core.Bool.{cond, Bool, true, false, not, ◌&&◌}
use mathlib.Core.List.{List, ◌∷◌}
use mir.Val.{bool_byte}
use lib.ListN.{length, get_or, set, take, drop, get_or-eq_default, take-append-drop}
use lib.Seq.{get_or-take, length-take-le}
use lib.Dec.{eqb, ltb, lit<}
use borrow.Author.Tests.{eqb-true, eqb-false, eq-eqb, le-ltb, leb-false, leb-true, lt-ltb, ltb-true, ne_eqb, not-false}
use Rattle.pools.specs.Pool.{lowest, occurs}
use Rattle.pools.specs.Lists.{without}
use Rattle.pools.specs.Bits.{bit, cleared, free, marked, released}
use Rattle.pools.specs.Slot.{unused}
use Rattle.pools.proofs.BoolLaws.{split, flag≤, true_false}
use Rattle.pools.proofs.ListLaws.{occurs-append, occurs-place, occurs-without}
use Rattle.pools.proofs.PoolLaws.{count-not, count-some, lowest-at, room_iff}
use Rattle.pools.proofs.BitLaws.{add-other, add_same, bit_none, cleared-other, cleared-same, marked_other}
use Rattle.pools.proofs.FreeLaws.{free_inside, released-same, taken-same}
use Rattle.pools.proofs.ExactLaws.{exact_length}
use Rattle.tables.specs.declared.Caps.{Caps}
use Rattle.tables.specs.Columns.{AGE, BUS-SIZE, BUSES, CLOCK, DATA-FREE, ISSUE, ISSUED, LENGTH, MAIL-DATA, PAYLOAD, PUBLISHED, READERS, SENDER, VALUE-BUS}
use Rattle.tables.specs.Limits.{MOST-BUSES, MOST-SEATS, PAYLOAD-MOST}
use Rattle.tables.specs.State.{State, at, head, poke, with_col}
use Rattle.tables.specs.Action.{closed, free_bit, pull, push, take_bit}
use Rattle.rules.specs.Rule.{Holds}
use Rattle.rules.specs.Sound.{crowd_rule, data_rule, held_rule, issue_rule, issued_rule, pair_rule, value_rule}
use Rattle.rules.specs.Actions.{data_for}
use Rattle.rules.specs.Buses.{aired, airing, audience, broadcast, bus_full, evict, has_read, in_seat, is_on, is_stale, issue, may_read, oldest_on, read_off, read_out_of, retire, signed, value_at}
use Rattle.rules.specs.Agrees.{values_in}
use Rattle.rules.specs.Good.{Good}
use Rattle.rules.proofs.Frames.Wrote.{Wrote, mem, wrote_none, wrote_poke, wrote_pull, wrote_push}
use Rattle.rules.proofs.Frames.Buses.{AIRED, beside_evict}
use Rattle.rules.proofs.Lists.Columns.{closed-first, closed-past, each_set, other, set-zero}
use Rattle.rules.proofs.Lists.Ties.{step}
use Rattle.rules.proofs.Lists.Messages.{Wiped, Written, bits_free, bits_take, datas-free, datas-take, written}
use Rattle.rules.proofs.Kept.Clauses.{bus-made, buses-fit, issue-fits, issue-some, read_back, read_down, values-fit}
use Rattle.rules.proofs.Kept.Groups as Part
use Rattle.rules.proofs.Kept.Messages.{fill_is, filled, filters_else, ink, unfill_is, unfilled, wipe, wipe_is, wrote_filled, wrote_unfilled}
use Rattle.rules.proofs.Kept.Owners.{free_no_value, occurs-set, owned, owner_else, owner_free, owner_fresh, owner_take, unissued, zero_no_up}
use Rattle.rules.proofs.Kept.Patch.{◌by◌also◌, done, patch}
use Rattle.rules.proofs.Kept.Row.{row_fits, used_value, value_at_lem, value_below, value_there, values_listed, values_long}

-- ---- numbers one up
-- one stands once less where a 0 is written over it
zeroed-occurs : (x : ℕ) (l : List ℕ) (i : ℕ) → i < length l → occurs (suc x) (set l i 0) + bool_byte (eqb (get_or l i 0) (suc x)) ≡ occurs (suc x) l
zeroed-occurs x l i h = omega (arith, zero_no_up x, occurs-set (suc x) l i 0 h)

-- in a counted list that closes up over its j-th word one stands as often as with a 0 for that word
closed-occurs : (m j : ℕ) (l : List ℕ) → j < m → m ≤ length l → (x : ℕ) → occurs (suc x) (closed m j l) ≡ occurs (suc x) (set l j 0)
unfolding occurs
closed-occurs m j l h w x =
    let t = length-take-le m l w in
    let all = rw (take-append-drop m l) at (occurs-append (suc x) (take m l) (drop m l)) in
    let gone = rw (get_or-take m l j 0 h) at (occurs-without (suc x) j (take m l) (omega arith)) in
    occurs-append (suc x) (without j (take m l)) (0 ∷ drop m l) ∙ omega (arith, zero_no_up x, gone, all, zeroed-occurs x l j (omega arith))

-- ---- a value ends
-- the state with the j-th ended, which was in data entry d, where q is the payload area with that entry wiped
abbrev retired : State → ℕ → ℕ → List ℕ → State
retired s j d q = pull (poke (poke (poke (unfilled s d q) VALUE-BUS d 0) READERS d 0) PUBLISHED d 0) ISSUE ISSUED j

-- which is what its end leaves
pub retire_is : (s : State) (j : ℕ) → retire s j ≡ retired s j (value_at s j) (wipe (s PAYLOAD) (value_at s j))
unfolding retire
retire_is s j = rw (unfill_is s (value_at s j))

module _ (k : Caps) (s : State) (g : Good k s) (j : ℕ) (jl : j < head s ISSUED) where
  -- each number one up stands in the row as if a 0 stood for its word
  row-closed : (x : ℕ) → occurs (suc x) (closed (head s ISSUED) j (s ISSUE)) ≡ occurs (suc x) (set (s ISSUE) j 0)
  row-closed = closed-occurs (head s ISSUED) j (s ISSUE) jl (row_fits k s g)

  -- how many values there are, one down
  one_less : get_or (set (s ISSUED) 0 (head s ISSUED - 1)) 0 0 ≡ head s ISSUED - 1
  one_less = read_back g ISSUED 0 (head s ISSUED - 1) tt (omega arith)

  module _ (q : List ℕ) (w : Wiped (s PAYLOAD) q (value_at s j)) where
    -- the columns of values are written
    wrote_retired : Wrote AIRED s (retired s j (value_at s j) q)
    unfolding pull poke with_col free_bit
    wrote_retired =
        let d = value_at s j in
        wrote_pull (wrote_poke (wrote_poke (wrote_poke (wrote_unfilled (wrote_none s) d q w.long) VALUE-BUS d 0) READERS d 0) PUBLISHED d 0) ISSUE ISSUED j jl (row_fits k s g)

    -- each data entry is held once, or free
    retired-held : (x : ℕ) → x < k.datas → Holds (held_rule (retired s j (value_at s j) q) x)
    unfolding pull poke with_col free_bit
    retired-held x l = rw (row-closed x) (owner_free (owned k s g) ISSUE j refl (value_at s j) (value_at_lem k s g j jl) x l)

    -- each value that is left is in the row once
    retired-issued : (e : ℕ) → e < k.datas → Holds (issued_rule (retired s j (value_at s j) q) e)
    unfolding pull poke with_col free_bit
    retired-issued e l =
        let d = value_at s j in
        rw (row-closed e)
        (each_set (λ e. e < k.datas → occurs (suc e) (set (s ISSUE) j 0) ≡ bool_byte (not (eqb (get_or (set (s VALUE-BUS) d 0) e 0) 0))) d e
        (λ l. let o = rw (eq-eqb (at s ISSUE j) (suc d) (value_at_lem k s g j jl)) at (zeroed-occurs d (s ISSUE) j (omega (arith, row_fits k s g))) in
        rw (set-zero (s VALUE-BUS) d) (omega (arith, o, g.issued d l, flag≤ (not (eqb (at s VALUE-BUS d) 0)))))
        (λ r l. let o = rw (ne_eqb (at s ISSUE j) (suc e) (λ z. eqb-false e d r (omega (arith, value_at_lem k s g j jl)))) at (zeroed-occurs e (s ISSUE) j (omega (arith, row_fits k s g))) in
        rw (other (s VALUE-BUS) d 0 e r) (omega (arith, o, g.issued e l))) l)

    -- the values that are left
    retired-values : (e : ℕ) → e < k.datas → Holds (value_rule (retired s j (value_at s j) q) e)
    unfolding pull poke with_col free_bit
    retired-values e l =
        let d = value_at s j in
        each_set (λ e. Holds (value_rule (retired s j d q) e)) d e
        (rw (set-zero (s VALUE-BUS) d, set-zero (s READERS) d, set-zero (s PUBLISHED) d) (λ z. (refl, refl), λ z. absurd (z refl)))
        (λ r. rw (other (s VALUE-BUS) d 0 e r, other (s READERS) d 0 e r, other (s PUBLISHED) d 0 e r) (g.values e l))

    -- sound as before
    retired_good : Good k (retired s j (value_at s j) q)
    unfolding pull poke with_col free_bit pair_rule
    retired_good =
        let d = value_at s j in
        patch k g wrote_retired (
        Part.head by (rw one_less (g.head.0, (g.head.1.0, (omega (arith, values-fit g), g.head.1.1.1)))) also
        Part.data_bits by (bits_free k.datas (s DATA-FREE) d (value_below k s g j jl) g.data_bits) also
        Part.filters by (filters_else k s g d 0 q w.apart (λ f n. owner_else (owned k s g) ISSUE j refl d (value_at_lem k s g j jl) MAIL-DATA f refl n refl)) also
        Part.datas by (λ e m. datas-free (s DATA-FREE) (s SENDER) (s LENGTH) (s VALUE-BUS) (set (s VALUE-BUS) d 0) (s PAYLOAD) q (s AGE) d (other (s VALUE-BUS) d 0)
        ((owned k s g).bits d (value_below k s g j jl)) w e (g.datas e m)) also
        Part.held by retired-held also
        Part.values by retired-values also
        Part.issues by (rw one_less (λ i l. (
          closed-first (head s ISSUED) j (s ISSUE) jl (row_fits k s g) (λ x. (1 ≤ x) × (x ≤ k.datas)) (λ i l. (issue-some g i l, issue-fits g i)) i,
          λ u. closed-past (head s ISSUED) j (s ISSUE) jl (row_fits k s g) i u (unissued k s g i),
        ))) also
        Part.issued by retired-issued also
        Part.crowds by (λ b l. omega (arith, zeroed-occurs b (s VALUE-BUS) d (omega (arith, value_below k s g j jl, g.sized.words VALUE-BUS (lit< tt))), g.crowds b l)) also
        done) refl

  -- THE THEOREM of a value that ends
  pub retire_keeps : Good k (retire s j)
  retire_keeps = rw (retire_is s j) (retired_good (wipe (s PAYLOAD) (value_at s j)) (wipe_is k s (value_at s j) g.sized (value_below k s g j jl)))

  -- the columns of values are written
  pub wrote_retire : Wrote AIRED s (retire s j)
  wrote_retire = rw (retire_is s j) (wrote_retired (wipe (s PAYLOAD) (value_at s j)) (wipe_is k s (value_at s j) g.sized (value_below k s g j jl)))

  -- one value less is in the row
  pub retire-count : head (retire s j) ISSUED ≡ head s ISSUED - 1
  unfolding pull poke with_col free_bit
  retire-count = rw (retire_is s j) one_less

-- ---- values that have reached their age end
-- those among the first
airing_keeps : (k : Caps) (i : ℕ) (s : State) → Good k s → i ≤ head s ISSUED → Good k (airing i s)
unfolding airing
airing_keeps k zero s g h = g
airing_keeps k (suc i) s g h =
    split (is_stale s i)
    (λ q. rw q (airing_keeps k i (retire s i) (retire_keeps k s g i h) (omega (arith, retire-count k s g i h))))
    (λ q. rw q (airing_keeps k i s g (omega arith)))

-- THE THEOREM of ageing: all of them
pub aired_keeps : (k : Caps) (s : State) → Good k s → Good k (aired s)
aired_keeps k s g = airing_keeps k (head s ISSUED) s g (omega arith)

-- ---- a full bus makes room
-- what an end leaves in the column of the buses of values
pub retire-bus : (s : State) (j : ℕ) → retire s j VALUE-BUS ≡ set (s VALUE-BUS) (value_at s j) 0
unfolding pull poke with_col free_bit
retire-bus s j = rw (retire_is s j)

-- and in that of the free bits
retire-free : (s : State) (j : ℕ) → retire s j DATA-FREE ≡ released (s DATA-FREE) (value_at s j)
unfolding pull poke with_col free_bit
retire-free s j = rw (retire_is s j)

-- where one passes there is a lowest
lowest-some : (f : ℕ → Bool) (i n : ℕ) → i < n → f i ≡ true → lowest f n < n
lowest-some f i n l e = (room_iff f n).1 (count-some f i n l e)

module _ (k : Caps) (s : State) (g : Good k s) (b : ℕ) (made : b < head s BUSES) where
  -- a full bus has an oldest value
  pub oldest_there : bus_full s b ≡ true → oldest_on s b < head s ISSUED
  oldest_there q =
      let p = occurs-place (suc b) (s VALUE-BUS) (omega (arith, leb-true (at s BUS-SIZE b) (occurs (suc b) (s VALUE-BUS)) q, (bus-made g b made).0)) in
      let (j, below, e) = used_value k s g p.0 (λ z. omega (arith, p.2)) in
      lowest-some (is_on s b) j (head s ISSUED) below (rw e (eq-eqb (at s VALUE-BUS p.0) (suc b) p.2))

  -- THE THEOREM of a full bus that makes room: sound as before
  pub evict_keeps : Good k (evict s b)
  unfolding evict
  evict_keeps = split (bus_full s b) (λ q. rw q (retire_keeps k s g (oldest_on s b) (oldest_there q))) (λ q. rw q g)

  -- the bus then has room for a value
  evict_room : occurs (suc b) (evict s b VALUE-BUS) < at s BUS-SIZE b
  unfolding evict
  evict_room =
      split (bus_full s b)
      (λ q. let j = oldest_on s b in
      let l = oldest_there q in
      let o = zeroed-occurs b (s VALUE-BUS) (value_at s j) (omega (arith, value_below k s g j l, g.sized.words VALUE-BUS (lit< tt))) in
      rw (q, retire-bus s j) (omega (arith, rw (lowest-at (is_on s b) (head s ISSUED) l) at o, g.crowds b (omega (arith, buses-fit g)))))
      (λ q. rw q (leb-false (at s BUS-SIZE b) (occurs (suc b) (s VALUE-BUS)) q))

  -- and a data entry is free, where one was or the bus was full
  pub evict-free : not (bus_full s b) && not (ltb (data_for k s) k.datas) ≡ false → data_for k (evict s b) < k.datas
  unfolding evict
  evict-free h =
      split (bus_full s b)
      (λ q. let j = oldest_on s b in
      let l = value_below k s g j (oldest_there q) in
      rw (q, retire-free s j) (lowest-some (free (released (s DATA-FREE) (value_at s j))) (value_at s j) k.datas l (released-same (s DATA-FREE) (value_at s j) ((owned k s g).bits (value_at s j) l))))
      (λ q. rw q (ltb-true (data_for k s) k.datas (not-false (ltb (data_for k s) k.datas) (rw q at h))))

-- ---- who may read what is published now
module _ (s : State) (b : ℕ) where
  -- those who sit in the first seats
  pub audience-may : (m n : ℕ) → bit (audience s b m) (MOST-SEATS + n) ≡ bool_byte (ltb n m && not (eqb (in_seat s b n) 0))
  unfolding audience
  audience-may zero n = rw (le-ltb n 0 (omega arith)) (bit_none (MOST-SEATS + n))
  audience-may (suc m) n =
      let x = audience s b m in
      let last : ltb m (suc m) ≡ true = lt-ltb m (suc m) (omega arith) in
      let bare : bit x (MOST-SEATS + m) ≡ 0 = audience-may m m ∙ rw (le-ltb m m (omega arith)) in
      split (eqb (in_seat s b m) 0)
      (λ q. rw (q, add-zero x) (split (eqb n m)
      (λ r. rw (eqb-true n m r, last, q) bare)
      (λ r. rw (step m n r) (audience-may m n))))
      (λ q. rw q (split (eqb n m)
      (λ r. rw (eqb-true n m r, last, q) (add_same x (MOST-SEATS + m) bare))
      (λ r. rw (step m n r) (add-other x (MOST-SEATS + m) (MOST-SEATS + n) bare (λ z. eqb-false n m r (omega arith)) ∙ audience-may m n))))

  -- one more of them is one more bit
  pub audience-marks : (m : ℕ) → audience s b (suc m) ≡ cond (eqb (in_seat s b m) 0) (audience s b m) (marked (audience s b m) (MOST-SEATS + m))
  unfolding audience
  audience-marks m =
      let bare : bit (audience s b m) (MOST-SEATS + m) ≡ 0 = audience-may m m ∙ rw (le-ltb m m (omega arith)) in
      split (eqb (in_seat s b m) 0) (λ q. rw (q, add-zero (audience s b m))) (λ q. rw (q, bare) (omega arith))

  -- nobody has read it
  pub audience-unread : (m n : ℕ) → n < MOST-SEATS → bit (audience s b m) n ≡ 0
  unfolding audience
  audience-unread zero n l = bit_none n
  audience-unread (suc m) n l =
      split (eqb (in_seat s b m) 0) (λ q. rw (audience-marks m, q) (audience-unread m n l))
      (λ q. rw (audience-marks m, q) (marked_other (audience s b m) (MOST-SEATS + m) n (λ z. omega arith) ∙ audience-unread m n l))

-- ---- a value begins
-- the state with a value of bus b in data entry d, for who may read it by a mask, where n is its length and q the payload area with it in that entry
abbrev pub begun : State → ℕ → ℕ → ℕ → ℕ → List ℕ → State
begun s d b mask n q =
    push (poke (poke (poke (filled s d 0 n q) VALUE-BUS d (suc b)) READERS d mask) PUBLISHED d (head s CLOCK)) ISSUE ISSUED (suc d)

-- which is what its beginning leaves
pub issue_is : (s : State) (d b : ℕ) (payload : List ℕ) → issue s d b payload ≡ begun s d b (audience s b MOST-SEATS) (length payload) (ink s d 0 payload)
unfolding issue
issue_is s d b payload = rw (fill_is s d 0 0 payload)

module _ (k : Caps) (s : State) (g : Good k s) (d : ℕ) (below : d < k.datas) (df : free (s DATA-FREE) d ≡ true) where
  -- where a data entry is free the row has room
  row_room : head s ISSUED < k.datas
  row_room =
      let valued : ℕ → Bool = λ e. not (unused (s VALUE-BUS) e) in
      let past : (e : ℕ) → k.datas ≤ e → at s VALUE-BUS e ≡ 0 = λ e l. get_or-eq_default (s VALUE-BUS) 0 {n = e} (omega (arith, g.sized.words VALUE-BUS (lit< tt))) in
      let all = exact_length valued k.datas (values_in s) (λ e l. rw (past e l)) (values_listed k s g) in
      let none = count-some (λ e. not (valued e)) d k.datas below (rw (free_no_value k s g d below df)) in
      omega (arith, values_long k s g, all, none, count-not valued k.datas)

  -- the next word of the row is one of its column
  pub row_next : head s ISSUED < length (s ISSUE)
  row_next = omega (arith, row_room, g.sized.words ISSUE (lit< tt))

  -- one more value is in the row
  one_more : get_or (set (s ISSUED) 0 (head s ISSUED + 1)) 0 0 ≡ head s ISSUED + 1
  one_more = read_back g ISSUED 0 (head s ISSUED + 1) tt (omega arith)

  -- its entry has its bytes, once they are written
  pub issue_text : (payload : List ℕ) → length payload ≤ PAYLOAD-MOST → Written (s PAYLOAD) (ink s d 0 payload) d 0 payload
  issue_text payload short = written (s PAYLOAD) payload d 0 (omega (arith, g.sized.bytes)) (lit< tt) short ((g.datas d below).0 df).1

  -- of bus b, which is made and has room for it, for those whom the mask names: they sit there, and have not read it
  module _ (b mask : ℕ) (q payload : List ℕ) (made : b < head s BUSES) (room : occurs (suc b) (s VALUE-BUS) < at s BUS-SIZE b)
      (short : length payload ≤ PAYLOAD-MOST) (w : Written (s PAYLOAD) q d 0 payload)
      (may : (m : ℕ) → m < MOST-SEATS → may_read mask m ≡ true → (not (has_read mask m) ≡ true) × (in_seat s b m ≡ 0 → ⊥)) where
    -- the columns of values are written
    wrote_begun : Wrote AIRED s (begun s d b mask (length payload) q)
    wrote_begun =
        wrote_push (wrote_poke (wrote_poke (wrote_poke (wrote_filled (wrote_none s) d 0 (length payload) q w.long) VALUE-BUS d _) READERS d mask) PUBLISHED d _) ISSUE ISSUED (suc d)

    -- the data entries are sound
    begun-datas : (e : ℕ) → e < k.datas → Holds (data_rule (begun s d b mask (length payload) q) e)
    unfolding push poke with_col take_bit
    begun-datas e m =
        datas-take (s DATA-FREE) (s SENDER) (s LENGTH) (s VALUE-BUS) (set (s VALUE-BUS) d (suc b)) (s PAYLOAD) q (s AGE) d (other (s VALUE-BUS) d (suc b)) 0 (length payload) w.apart
        (rw (
          taken-same (s DATA-FREE) d (free_inside (s DATA-FREE) d df),
          read_back g SENDER d 0 tt below,
          read_back g LENGTH d (length payload) tt below,
          read_back g VALUE-BUS d (suc b) tt below,
          w.header,
        )
        (λ u. true_false false u refl, λ u. (λ z. absurd (omega arith), λ z. ((refl, refl), (short, w.past)))))
        e (g.datas e m)

    -- so are the values
    begun-values : (e : ℕ) → e < k.datas → Holds (value_rule (begun s d b mask (length payload) q) e)
    unfolding push poke with_col take_bit
    begun-values e l =
        each_set (λ e. Holds (value_rule (begun s d b mask (length payload) q) e)) d e
        (rw (read_down g VALUE-BUS d b tt below, read_back g VALUE-BUS d (suc b) tt below, read_back g READERS d mask tt below, read_back g PUBLISHED d (head s CLOCK) tt below)
        (λ z. absurd (omega arith), λ z. ((made, omega arith), may)))
        (λ r. rw (other (s VALUE-BUS) d (suc b) e r, other (s READERS) d mask e r, other (s PUBLISHED) d (head s CLOCK) e r) (g.values e l))

    -- the words of the row
    begun-issues : (i : ℕ) → i < k.datas → Holds (issue_rule k (begun s d b mask (length payload) q) i)
    unfolding push poke with_col take_bit
    begun-issues i l =
        each_set (λ i. i < k.datas → Holds (issue_rule k (begun s d b mask (length payload) q) i)) (head s ISSUED) i
        (λ l. rw (one_more, read_back g ISSUE (head s ISSUED) (suc d) tt l) (λ h. (omega arith, below), λ h. absurd (omega arith)))
        (λ r l. let x = eqb-false i (head s ISSUED) r in rw (one_more, other (s ISSUE) (head s ISSUED) (suc d) i r) (λ h. (g.issues i l).0 (omega arith), λ h. (g.issues i l).1 (omega arith))) l

    -- each value is in it once
    begun-issued : (e : ℕ) → e < k.datas → Holds (issued_rule (begun s d b mask (length payload) q) e)
    unfolding push poke with_col take_bit
    begun-issued e l =
        let empty = unissued k s g (head s ISSUED) (omega arith) in
        let o = rw (empty, ne_eqb 0 (suc e) (λ z. omega arith)) at (occurs-set (suc e) (s ISSUE) (head s ISSUED) (suc d) row_next) in
        split (eqb e d)
        (λ r. let z = eqb-true e d r in
        let none = rw (free_no_value k s g d below df) at (g.issued d below) in
        rw (z, read_back g VALUE-BUS d (suc b) tt below, ne_eqb (suc b) 0 (λ y. omega arith)) (omega (arith, rw (z, eq-eqb (suc d) (suc d) refl) at o, none)))
        (λ r. rw (other (s VALUE-BUS) d (suc b) e r) (omega (arith, rw (ne_eqb (suc d) (suc e) (λ y. eqb-false e d r (omega arith))) at o, g.issued e l)))

    -- no bus has too many
    begun-crowds : (c : ℕ) → c < MOST-BUSES → Holds (crowd_rule (begun s d b mask (length payload) q) c)
    unfolding push poke with_col take_bit
    begun-crowds c l =
        let o = occurs-set (suc c) (s VALUE-BUS) d (suc b) (omega (arith, below, g.sized.words VALUE-BUS (lit< tt))) in
        split (eqb c b)
        (λ r. let z = eqb-true c b r in rw z (omega (arith, rw (z, eq-eqb (suc b) (suc b) refl) at o, room)))
        (λ r. omega (arith, rw (ne_eqb (suc b) (suc c) (λ y. eqb-false c b r (omega arith))) at o, g.crowds c l))

    -- sound as before
    begun_good : Good k (begun s d b mask (length payload) q)
    unfolding push poke with_col take_bit pair_rule
    begun_good =
        patch k g wrote_begun (
        Part.head by (rw one_more (g.head.0, (g.head.1.0, (omega (arith, row_room), g.head.1.1.1)))) also
        Part.data_bits by (bits_take k.datas (s DATA-FREE) d below g.data_bits) also
        Part.filters by (filters_else k s g d 0 q w.apart (λ f n. owner_fresh (owned k s g) MAIL-DATA f refl n d df)) also
        Part.datas by begun-datas also
        Part.held by (owner_take (owned k s g) ISSUE (head s ISSUED) refl row_next (unissued k s g (head s ISSUED) (omega arith)) d df) also
        Part.values by begun-values also
        Part.issues by begun-issues also
        Part.issued by begun-issued also
        Part.crowds by begun-crowds also
        done) refl

  -- THE THEOREM of a value that begins, on a bus with room for it: sound as before
  pub issue_keeps : (b : ℕ) (payload : List ℕ) → b < head s BUSES → occurs (suc b) (s VALUE-BUS) < at s BUS-SIZE b → length payload ≤ PAYLOAD-MOST → Good k (issue s d b payload)
  issue_keeps b payload made room short =
      rw (issue_is s d b payload) (begun_good b (audience s b MOST-SEATS) (ink s d 0 payload) payload made room short (issue_text payload short)
      (λ m l u. (
        rw (audience-unread s b MOST-SEATS m l),
        λ z. omega (arith, eqb-true (bit (audience s b MOST-SEATS) (MOST-SEATS + m)) 1 u, rw (lt-ltb m MOST-SEATS l, z) at (audience-may s b MOST-SEATS m)),
      )))

-- THE THEOREM of what is published, where the bus is full or a data entry is free: sound as before
pub broadcast_keeps : (k : Caps) (s : State) → Good k s → (b : ℕ) (payload : List ℕ) → b < head s BUSES → length payload ≤ PAYLOAD-MOST →
    not (bus_full s b) && not (ltb (data_for k s) k.datas) ≡ false → Good k (broadcast k s b payload)
unfolding broadcast
broadcast_keeps k s g b payload made short h =
    let u = evict s b in
    let f = evict-free k s g b made h in
    let still : (c : ℕ) → mem c AIRED ≡ false → u c ≡ s c = (beside_evict s b).cols in
    issue_keeps k u (evict_keeps k s g b made) (data_for k u) f (lowest-at (free (u DATA-FREE)) k.datas f) b payload
    (rw (still BUSES refl) made) (rw (still BUS-SIZE refl) (evict_room k s g b made)) short

-- ---- a value is read
module _ (x n : ℕ) where
  -- who reads it may not read it again
  pub signed_reads : n < MOST-SEATS → bit (signed x n) (MOST-SEATS + n) ≡ 0
  signed_reads l = marked_other (cleared x (MOST-SEATS + n)) n (MOST-SEATS + n) (λ z. omega arith) ∙ cleared-same x (MOST-SEATS + n)

  -- who else may read it is as it was
  pub signed-may : (m : ℕ) → n < MOST-SEATS → (m ≡ n → ⊥) → bit (signed x n) (MOST-SEATS + m) ≡ bit x (MOST-SEATS + m)
  signed-may m l d = marked_other (cleared x (MOST-SEATS + n)) n (MOST-SEATS + m) (λ z. omega arith) ∙ cleared-other x (MOST-SEATS + n) (MOST-SEATS + m) (λ z. d (omega arith))

  -- and so is who else has read it
  pub signed-read : (m : ℕ) → m < MOST-SEATS → (m ≡ n → ⊥) → bit (signed x n) m ≡ bit x m
  signed-read m l d = marked_other (cleared x (MOST-SEATS + n)) n m d ∙ cleared-other x (MOST-SEATS + n) m (λ z. omega arith)

module _ (k : Caps) (s : State) (g : Good k s) (n j : ℕ) (nl : n < MOST-SEATS) (jl : j < head s ISSUED) where
  -- once the one in seat n has read it: sound as before
  pub signed_keeps : Good k (poke s READERS (value_at s j) (signed (at s READERS (value_at s j)) n))
  unfolding poke with_col pair_rule
  signed_keeps =
      let d = value_at s j in
      let x = at s READERS d in
      let dl = value_below k s g j jl in
      patch k g (wrote_poke (wrote_none s) READERS d (signed x n)) (
      Part.values by (λ e l. each_set (λ e. e < k.datas → Holds (value_rule (poke s READERS d (signed x n)) e)) d e
      (λ l. rw (read_back g READERS d (signed x n) tt dl) (
        λ z. absurd (value_there k s g j jl z),
        λ z. (
          ((g.values d dl).1 z).0,
          λ m lm.
              split (eqb m n)
              (λ r. rw (eqb-true m n r, signed_reads x n nl) (λ u. true_false false u refl))
              (λ r. rw (signed-may x n m nl (eqb-false m n r), signed-read x n m lm (eqb-false m n r)) (((g.values d dl).1 z).1 m lm)),
        ),
      ))
      (λ r l. rw (other (s READERS) d (signed x n) e r) (g.values e l)) l) also
      done) refl

  -- THE THEOREM of a value that is read: sound as before, whether it ends or not
  pub read_off_keeps : (b : ℕ) → Good k (read_off s b n j)
  unfolding read_off poke with_col
  read_off_keeps b =
      let d = value_at s j in
      let u = poke s READERS d (signed (at s READERS d) n) in
      split (read_out_of u b d) (λ q. rw q (retire_keeps k u signed_keeps j jl)) (λ q. rw q signed_keeps)
