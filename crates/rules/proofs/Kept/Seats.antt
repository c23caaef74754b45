-- What is done to buses and their seats keeps a sound state sound.
use Prim.Native.Nat.{ℕ, zero, suc, ◌+◌, ◌-◌, ◌/◌, ◌%◌, ◌≤◌, ◌<◌}
use native.Mathlib.Decide.{dec_lt}
use native.Mathlib.Omega.{arith}
use mathlib.Core.Path.{◌≡◌, refl, sym, ap, ◌∙◌, fun_ext}
use mathlib.Core.Bool.{true, false, cond, not, ◌&&◌, ◌||◌}
use mathlib.Core.List.{List, [], ◌∷◌}
use lib.ListN.{length, get_or, set, get_or-eq_default}
use lib.Seq.{get_or-set_same, set_out}
use lib.Dec.{eqb, ltb, lit<}
use borrow.Author.Tests.{eqb-true, eqb-false, eq-eqb, le-ltb, lt-ltb, ltb-true, ltb-false, ne_eqb, not-false}
use Rattle.pools.specs.Pool.{occurs}
use Rattle.pools.specs.Bits.{cleared}
use Rattle.pools.proofs.BoolLaws.{neither, split, true_false}
use Rattle.pools.proofs.BitLaws.{cleared-other, cleared-same}
use Rattle.pools.proofs.PoolLaws.{lowest-at, lowest-first}
use Rattle.tables.specs.declared.Caps.{Caps}
use Rattle.tables.specs.Columns.{BUS-AGE, BUS-READS, BUS-SEATS, BUS-SIZE, BUSES, READERS, SEAT, STATE, VALUE-BUS}
use Rattle.tables.specs.Limits.{LONGEST-AGE, MOST-BUSES, MOST-READS, MOST-SEATS, MOST-VALUES}
use Rattle.tables.specs.State.{State, at, head, poke, with_col}
use Rattle.tables.proofs.ActionLaws.{poke-same}
use Rattle.rules.specs.Rule.{Holds}
use Rattle.rules.specs.Terms.{alive}
use Rattle.rules.specs.Sound.{bus_rule, mask_rule, no_bus_rule, pair_rule, row_rule}
use Rattle.rules.specs.Buses.{bad_bus, forget, in_seat, is_bus, leave_buses, make_bus, seat_at, seat_for, seat_of, sit_down, sits, stand_up}
use Rattle.rules.specs.Good.{Good}
use Rattle.rules.proofs.Frames.Buses.{QUIT, wrote_forget, wrote_leave_buses, wrote_make_bus, wrote_sit_down, wrote_stand_up}
use Rattle.rules.proofs.Frames.Wrote.{Wrote}
use Rattle.rules.proofs.Lists.Columns.{each_set, other, set_so, set-zero}
use Rattle.rules.proofs.Lists.Ties.{step, used_inside}
use Rattle.rules.proofs.Kept.Clauses.{buses-fit, read_back, seat_below, seat_lives, seat_once, seats-fit}
use Rattle.rules.proofs.Kept.Groups as Part
use Rattle.rules.proofs.Kept.Patch.{◌by◌also◌, done, patch}

-- ---- a seat is forgotten
-- 0 has no bit to clear
cleared_none : (n : ℕ) → cleared 0 n ≡ 0
cleared_none n = omega arith

-- a word of which a bit is cleared is read back, also past the end
set-cleared : (l : List ℕ) (d n : ℕ) → get_or (set l d (cleared (get_or l d 0) n)) d 0 ≡ cleared (get_or l d 0) n
set-cleared l d n =
    elim (dec_lt d (length l)) [
      | yes h ↦ get_or-set_same l d _ 0 h
      | no h ↦ let z : get_or l d 0 ≡ 0 = get_or-eq_default l 0 (omega arith) in rw (set_out l d (cleared (get_or l d 0) n) (omega arith), z) (sym (cleared_none n))
    ]

-- THE LAW: of the first data entries, those with a value of bus b have the bit of seat n cleared, and no other word changed
pub forget-at : (b n d : ℕ) (s : State) (e : ℕ) →
    at (forget b n d s) READERS e ≡ cond (ltb e d && eqb (at s VALUE-BUS e) (suc b)) (cleared (at s READERS e) (MOST-SEATS + n)) (at s READERS e)
unfolding forget
forget-at b n zero s e = rw (le-ltb e 0 (omega arith))
forget-at b n (suc d) s e =
    let u = forget b n d s in
    let ih = forget-at b n d s e in
    let v = (wrote_forget b n d s).cols VALUE-BUS refl in
    let same : at u READERS d ≡ at s READERS d = rw (le-ltb d d (omega arith)) at (forget-at b n d s d) in
    let last : ltb d (suc d) ≡ true = lt-ltb d (suc d) (omega arith) in
    split (eqb (at s VALUE-BUS d) (suc b))
    (λ q. rw (v, q, poke-same u READERS d (cleared (at u READERS d) (MOST-SEATS + n)))
    (split (eqb e d)
    (λ r. rw (eqb-true e d r, last, q) (set-cleared (u READERS) d (MOST-SEATS + n) ∙ ap (λ (x : ℕ). cleared x (MOST-SEATS + n)) same))
    (λ r. rw (other (u READERS) d (cleared (at u READERS d) (MOST-SEATS + n)) e r, step d e r) ih)))
    (λ q. rw (v, q) (split (eqb e d) (λ r. rw (eqb-true e d r, last, q) same) (λ r. rw (step d e r) ih)))

-- ---- seats
-- two seats are two words
seats_differ : (b n c m : ℕ) → n < MOST-SEATS → m < MOST-SEATS → (c ≡ b → m ≡ n → ⊥) → eqb (seat_at c m) (seat_at b n) ≡ false
seats_differ b n c m h l d = ne_eqb (seat_at c m) (seat_at b n) (λ e. d (omega arith) (omega arith))

-- what an action leaves that writes one column
one-column : (c : ℕ) (s t : State) → Wrote (c ∷ []) s t → t ≡ with_col s c (t c)
unfolding with_col
one-column c s t w = fun_ext (λ e. split (eqb e c) (λ q. rw (q, eqb-true e c q)) (λ q. rw q (w.cols e (rw q))))

-- the state with seat n of bus b given up, where r says who reads
abbrev stood_up : State → ℕ → ℕ → List ℕ → State
stood_up s b n r = poke (with_col s READERS r) SEAT (seat_at b n) 0

-- which is what one leaves who stands up
stand_up_is : (k : Caps) (s : State) (b n : ℕ) → stand_up k s b n ≡ stood_up s b n (forget b n k.datas s READERS)
unfolding stand_up
stand_up_is k s b n = ap (λ (u : State). poke u SEAT (seat_at b n) 0) (one-column READERS s (forget b n k.datas s) (wrote_forget b n k.datas s))

module _ (k : Caps) (s : State) (g : Good k s) (b n : ℕ) (bl : b < MOST-BUSES) (nl : n < MOST-SEATS) where
  -- the rows are sound
  stood-rows : (r : List ℕ) (c : ℕ) → c < MOST-BUSES → Holds (row_rule (stood_up s b n r) c)
  unfolding poke with_col
  stood-rows r c l m lm h =
      let q : eqb (seat_at c m) (seat_at b n) ≡ false = ne_eqb _ _ (λ e. h (ap (λ (i : ℕ). get_or (set (s SEAT) (seat_at b n) 0) i 0) e ∙ set-zero (s SEAT) (seat_at b n))) in
      let e = other (s SEAT) (seat_at b n) 0 (seat_at c m) q in
      let there : in_seat s c m ≡ 0 → ⊥ = rw e at h in
      rw e (
        seat_below g c m l lm there,
        (
          seat_lives g c m l lm there,
          λ i li. set_so (λ x. x ≡ in_seat s c m → ⊥) (s SEAT) (seat_at b n) 0 (seat_at c i) (λ z. there (sym z)) ((g.rows c l m lm there).1.1 i li),
        ),
      )

  -- who may still read a value sits on its bus, and has not read it
  stood_mask : (r : List ℕ) (e : ℕ) → e < k.datas → (at s VALUE-BUS e ≡ 0 → ⊥) →
      get_or r e 0 ≡ cond (eqb (at s VALUE-BUS e) (suc b)) (cleared (at s READERS e) (MOST-SEATS + n)) (at s READERS e) →
      (m : ℕ) → m < MOST-SEATS → Holds (mask_rule (stood_up s b n r) e m)
  unfolding poke with_col
  stood_mask r e l v f m lm =
      let old = ((g.values e l).1 v).1 m lm in
      split (eqb (at s VALUE-BUS e) (suc b))
      (λ q. rw (f, q) (split (eqb m n)
      (λ z. rw (eqb-true m n z, cleared-same (at s READERS e) (MOST-SEATS + n)) (λ u. true_false false u refl))
      (λ z. let d = eqb-false m n z in
      rw (
        cleared-other (at s READERS e) (MOST-SEATS + n) (MOST-SEATS + m) (λ x. d (omega arith)),
        cleared-other (at s READERS e) (MOST-SEATS + n) m (λ x. omega arith),
        other (s SEAT) (seat_at b n) 0 (seat_at (at s VALUE-BUS e - 1) m) (seats_differ b n (at s VALUE-BUS e - 1) m nl lm (λ x y. d y)),
      ) old)))
      (λ q. let d = eqb-false (at s VALUE-BUS e) (suc b) q in
      rw (f, q, other (s SEAT) (seat_at b n) 0 (seat_at (at s VALUE-BUS e - 1) m) (seats_differ b n (at s VALUE-BUS e - 1) m nl lm (λ x y. d (omega arith)))) old)

  -- THE THEOREM of one who stands up: sound as before
  pub stand_up_keeps : Good k (stand_up k s b n)
  unfolding poke with_col pair_rule
  stand_up_keeps =
      let r = forget b n k.datas s READERS in
      let w : Wrote QUIT s (stood_up s b n r) = rw (stand_up_is k s b n) at (wrote_stand_up k s b n) in
      rw (stand_up_is k s b n) (patch k g w (
      Part.rows by (stood-rows r) also
      Part.values by (λ e l.
      let f = rw (lt-ltb e k.datas l) at (forget-at b n k.datas s e) in
      let v = g.values e l in
      (λ z. (rw (f, z, ne_eqb 0 (suc b) (λ x. omega arith)) (v.0 z).0, (v.0 z).1), λ z. ((v.1 z).0, stood_mask r e l z f))) also
      done) refl)

-- the seats once one stood up
pub stand_up-seats : (k : Caps) (s : State) (b n : ℕ) → stand_up k s b n SEAT ≡ set (s SEAT) (seat_at b n) 0
unfolding poke with_col
stand_up-seats k s b n = rw (stand_up_is k s b n)

-- ---- who sits on a bus, by its slot written one up
module _ (s : State) (b a : ℕ) (there : sits s b a ≡ true) where
  -- its seat is one of the seats
  pub sits_seat : seat_of s b a < MOST-SEATS
  sits_seat = ltb-true (seat_of s b a) MOST-SEATS there

  -- it sits there
  pub sits-there : in_seat s b (seat_of s b a) ≡ a
  sits-there = eqb-true (in_seat s b (seat_of s b a)) a (lowest-at (λ n. eqb (in_seat s b n) a) MOST-SEATS sits_seat)

  -- the bus is one of the buses
  pub sits-bus : (k : Caps) → Good k s → (a ≡ 0 → ⊥) → b < MOST-BUSES
  sits-bus k g n = omega (arith, used_inside (s SEAT) (seat_at b (seat_of s b a)) (λ z. n (omega (arith, sits-there))), g.sized.words SEAT (lit< tt))

-- who does not sit on it sits in none of its seats
pub sits-not : (s : State) (b a : ℕ) → sits s b a ≡ false → (m : ℕ) → m < MOST-SEATS → in_seat s b m ≡ a → ⊥
sits-not s b a q m l e =
    true_false (eqb (in_seat s b m) a) (eq-eqb (in_seat s b m) a e) (lowest-first (λ n. eqb (in_seat s b n) a) MOST-SEATS m (omega (arith, ltb-false (seat_of s b a) MOST-SEATS q)))

-- ---- what a test that does not refuse says
-- the bus is made
pub bus-there : (s : State) (b : ℕ) → not (is_bus s b) ≡ false → b < head s BUSES
bus-there s b q = ltb-true b (head s BUSES) (not-false (is_bus s b) q)

-- the seat for one who subscribes is one of the bus's, and empty
pub seat_there : (s : State) (b : ℕ) → not (ltb (seat_for s b) (at s BUS-SEATS b)) ≡ false → (seat_for s b < at s BUS-SEATS b) × (in_seat s b (seat_for s b) ≡ 0)
seat_there s b q =
    let n = seat_for s b in
    let l = ltb-true n (at s BUS-SEATS b) (not-false (ltb n (at s BUS-SEATS b)) q) in
    (l, eqb-true (in_seat s b n) 0 (lowest-at (λ n. eqb (in_seat s b n) 0) (at s BUS-SEATS b) l))

-- ---- a seat in use, among the seats of all buses: its bus is made
pub seat_made : (k : Caps) (s : State) → Good k s → (i : ℕ) → (at s SEAT i ≡ 0 → ⊥) → i / MOST-SEATS < head s BUSES
seat_made k s g i u =
    let b = i / MOST-SEATS in
    let n = i % MOST-SEATS in
    let l : b < MOST-BUSES = omega (arith, used_inside (s SEAT) i u, g.sized.words SEAT (lit< tt)) in
    let i-is : i ≡ seat_at b n = omega arith in
    split (ltb b (head s BUSES)) (λ q. ltb-true _ _ q)
    (λ q. absurd (omega (arith, seat_below g b n l (omega arith) (λ z. u (ap (at s SEAT) i-is ∙ z)), ((g.buses b l).1 (ltb-false _ _ q)).0.1)))

-- ---- who leaves every bus
module _ (k : Caps) (a : ℕ) where
  -- the first buses: sound as before
  leave_keeps : (m : ℕ) (s : State) → Good k s → m ≤ MOST-BUSES → Good k (leave_buses k a m s)
  unfolding leave_buses
  leave_keeps zero s g h = g
  leave_keeps (suc b) s g h =
      let u = leave_buses k a b s in
      let v = leave_keeps b s g (omega arith) in
      split (sits u b (suc a))
      (λ q. rw q (stand_up_keeps k u v b (seat_of u b (suc a)) (omega arith) (sits_seat u b (suc a) q)))
      (λ q. rw q v)

  -- who left a bus sits where it sat, but not on that bus
  quit_one : (u : State) → Good k u → (b c n : ℕ) → b < MOST-BUSES → n < MOST-SEATS →
      in_seat (cond (sits u b (suc a)) (stand_up k u b (seat_of u b (suc a))) u) c n ≡ suc a → (in_seat u c n ≡ suc a) × (c ≡ b → ⊥)
  quit_one u g b c n l h e =
      let j = seat_of u b (suc a) in
      split (sits u b (suc a))
      (λ q. let there = sits-there u b (suc a) q in
      let gone : get_or (set (u SEAT) (seat_at b j) 0) (seat_at c n) 0 ≡ suc a = rw (q, stand_up-seats k u b j) at e in
      let r : eqb (seat_at c n) (seat_at b j) ≡ false =
      ne_eqb (seat_at c n) (seat_at b j) (λ z. omega (arith, gone, ap (λ (i : ℕ). get_or (set (u SEAT) (seat_at b j) 0) i 0) z, set-zero (u SEAT) (seat_at b j))) in
      let here : in_seat u c n ≡ suc a = sym (other (u SEAT) (seat_at b j) 0 (seat_at c n) r) ∙ gone in
      (here, λ z. let y : n ≡ j = seat_once g b n j l h (sits_seat u b (suc a) q) (λ x. omega arith) ((rw z at here) ∙ sym there) in eqb-false (seat_at c n) (seat_at b j) r (omega arith)))
      (λ q. let here : in_seat u c n ≡ suc a = rw q at e in
      (here, λ z. sits-not u b (suc a) q n h (rw z at here)))

  -- nobody of slot a sits on one of the first buses
  leave_none : (m : ℕ) (s : State) → Good k s → m ≤ MOST-BUSES → (c n : ℕ) → c < m → n < MOST-SEATS → in_seat (leave_buses k a m s) c n ≡ suc a → ⊥
  unfolding leave_buses
  leave_none zero s g h c n l ln e = omega arith
  leave_none (suc b) s g h c n l ln e =
      let u = leave_buses k a b s in
      let r = quit_one u (leave_keeps b s g (omega arith)) b c n (omega arith) ln e in
      leave_none b s g (omega arith) c n (omega (arith, r.1)) ln r.0

  -- THE THEOREM of one who leaves every bus: sound as before
  pub leave_buses_keeps : (s : State) → Good k s → Good k (leave_buses k a (head s BUSES) s)
  leave_buses_keeps s g = leave_keeps (head s BUSES) s g (buses-fit g)

  -- and it sits nowhere
  pub leave_buses_none : (s : State) → Good k s → (i : ℕ) → at (leave_buses k a (head s BUSES) s) SEAT i ≡ suc a → ⊥
  leave_buses_none s g i e =
      let t = leave_buses k a (head s BUSES) s in
      let v = leave_buses_keeps s g in
      let made : head t BUSES ≡ head s BUSES = ap (λ (l : List ℕ). get_or l 0 0) ((wrote_leave_buses k a (head s BUSES) s).cols BUSES refl) in
      let i-is : i ≡ seat_at (i / MOST-SEATS) (i % MOST-SEATS) = omega arith in
      leave_none (head s BUSES) s g (buses-fit g) (i / MOST-SEATS) (i % MOST-SEATS) (omega (arith, seat_made k t v i (λ z. omega arith))) (omega arith) (ap (at t SEAT) (sym i-is) ∙ e)

-- ---- one sits down
module _ (k : Caps) (s : State) (g : Good k s) (b n a : ℕ) (bl : b < MOST-BUSES) (nl : n < at s BUS-SEATS b) (empty : in_seat s b n ≡ 0)
    (lives : alive (s STATE) (a - 1) ≡ true) (new : (m : ℕ) → m < MOST-SEATS → in_seat s b m ≡ a → ⊥) where
  -- it is one of the seats
  seat_fits : n < MOST-SEATS
  seat_fits = omega (arith, seats-fit g b)

  -- its word is one of the column
  seat_in : seat_at b n < length (s SEAT)
  seat_in = omega (arith, seat_fits, g.sized.words SEAT (lit< tt))

  -- the rows are sound
  sat_rows : (c : ℕ) → c < MOST-BUSES → Holds (row_rule (sit_down s b n a) c)
  unfolding sit_down poke with_col
  sat_rows c l m lm =
      let set_is = get_or-set_same (s SEAT) (seat_at b n) a 0 seat_in in
      let beside : (i : ℕ) → eqb i (seat_at b n) ≡ false → get_or (set (s SEAT) (seat_at b n) a) i 0 ≡ at s SEAT i = other (s SEAT) (seat_at b n) a in
      split (eqb (seat_at c m) (seat_at b n))
      (λ q. let z = eqb-true (seat_at c m) (seat_at b n) q in
      let c-is : c ≡ b = omega (arith, seat_fits) in
      let m-is : m ≡ n = omega (arith, seat_fits) in
      rw (c-is, m-is, set_is) (λ h. (nl, (lives, λ i li. rw (beside (seat_at b i) (ne_eqb (seat_at b i) (seat_at b n) (λ y. omega arith))) (new i (omega (arith, seat_fits)))))))
      (λ q. rw (beside (seat_at c m) q) (λ h. (
        seat_below g c m l lm h,
        (
          seat_lives g c m l lm h,
          λ i li.
              split (eqb (seat_at c i) (seat_at b n))
              (λ r. let z = eqb-true (seat_at c i) (seat_at b n) r in
              let c-is : c ≡ b = omega (arith, seat_fits) in
              rw (z, set_is) (λ y. new m lm (rw c-is at (sym y))))
              (λ r. rw (beside (seat_at c i) r) ((g.rows c l m lm h).1.1 i li)),
        ),
      )))

  -- THE THEOREM of one who sits down: sound as before
  pub sit_down_keeps : Good k (sit_down s b n a)
  unfolding sit_down poke with_col pair_rule
  sit_down_keeps =
      patch k g (wrote_sit_down s b n a) (
      Part.rows by sat_rows also
      Part.values by (λ e l. let v = g.values e l in (
        v.0,
        λ z. (
          (v.1 z).0,
          λ m lm u. let o = (v.1 z).1 m lm u in
              (o.0, set_so (λ x. x ≡ 0 → ⊥) (s SEAT) (seat_at b n) a (seat_at (at s VALUE-BUS e - 1) m) (λ y. new n seat_fits (omega arith)) o.1),
        ),
      )) also
      done) refl

-- ---- a bus is made
-- what is asked of a new bus
bus_fair : (entries subscribers reads age : ℕ) → bad_bus entries subscribers reads age ≡ false →
    (1 ≤ entries) × (entries ≤ MOST-VALUES) × (1 ≤ subscribers) × (subscribers ≤ MOST-SEATS) × (reads ≤ MOST-READS) × (age ≤ LONGEST-AGE)
bus_fair entries subscribers reads age q =
    let few = eqb entries 0 || ltb MOST-VALUES entries in
    let thin = eqb subscribers 0 || ltb MOST-SEATS subscribers in
    let late = ltb MOST-READS reads || ltb LONGEST-AGE age in
    let (x, y) = neither few (thin || late) q in
    let (v, w) = neither thin late y in
    let (a, b) = neither (eqb entries 0) (ltb MOST-VALUES entries) x in
    let (c, d) = neither (eqb subscribers 0) (ltb MOST-SEATS subscribers) v in
    let (e, f) = neither (ltb MOST-READS reads) (ltb LONGEST-AGE age) w in
    let n = eqb-false entries 0 a in
    let m = eqb-false subscribers 0 c in
    (omega arith, ltb-false MOST-VALUES entries b, omega arith, ltb-false MOST-SEATS subscribers d, ltb-false MOST-READS reads e, ltb-false LONGEST-AGE age f)

module _ (k : Caps) (s : State) (g : Good k s) (entries subscribers reads age : ℕ) (fair : bad_bus entries subscribers reads age ≡ false) (room : head s BUSES < MOST-BUSES) where
  -- there is one more
  one_more : get_or (set (s BUSES) 0 (head s BUSES + 1)) 0 0 ≡ head s BUSES + 1
  one_more = read_back g BUSES 0 (head s BUSES + 1) tt (omega arith)

  -- the words of the new bus were 0
  unmade : Holds (no_bus_rule s (head s BUSES))
  unmade = (g.buses (head s BUSES) room).1 (omega arith)

  -- THE THEOREM of a new bus: sound as before
  pub make_bus_keeps : Good k (make_bus s entries subscribers reads age)
  unfolding make_bus poke with_col pair_rule
  make_bus_keeps =
      let b = head s BUSES in
      let f = bus_fair entries subscribers reads age fair in
      patch k g (wrote_make_bus s entries subscribers reads age) (
      Part.head by (rw one_more (g.head.0, (g.head.1.0, (g.head.1.1.0, omega arith)))) also
      Part.buses by (λ c l. each_set (λ c. c < MOST-BUSES → Holds (bus_rule (make_bus s entries subscribers reads age) c)) b c
      (λ l. rw (one_more, read_back g BUS-SIZE b entries tt l, read_back g BUS-SEATS b subscribers tt l, read_back g BUS-READS b reads tt l, read_back g BUS-AGE b age tt l)
      (λ h. (((f.0, f.1), (f.2, f.3)), (f.4, f.5)), λ h. absurd (omega arith)))
      (λ r l. let d = eqb-false c b r in
      rw (one_more, other (s BUS-SIZE) b entries c r, other (s BUS-SEATS) b subscribers c r, other (s BUS-READS) b reads c r, other (s BUS-AGE) b age c r)
      (λ h. (g.buses c l).0 (omega arith), λ h. (g.buses c l).1 (omega arith))) l) also
      Part.rows by (λ c l m lm h.
      let r : eqb c b ≡ false = ne_eqb c b (λ z. omega (arith, seat_below g c m l lm h, unmade.0.1, ap (at s BUS-SEATS) z)) in
      rw (other (s BUS-SEATS) b subscribers c r) (g.rows c l m lm h)) also
      Part.values by (λ e l. let v = g.values e l in rw one_more (v.0, λ z. ((omega (arith, (v.1 z).0.0), (v.1 z).0.1), (v.1 z).1))) also
      Part.crowds by (λ c l. each_set (λ c. c < MOST-BUSES → occurs (suc c) (s VALUE-BUS) ≤ get_or (set (s BUS-SIZE) b entries) c 0) b c
      (λ l. omega (arith, g.crowds b l, unmade.0.0))
      (λ r l. rw (other (s BUS-SIZE) b entries c r) (g.crowds c l)) l) also
      done) refl
