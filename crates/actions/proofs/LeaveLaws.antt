-- One pass over the data entries ends all subscriptions of a slot as the rule does, which passes them again for each bus. Slot x is written one up.
use Prim.Native.Nat.{ℕ, zero, suc, ◌+◌, ◌<◌}
use mathlib.Core.Path.{◌≡◌, refl, sym, ap, ◌∙◌, fun_ext}
use mathlib.Core.Bool.{true, false, cond, ◌&&◌, ◌||◌, and-false}
use mathlib.Core.List.{List, [], ◌∷◌}
use native.Mathlib.Decide.{dec_lt}
use native.Mathlib.Numerals.{add-one}
use native.Mathlib.Omega.{arith}
use lib.Dec.{eqb, ltb}
use lib.ListN.{length, get_or, set, replicate, get_or-eq_default, get_or-replicate, length-replicate, length-set}
use lib.Seq.{ext_get_or, get_or-set_other, get_or-set_same}
use borrow.Author.Tests.{eqb-true, eqb-false, eq-eqb, le-ltb, lt-ltb, ltb-true, ltb-false, ne_eqb}
use Rattle.pools.specs.Bits.{cleared}
use Rattle.pools.specs.Pool.{lowest}
use Rattle.pools.proofs.BoolLaws.{neither, split}
use Rattle.pools.proofs.PoolLaws.{lowest-le}
use Rattle.tables.specs.declared.Caps.{Caps}
use Rattle.tables.specs.Columns.{READERS, SEAT, VALUE-BUS}
use Rattle.tables.specs.Limits.{MOST-BUSES, MOST-SEATS}
use Rattle.tables.specs.State.{State, at, poke, with_col}
use Rattle.rules.specs.Buses.{in_seat, leave_buses, seat_at, seat_of, sits, stand_up}
use Rattle.rules.proofs.Frames.Buses.{wrote_leave_buses}
use Rattle.rules.proofs.Frames.Wrote.{Wrote, wrote_cond, wrote_none, wrote_over, wrote_poke, wrote_still}
use Rattle.rules.proofs.Kept.Seats.{forget-at, stand_up-seats}
use Rattle.rules.proofs.Lists.Columns.{other}
use Rattle.rules.proofs.Lists.Ties.{step}
use Rattle.actions.specs.Leaving.{GivenUp, forget_by, gave_up, give_up, give_up_on, given_up, noted, strike_by}

-- ---- what is written
-- seats
wrote_give_up : (x n : ℕ) (s : State) → Wrote (SEAT ∷ []) s (give_up x n s)
unfolding give_up
wrote_give_up x zero s = wrote_still (SEAT ∷ []) s
wrote_give_up x (suc b) s =
    let u = give_up x b s in
    wrote_over (SEAT ∷ []) (wrote_give_up x b s)
    (wrote_cond (sits u b x) (wrote_poke (wrote_none u) SEAT (seat_at b (seat_of u b x)) 0) (wrote_still (SEAT ∷ []) u)) refl

-- who reads
wrote_forget_by : (seats : List ℕ) (d : ℕ) (s : State) → Wrote (READERS ∷ []) s (forget_by seats d s)
unfolding forget_by
wrote_forget_by seats zero s = wrote_still (READERS ∷ []) s
wrote_forget_by seats (suc d) s =
    let u = forget_by seats d s in
    wrote_over (READERS ∷ []) (wrote_forget_by seats d s)
    (wrote_cond (ltb (given_up seats (at u VALUE-BUS d)) MOST-SEATS) (wrote_poke (wrote_none u) READERS d _) (wrote_still (READERS ∷ []) u)) refl

-- ---- a turn of a loop
-- one more bus
pub give_up-next : (x b : ℕ) (s : State) → give_up x (b + 1) s ≡ give_up_on x b (give_up x b s)
unfolding give_up
give_up-next x b s = rw (add-one b)

pub gave_up-next : (x b : ℕ) (s : State) → gave_up x (b + 1) s ≡ gave_up x b s || sits (give_up x b s) b x
unfolding gave_up
gave_up-next x b s = rw (add-one b)

-- one more data entry
pub forget_by-next : (seats : List ℕ) (d : ℕ) (s : State) → forget_by seats (d + 1) s ≡ strike_by seats d (forget_by seats d s)
unfolding forget_by
forget_by-next seats d s = rw (add-one d)

-- ---- the row
-- where no bus was passed it has no seat
pub row_begins : (s : State) (x : ℕ) → GivenUp s x 0 (replicate MOST-BUSES MOST-SEATS)
row_begins s x = record {
  long = length-replicate {A = ℕ} MOST-BUSES MOST-SEATS;
  seat = λ b. rw (le-ltb b 0 (omega arith)) (elim (dec_lt b MOST-BUSES) [
    | yes h ↦ get_or-replicate {A = ℕ} MOST-BUSES b MOST-SEATS MOST-SEATS h
    | no h ↦ get_or-eq_default (replicate MOST-BUSES MOST-SEATS) MOST-SEATS {n = b} (omega (arith, length-replicate {A = ℕ} MOST-BUSES MOST-SEATS))
  ]);
}

-- a bus on which slot x has no seat
no-seat : (u : State) (x b : ℕ) → sits u b x ≡ false → seat_of u b x ≡ MOST-SEATS
no-seat u x b q = omega (arith, lowest-le (λ n. eqb (in_seat u b n) x) MOST-SEATS, ltb-false (seat_of u b x) MOST-SEATS q)

-- one bus more
pub row-more : (s : State) (x b : ℕ) (seats : List ℕ) → GivenUp s x b seats → let u = give_up x b s in
    (sits u b x ≡ true → b < MOST-BUSES) → GivenUp s x (b + 1) (noted x b u seats)
row-more s x b seats g h =
    let u = give_up x b s in
    let j = seat_of u b x in
    let new : ltb b (suc b) ≡ true = lt-ltb b (suc b) (omega arith) in
    let old : get_or seats b MOST-SEATS ≡ MOST-SEATS = rw (le-ltb b b (omega arith)) at (g.seat b) in
    rw (add-one b) (split (sits u b x)
    (λ q. rw q (record {
      long = length-set seats b j ∙ g.long;
      seat = λ c. split (eqb c b)
          (λ r. rw (eqb-true c b r, new) (get_or-set_same seats b j MOST-SEATS (omega (arith, h q, g.long))))
          (λ r. rw (step b c r) (get_or-set_other seats b c j MOST-SEATS (eqb-false c b r) ∙ g.seat c));
    }))
    (λ q. rw q (record {
      long = g.long;
      seat = λ c. split (eqb c b)
          (λ r. rw (eqb-true c b r, new) (old ∙ sym (no-seat u x b q)))
          (λ r. rw (step b c r) (g.seat c));
    })))

-- ---- who had no seat
module _ (x : ℕ) (s : State) where
  -- it sits on none of the buses
  gave-none : (n : ℕ) → gave_up x n s ≡ false → (b : ℕ) → b < n → sits (give_up x b s) b x ≡ false
  unfolding gave_up
  gave-none zero e b l = absurd (omega arith)
  gave-none (suc c) e b l =
      let z = neither (gave_up x c s) (sits (give_up x c s) c x) e in
      split (eqb b c) (λ q. rw (eqb-true b c q) z.1) (λ q. gave-none c z.0 b (omega (arith, l, eqb-false b c q)))

  module _ (n : ℕ) (seats : List ℕ) (g : GivenUp s x n seats) (e : gave_up x n s ≡ false) where
    -- so the row has no seat
    row_none : (bus : ℕ) → given_up seats bus ≡ MOST-SEATS
    row_none zero = refl
    row_none (suc b) = split (ltb b n) (λ q. g.seat b ∙ rw q (no-seat (give_up x b s) x b (gave-none n e b (ltb-true b n q)))) (λ q. g.seat b ∙ rw q)

    -- and by it nothing is forgotten
    pub forget_none : (d : ℕ) (u : State) → forget_by seats d u ≡ u
    unfolding forget_by
    forget_none zero u = refl
    forget_none (suc d) u = rw (forget_none d u, row_none (at u VALUE-BUS d)) refl

-- ---- who reads then
-- a data entry that there is
forget_by-at : (seats : List ℕ) (d : ℕ) (s : State) (e : ℕ) → e < length (s READERS) → let n = given_up seats (at s VALUE-BUS e) in
    at (forget_by seats d s) READERS e ≡ cond (ltb e d && ltb n MOST-SEATS) (cleared (at s READERS e) (MOST-SEATS + n)) (at s READERS e)
unfolding forget_by poke with_col
forget_by-at seats zero s e h = rw (le-ltb e 0 (omega arith))
forget_by-at seats (suc d) s e h =
    let u = forget_by seats d s in
    let w = wrote_forget_by seats d s in
    let n = given_up seats (at s VALUE-BUS d) in
    let c = cleared (at u READERS d) (MOST-SEATS + n) in
    let v = w.cols VALUE-BUS refl in
    let ih = forget_by-at seats d s e h in
    split (eqb e d)
    (λ r. let z = eqb-true e d r in
    let same : at u READERS d ≡ at s READERS d = rw (z, le-ltb d d (omega arith)) at ih in
    let last : ltb d (suc d) ≡ true = lt-ltb d (suc d) (omega arith) in
    split (ltb n MOST-SEATS)
    (λ q. rw (z, v, q, last)
    (get_or-set_same (u READERS) d c 0 (omega (arith, z, h, w.long READERS)) ∙ ap (λ (y : ℕ). cleared y (MOST-SEATS + n)) same))
    (λ q. rw (z, v, q, last) same))
    (λ r. split (ltb n MOST-SEATS)
    (λ q. rw (v, q, other (u READERS) d c e r, step d e r) ih)
    (λ q. rw (v, q, step d e r) ih))

-- ---- the rule, bus by bus
-- the seat of one is told by the seats alone
seat-same : (u v : State) (b x : ℕ) → u SEAT ≡ v SEAT → seat_of u b x ≡ seat_of v b x
seat-same u v b x e = ap (λ (l : List ℕ). lowest (λ n. eqb (get_or l (seat_at b n) 0) x) MOST-SEATS) e

module _ (k : Caps) (a : ℕ) (s : State) where
  -- the seats are those of the rule, whatever it forgot
  seats-same : (n : ℕ) → leave_buses k a n s SEAT ≡ give_up (suc a) n s SEAT
  unfolding leave_buses give_up poke with_col
  seats-same zero = refl
  seats-same (suc b) =
      let u = leave_buses k a b s in
      let v = give_up (suc a) b s in
      let e = seats-same b in
      let j = seat_of v b (suc a) in
      split (sits v b (suc a))
      (λ q. rw (seat-same u v b (suc a) e, q) (stand_up-seats k u b j ∙ ap (λ (l : List ℕ). set l (seat_at b j) 0) e))
      (λ q. rw (seat-same u v b (suc a) e, q) e)

  -- the seat that it had on the bus whose number, one up, a data entry has, if that is one of the first n
  abbrev had : ℕ → ℕ → ℕ
  had n zero = MOST-SEATS
  had n (suc b) = cond (ltb b n) (seat_of (give_up (suc a) b s) b (suc a)) MOST-SEATS

  had_none : (bus : ℕ) → had 0 bus ≡ MOST-SEATS
  had_none zero = refl
  had_none (suc b) = rw (le-ltb b 0 (omega arith))

  had-other : (b bus : ℕ) → eqb bus (suc b) ≡ false → had (suc b) bus ≡ had b bus
  had-other b zero q = refl
  had-other b (suc c) q = rw (step b c (ne_eqb c b (λ e. eqb-false (suc c) (suc b) q (ap suc e))))

  -- by the rule a data entry may be read no more from the seat that it had on that bus
  readers-had : (n e : ℕ) → let m = had n (at s VALUE-BUS e) in
      at (leave_buses k a n s) READERS e ≡ cond (ltb e k.datas && ltb m MOST-SEATS) (cleared (at s READERS e) (MOST-SEATS + m)) (at s READERS e)
  unfolding leave_buses stand_up poke with_col
  readers-had zero e = rw (had_none (at s VALUE-BUS e), and-false (ltb e k.datas))
  readers-had (suc b) e =
      let u = leave_buses k a b s in
      let on = at s VALUE-BUS e in
      let j = seat_of (give_up (suc a) b s) b (suc a) in
      let ih = readers-had b e in
      let here = seat-same u (give_up (suc a) b s) b (suc a) (seats-same b) in
      let bus : at u VALUE-BUS e ≡ on = ap (λ (l : List ℕ). get_or l e 0) ((wrote_leave_buses k a b s).cols VALUE-BUS refl) in
      let new : ltb b (suc b) ≡ true = lt-ltb b (suc b) (omega arith) in
      let old : on ≡ suc b → at u READERS e ≡ at s READERS e = λ z. rw (z, le-ltb b b (omega arith), and-false (ltb e k.datas)) at ih in
      split (ltb j MOST-SEATS)
      (λ q. rw (here, q) (forget-at b j k.datas u e ∙ split (eqb on (suc b))
      (λ r. let z = eqb-true on (suc b) r in rw (bus, old z, z, new, q, eq-eqb (suc b) (suc b) refl))
      (λ r. rw (bus, r, and-false (ltb e k.datas), had-other b on r) ih)))
      (λ q. rw (here, q) (split (eqb on (suc b))
      (λ r. let z = eqb-true on (suc b) r in rw (old z, z, new, q, and-false (ltb e k.datas)))
      (λ r. rw (had-other b on r) ih)))

  -- THE LAW: the seats given up, and then one pass, leave what the rule leaves
  module _ (n : ℕ) (seats : List ℕ) (g : GivenUp s (suc a) n seats) where
    given-had : (bus : ℕ) → given_up seats bus ≡ had n bus
    given-had zero = refl
    given-had (suc b) = g.seat b

    readers-same : (e : ℕ) → e < length (s READERS) → at (forget_by seats k.datas (give_up (suc a) n s)) READERS e ≡ at (leave_buses k a n s) READERS e
    readers-same e h =
        let v = give_up (suc a) n s in
        let w = wrote_give_up (suc a) n s in
        forget_by-at seats k.datas v e (omega (arith, h, w.long READERS))
        ∙ rw (w.cols VALUE-BUS refl, w.cols READERS refl, given-had (at s VALUE-BUS e)) (sym (readers-had n e))

    pub left_all : forget_by seats k.datas (give_up (suc a) n s) ≡ leave_buses k a n s
    left_all =
        let v = give_up (suc a) n s in
        let t = forget_by seats k.datas v in
        let u = leave_buses k a n s in
        let w = wrote_leave_buses k a n s in
        let y = wrote_give_up (suc a) n s in
        let z = wrote_forget_by seats k.datas v in
        let long : length (t READERS) ≡ length (s READERS) = z.long READERS ∙ y.long READERS in
        fun_ext (λ c. split (eqb c READERS)
        (λ q. rw (eqb-true c READERS q)
        (ext_get_or 0 (t READERS) (u READERS) (long ∙ sym (w.long READERS)) (λ e l. readers-same e (omega (arith, l, long)))))
        (λ q. split (eqb c SEAT)
        (λ r. rw (eqb-true c SEAT r) (z.cols SEAT refl ∙ sym (seats-same n)))
        (λ r. z.cols c (rw q) ∙ y.cols c (rw r) ∙ sym (w.cols c (rw (r, q))))))
