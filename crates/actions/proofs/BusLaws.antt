-- What the loops and branches of the actions on buses turn on.
use Prim.Native.Nat.{ℕ, suc, ◌+◌, ◌-◌, ◌≤◌, ◌<◌}
use mathlib.Core.Path.{◌≡◌, refl, sym, ap, ◌∙◌}
use mathlib.Core.Bool.{true, false, cond}
use mathlib.Core.List.{List}
use native.Mathlib.Numerals.{add-one}
use native.Mathlib.Omega.{arith}
use lib.Dec.{eqb, ltb}
use lib.ListN.{length, get_or-eq_default}
use borrow.Author.Tests.{eqb-true, ltb-true, ltb-false}
use Rattle.pools.specs.Bits.{cleared, marked}
use Rattle.pools.proofs.BoolLaws.{split}
use Rattle.pools.proofs.PoolLaws.{lowest-at}
use Rattle.pools.specs.Pool.{lowest}
use Rattle.tables.specs.declared.Caps.{Caps}
use Rattle.tables.specs.Columns.{ISSUE, ISSUED, PUBLISHED, READERS, SEAT, VALUE-BUS}
use Rattle.tables.specs.Limits.{CLOCK-END, MOST-BUSES, MOST-SEATS}
use Rattle.tables.specs.State.{State, at, head, poke, view, with_col, Room}
use Rattle.tables.specs.Action.{free_bit, pull, write}
use Rattle.tables.proofs.ActionLaws.{pull-count}
use Rattle.tables.proofs.ViewLaws.{view-full}
use Rattle.rules.specs.Actions.{unfill}
use Rattle.rules.specs.Buses.{aired, airing, audience, bus_full, evict, forget, in_seat, is_stale, is_unread, leave_buses, oldest_on, oldest_unread, retire, seat_at, seat_of, sits, stand_up, value_at}
use Rattle.rules.proofs.Kept.Values.{audience-marks}
use Rattle.rules.proofs.Lists.Columns.{set_so}
use Rattle.actions.specs.Ageing.{Dated}

-- ---- seats
module _ {k : Caps} {w p : List ℕ} (r : Room k w p) where
  -- nobody sits past the last bus
  pub seat_past : (b n : ℕ) → MOST-BUSES ≤ b → in_seat (view k w p) b n ≡ 0
  seat_past b n h = get_or-eq_default (view k w p SEAT) 0 {n = seat_at b n} (omega (arith, view-full k w p r.words SEAT (omega arith)))

  -- so one who sits somewhere sits on a bus
  pub sits-bus : (b a : ℕ) → 0 < a → seat_of (view k w p) b a < MOST-SEATS → b < MOST-BUSES
  sits-bus b a o h =
      let n = seat_of (view k w p) b a in
      let e = eqb-true (in_seat (view k w p) b n) a (lowest-at (λ n. eqb (in_seat (view k w p) b n) a) MOST-SEATS h) in
      split (ltb b MOST-BUSES) (λ q. ltb-true b MOST-BUSES q) (λ q. absurd (omega (arith, e, seat_past b n (ltb-false b MOST-BUSES q))))

-- ---- what a slot has not read
module _ (s : State) (b a : ℕ) {seat : ℕ} (e : seat ≡ seat_of s b a) where
  -- it is subscribed
  pub unread-seated : {x : ℕ} → ltb seat MOST-SEATS ≡ true → x ≡ lowest (is_unread s b seat) (head s ISSUED) → x ≡ oldest_unread s b a
  unread-seated l h = rw (rw e at l) (rw e at h)

  -- it is not
  pub unread_none : {x : ℕ} → ltb seat MOST-SEATS ≡ false → x ≡ head s ISSUED → x ≡ oldest_unread s b a
  unread_none l h = rw (rw e at l) h

-- ---- a turn of a loop
module _ (s : State) (b : ℕ) where
  -- one more seat
  pub audience-next : (n : ℕ) → audience s b (n + 1) ≡ cond (eqb (in_seat s b n) 0) (audience s b n) (marked (audience s b n) (MOST-SEATS + n))
  audience-next n = rw (add-one n) (audience-marks s b n)

  -- one more data entry
  pub forget-next : (n d : ℕ) → let u = forget b n d s in
      forget b n (d + 1) s ≡ cond (eqb (at u VALUE-BUS d) (suc b)) (poke u READERS d (cleared (at u READERS d) (MOST-SEATS + n))) u
  unfolding forget
  forget-next n d = rw (add-one d)

  -- one more bus
  pub leave_next : (k : Caps) (a : ℕ) → let u = leave_buses k a b s in
      leave_buses k a (b + 1) s ≡ cond (sits u b (suc a)) (stand_up k u b (seat_of u b (suc a))) u
  unfolding leave_buses
  leave_next k a = rw (add-one b)

-- ---- a value that ends
module _ (s : State) (j : ℕ) where
  -- the row is one shorter
  pub retire-issued : length (s ISSUED) ≡ 1 → head (retire s j) ISSUED ≡ head s ISSUED - 1
  unfolding retire unfill write free_bit poke with_col
  retire-issued e = pull-count _ ISSUE ISSUED refl j e

  -- no other times are there
  pub retire_dated : {k : Caps} → length (s ISSUED) ≡ 1 → Dated k s → Dated k (retire s j)
  unfolding retire pull unfill write free_bit poke with_col
  retire_dated e z = record {
    issued = omega (arith, retire-issued e, z.issued);
    ages = z.ages;
    published = λ d. set_so (λ v. v ≤ CLOCK-END) (s PUBLISHED) (value_at s j) 0 d (omega arith) (z.published d);
  }

-- the row is no longer once a full bus has lost its oldest
pub evict-issued : (s : State) (b : ℕ) → length (s ISSUED) ≡ 1 → head (evict s b) ISSUED ≤ head s ISSUED
unfolding evict
evict-issued s b e =
    split (bus_full s b) (λ q. rw q (omega (arith, retire-issued s (oldest_on s b) e))) (λ q. rw q (omega arith))

-- of the row that s has, those before the n-th are still to be looked at; u is what is left so far
pub record Airs (k : Caps) (s u : State) (n : ℕ) : Type 0 where
  pub dated : Dated k u
  pub within : n ≤ head u ISSUED
  pub rest : airing n u ≡ aired s

-- before the first turn
pub airs_start : {k : Caps} {s : State} {n : ℕ} → Dated k s → n ≡ head s ISSUED → Airs k s s n
airs_start z e = record { dated = z; within = omega arith; rest = rw e }

-- one value less to look at
airing-next : (s : State) (i : ℕ) → airing (suc i) s ≡ airing i (cond (is_stale s i) (retire s i) s)
unfolding airing
airing-next s i = refl

module _ {k : Caps} {s u : State} {n : ℕ} (z : Airs k s u n) where
  -- a turn
  pub airs_turn : 0 < n → length (u ISSUED) ≡ 1 → Airs k s (cond (is_stale u (n - 1)) (retire u (n - 1)) u) (n - 1)
  airs_turn l e =
      let m : n ≡ suc (n - 1) = omega arith in
      let r = sym (ap (λ (i : ℕ). airing i u) m ∙ airing-next u (n - 1)) ∙ z.rest in
      split (is_stale u (n - 1))
      (λ q. rw q (record { dated = retire_dated u (n - 1) e z.dated; within = omega (arith, retire-issued u (n - 1) e, z.within); rest = rw q at r }))
      (λ q. rw q (record { dated = z.dated; within = omega (arith, z.within); rest = rw q at r }))

  -- after the last
  pub airs_end : n ≤ 0 → u ≡ aired s
  unfolding airing
  airs_end l = let m : n ≡ 0 = omega arith in rw m at z.rest
