-- Advance: due timers fire, the overdue wake, and what has reached its age ends; soundness is kept and the reckoning says the same.
use Prim.Native.Nat.{ℕ, zero, suc, ◌+◌, ◌-◌, ◌≤◌, ◌<◌}
use native.Mathlib.Omega.{arith}
use mathlib.Core.Path.{◌≡◌, refl, sym, ap, ◌∙◌}
use mathlib.Core.Bool.{true, false, not, ◌&&◌, ◌||◌}
use mathlib.Core.List.{[], ◌∷◌}
use lib.ListN.{length}
use lib.Dec.{eqb, ltb, leb}
use borrow.Author.Tests.{eqb-true, eqb-false, leb-true, ltb-false, not-true}
use Rattle.ledger.specs.Call.Op.{advance}
use Rattle.ledger.specs.Ledger.{Ledger}
use Rattle.ledger.specs.Reckon.{due_now, entered, fires, firing, firings, later, rearmed, sent, soonest, tick}
use Rattle.pools.proofs.BoolLaws.{split, and_left, and_right, neither}
use Rattle.records.specs.Header.{packed}
use Rattle.records.specs.Records.{tick_bytes}
use Rattle.tables.specs.declared.Caps.{Caps}
use Rattle.tables.specs.Columns.{AGE, CLOCK, DATA-FREE, DUE, INTERVAL, MAIL-FREE, STATE, TIMER-OWNER}
use Rattle.tables.specs.Limits.{CLOCK-END, LONGEST}
use Rattle.tables.specs.State.{State, at, head, with_col, poke}
use Rattle.rules.specs.Terms.{actor_id, alive, timer_id}
use Rattle.rules.specs.Actions.{has_room, post}
use Rattle.rules.specs.Agrees.{Agrees, timer_at}
use Rattle.rules.specs.Calls.{entry, fire, fire_all, fire_next, fired, next_due, rearm, rouse}
use Rattle.rules.proofs.Claims.{Agreed, Counted, Keeps, Tested}
use Rattle.rules.proofs.Reckoned.Firing.{due-less, firings-due, firings-less}
use Rattle.rules.specs.Good.{Good, Late, at_clock}
use Rattle.rules.proofs.Guards.{Passed, first-passed}
use Rattle.rules.proofs.Kept.Clauses.{timer_owner_lives}
use Rattle.rules.proofs.Reckoned.Values.{aired_agrees}
use Rattle.rules.proofs.Reckoned.Ledger.{room_none, room_some}
use Rattle.rules.proofs.Kept.Messages.{post_keeps, tick-fine}
use Rattle.rules.proofs.Reckoned.Messages.{post_agrees}
use Rattle.rules.proofs.Reckoned.Rearm.{due_most, due_none, least-due, once-there, rearm_agrees, soonest-some}
use Rattle.rules.proofs.Kept.Clock.{advance_clock_agrees, clock_keeps, clock_read, clock_at, late_agrees, late_sized, late_then, late_back, clock_post, post_clock, rearm_late, rouse_agrees, rouse_keeps}
use Rattle.rules.proofs.Kept.Values.{aired_keeps}
use Rattle.rules.proofs.Frames.Actions.{room_still, wrote_rearm}

-- ---- one step of firing, and none
module _ (k : Caps) (n : ℕ) (s : State) where
  -- no step is left
  pub fire_none : fire_all k 0 (fired n s) ≡ fired n s
  unfolding fire_all
  fire_none = refl

  -- no timer is due, or there is no room
  pub fire_stop : (m : ℕ) → not (eqb (next_due k s) 0) && has_room k s ≡ false → fire_all k (suc m) (fired n s) ≡ fired n s
  unfolding fire_all
  fire_stop m q = rw q

  -- one fires
  pub fire-more : (m : ℕ) → not (eqb (next_due k s) 0) && has_room k s ≡ true → fire_all k (suc m) (fired n s) ≡ fire_all k m (fire_next k (fired n s))
  unfolding fire_all
  fire-more m q = rw q

-- what a tick to a live actor does, for which there is room: as of any message
pub record Ticks (k : Caps) : Type 0 where
  pub keeps : (s : State) (a id : ℕ) → Good k s → alive (s STATE) a ≡ true → has_room k s ≡ true → Good k (post k s a 0 (packed 3 1 0) (tick_bytes id))
  pub agrees : (s : State) (l : Ledger) (a id due interval : ℕ) → Good k s → Agrees k l s → alive (s STATE) a ≡ true → has_room k s ≡ true →
      Agrees k (sent (tick (record { id = id; owner = actor_id s a; due = due; interval = interval }) ∷ []) l) (post k s a 0 (packed 3 1 0) (tick_bytes id))

module _ (k : Caps) (t : Ticks k) (c : ℕ) where
  module _ (s : State) (h : Late k c s) (q : not (eqb (next_due k s) 0) && has_room k s ≡ true) where
    -- the timer's slot
    abbrev pub i : ℕ
    i = next_due k s - 1

    -- there is one
    found : next_due k s ≡ 0 → ⊥
    found = eqb-false (next_due k s) 0 (not-true (eqb (next_due k s) 0) (and_left (not (eqb (next_due k s) 0)) (has_room k s) q))

    -- it is one, and in use
    pub fires-at : (i < k.timers) × (at s TIMER-OWNER i ≡ 0 → ⊥) × (leb (at s DUE i) (head s CLOCK) ≡ true)
    fires-at = least-due k s (next_due k s) refl found

    -- its time has come
    pub come : at s DUE i ≤ head s CLOCK
    come = leb-true (at s DUE i) (head s CLOCK) fires-at.2

    -- its owner is alive
    pub owner_alive : alive (s STATE) (at s TIMER-OWNER i - 1) ≡ true
    unfolding at_clock poke with_col
    owner_alive = timer_owner_lives h.good i fires-at.0 fires-at.1

    -- there is room still
    room_left : has_room k (at_clock (rearm s i) c) ≡ true
    room_left =
        rw (clock_read (rearm s i) c MAIL-FREE refl, clock_read (rearm s i) c DATA-FREE refl)
        (room_still k (wrote_rearm s i) refl refl ∙ and_right (not (eqb (next_due k s) 0)) (has_room k s) q)

    -- and the owner is alive still
    alive-left : alive (at_clock (rearm s i) c STATE) (at s TIMER-OWNER i - 1) ≡ true
    alive-left = rw (clock_read (rearm s i) c STATE refl, (wrote_rearm s i).cols STATE refl) owner_alive

    -- a timer fires
    pub fire_late : Late k c (fire k s i)
    unfolding fire
    fire_late =
        let r = rearm_late k c s h i fires-at.0 fires-at.1 come in
        let b = at s TIMER-OWNER i - 1 in
        late_then k c (rearm s i) r (fire k s i)
        (rw (clock_post k (rearm s i) c b 0 (packed 3 1 0) (tick_bytes (timer_id s i))) at
        (t.keeps (at_clock (rearm s i) c) b (timer_id s i) r.good alive-left room_left))
        (post_clock k (rearm s i) b 0 (packed 3 1 0) (tick_bytes (timer_id s i)))

    -- and the reckoning's does
    fire_agrees : (l : Ledger) → Agrees k l s → Agrees k (firing (soonest l.time.clock l.time.timers) l) (fire k s i)
    unfolding fire firing
    fire_agrees l a =
        let r = rearm_late k c s h i fires-at.0 fires-at.1 come in
        let b = rearm_agrees k l s (late_sized k c s h) h.good.range a i fires-at.0 come in
        let e : at_clock (rearm s i) c AGE ≡ s AGE = clock_read (rearm s i) c AGE refl ∙ (wrote_rearm s i).cols AGE refl in
        let x = t.agrees (at_clock (rearm s i) c) _ (at s TIMER-OWNER i - 1) (timer_id s i) (at s DUE i) (at s INTERVAL i) r.good (late_agrees k c (rearmed l (timer_at s i)) (rearm s i) r b) alive-left room_left in
        rw (soonest-some k l s (late_sized k c s h) h.good.range a (next_due k s) refl found)
        (late_back k c (rearmed l (timer_at s i)) (rearm s i) r b (sent (tick (timer_at s i) ∷ []) (clock_at (rearmed l (timer_at s i)) c)) (fire k s i)
        (post_clock k (rearm s i) (at s TIMER-OWNER i - 1) 0 (packed 3 1 0) (tick_bytes (timer_id s i)))
        (rw (clock_post k (rearm s i) c (at s TIMER-OWNER i - 1) 0 (packed 3 1 0) (tick_bytes (timer_id s i))) at (rw e at x)))

  -- at most m timers fire
  pub fire_all_late : (m n : ℕ) (s : State) → Late k c s → Late k c (fire_all k m (fired n s)).state
  fire_all_late zero n s h = rw (fire_none k n s) h
  fire_all_late (suc m) n s h =
      split (not (eqb (next_due k s) 0) && has_room k s)
      (λ q. rw (fire-more k n s m q) (fire_all_late m (fire_next k (fired n s)).count (fire k s (next_due k s - 1)) (fire_late s h q)))
      (λ q. rw (fire_stop k n s m q) h)

  -- there is room for a message at both clocks
  late_room : (s : State) → has_room k (at_clock s c) ≡ has_room k s
  late_room s = rw (clock_read s c MAIL-FREE refl, clock_read s c DATA-FREE refl)

  -- where one fires, the reckoning has one more to fire than after it
  more-fire : (s : State) (l : Ledger) (h : Late k c s) → Agrees k l s → (q : not (eqb (next_due k s) 0) && has_room k s ≡ true) →
      (firings l ≡ suc (firings (firing (soonest l.time.clock l.time.timers) l))) × (length (due_now l) ≡ suc (length (due_now (firing (soonest l.time.clock l.time.timers) l))))
  more-fire s l h a q =
      let z = late_sized k c s h in
      let v = h.good.range in
      let e = soonest-some k l s z v a (next_due k s) refl (found s h q) in
      let o = once-there k l s z v a in
      let t = timer_at s (next_due k s - 1) in
      rw e (
        firings-less l o t e (room_some k (at_clock s c) h.good (clock_at l c) (late_agrees k c l s h a) (late_room s ∙ and_right (not (eqb (next_due k s) 0)) (has_room k s) q)),
        due-less l o t e,
      )

  -- where none does, it has none
  none_fire : (s : State) (l : Ledger) → Late k c s → Agrees k l s → not (eqb (next_due k s) 0) && has_room k s ≡ false → firings l ≡ 0
  unfolding firings
  none_fire s l h a q =
      split (eqb (next_due k s) 0)
      (λ y. let e = due_none k l s (late_sized k c s h) h.good.range a (next_due k s) refl (eqb-true (next_due k s) 0 y) in firings-due l (ap length e))
      (λ y. let e = room_none k (at_clock s c) h.good (clock_at l c) (late_agrees k c l s h a) (late_room s ∙ rw y at q) in rw e (omega arith))

  -- THE LAW: as many fire as the reckoning has to fire, one after the other, and it says the same
  pub fire_all_agrees : (m n : ℕ) (s : State) (l : Ledger) → Late k c s → Agrees k l s → length (due_now l) ≤ m →
      ((fire_all k m (fired n s)).count ≡ n + firings l) × Agrees k (fires (firings l) l) (fire_all k m (fired n s)).state
  unfolding fires
  fire_all_agrees zero n s l h a w = let e : firings l ≡ 0 = firings-due l (omega arith) in rw (fire_none k n s, e) (omega arith, a)
  fire_all_agrees (suc m) n s l h a w =
      split (not (eqb (next_due k s) 0) && has_room k s)
      (λ q.
      let e = more-fire s l h a q in
      let r = fire_all_agrees m (fire_next k (fired n s)).count (fire k s (next_due k s - 1)) (firing (soonest l.time.clock l.time.timers) l) (fire_late s h q) (fire_agrees s h q l a) (omega (arith, e.1)) in
      rw (fire-more k n s m q, e.0) (omega (arith, r.0), r.1))
      (λ q. rw (fire_stop k n s m q, none_fire s l h a q) (omega arith, a))

-- a tick is a message
pub ticks : (k : Caps) → Ticks k
ticks k = record {
  keeps = λ s a id g there roomy. post_keeps k s a g there 0 (packed 3 1 0) (tick_bytes id) roomy (tick-fine (s AGE) id);
  agrees = λ s l a id d n g r there roomy.
      post_agrees k s l a g r there 0 (packed 3 1 0) (tick_bytes id) roomy (tick-fine (s AGE) id) (tick (record { id = id; owner = actor_id s a; due = d; interval = n })) refl;
}

-- where no test says yes the clock can be raised
raised : (micros : ℕ) (k : Caps) (s : State) → Good k s → Passed ((entry (advance micros)).tests k s) →
    Late k (head s CLOCK) (poke s CLOCK 0 (head s CLOCK + micros))
raised micros k s g p =
    let c = head s CLOCK in
    clock_keeps k s micros g (ltb-false CLOCK-END (c + micros) (neither (ltb LONGEST micros) (ltb CLOCK-END (c + micros)) (first-passed p)).1)

-- once the due timers fired and the overdue woke the state is sound
roused_good : (micros : ℕ) (k : Caps) (s : State) → Good k s → Passed ((entry (advance micros)).tests k s) →
    Good k (rouse k k.actors (fire_all k k.timers (fired 0 (poke s CLOCK 0 (head s CLOCK + micros)))).state)
roused_good micros k s g p =
    let c = head s CLOCK in
    let u = poke s CLOCK 0 (c + micros) in
    rouse_keeps k c (fire_all k k.timers (fired 0 u)).state (fire_all_late k (ticks k) c k.timers 0 u (raised micros k s g p))

-- THE THEOREM: advance keeps a sound state sound
pub advance_keeps : (micros : ℕ) → Keeps (advance micros)
advance_keeps micros k s g p =
    aired_keeps k (rouse k k.actors (fire_all k k.timers (fired 0 (poke s CLOCK 0 (head s CLOCK + micros)))).state) (roused_good micros k s g p)

-- its test is the reckoning's
pub advance_same : (micros : ℕ) → Tested (advance micros)
advance_same micros k s l g a = (ap (λ (c : ℕ). ltb LONGEST micros || ltb CLOCK-END (c + micros)) (sym a.time.clock), refl, λ z. record {})

-- the timers that fire are the reckoning's, and as many
advance_fires : (k : Caps) (s : State) (l : Ledger) (micros : ℕ) → Good k s → Agrees k l s → Late k (head s CLOCK) (poke s CLOCK 0 (head s CLOCK + micros)) →
    let f = fire_all k k.timers (fired 0 (poke s CLOCK 0 (head s CLOCK + micros))) in
    (f.count ≡ firings (later micros l)) × Agrees k (fires (firings (later micros l)) (later micros l)) f.state
advance_fires k s l micros g a h =
    let u = poke s CLOCK 0 (head s CLOCK + micros) in
    let m = later micros l in
    let b = advance_clock_agrees k l s micros g a in
    let r = fire_all_agrees k (ticks k) (head s CLOCK) k.timers 0 u m h b (due_most k m u (late_sized k (head s CLOCK) u h) h.good.range b) in
    (omega (arith, r.0), r.1)

-- THE LAW: it answers as many as the reckoning has to fire
pub advance_counts : (micros : ℕ) → Counted (advance micros)
advance_counts micros k s l g a p = ap (λ (n : ℕ). n ∷ []) (advance_fires k s l micros g a (raised micros k s g p)).0

-- and the reckoning says the same
pub advance_agrees : (micros : ℕ) → Agreed (advance micros)
unfolding entered
advance_agrees micros k s l g a p =
    let t = ticks k in
    let c = head s CLOCK in
    let u = poke s CLOCK 0 (c + micros) in
    let h = raised micros k s g p in
    let m = later micros l in
    let f = (fire_all k k.timers (fired 0 u)).state in
    aired_agrees k (fires (firings m) m) (rouse k k.actors f) (roused_good micros k s g p)
    (rouse_agrees k.actors k c (fires (firings m) m) f (fire_all_late k t c k.timers 0 u h) (advance_fires k s l micros g a h).1)
