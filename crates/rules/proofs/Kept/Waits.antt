-- No wait is longer than a day: an action leaves a deadline as it was or ends it, the clock does not go back, and a wait that begins ends within a day.
use Prim.Native.Nat.{ℕ, zero, suc, ◌+◌, ◌-◌, ◌*◌, ◌≤◌}
use native.Mathlib.Decide.{dec_lt}
use native.Mathlib.Omega.{arith}
use mathlib.Core.Path.{◌≡◌, refl}
use mathlib.Core.Bool.{false, true, not, ◌&&◌}
use mathlib.Core.List.{List, [], ◌∷◌, ◌++◌}
use lib.IntN.{ℤ, pos, negsuc}
use lib.ListN.{length}
use lib.Seq.{get_or-set_same, set_out}
use lib.Dec.{eqb, ltb}
use Rattle.ledger.specs.Call.Op.{advance, exit, notify, receive}
use Rattle.pools.proofs.BoolLaws.{neither, split}
use Rattle.tables.specs.declared.Caps.{Caps}
use Rattle.tables.specs.Columns.{ARRIVED, CLOCK, DEADLINE, HAND, QUEUE, QUEUED, REASON, RUNNING, STATE, WATCHED}
use Rattle.tables.specs.Limits.{LONGEST-WAIT}
use Rattle.tables.specs.State.{State, at, head, poke, with_col}
use Rattle.rules.specs.Actions.{data_for, enlist, fill, has_room, hears, let_go, mail_for, post, stir, unwait, wake}
use Rattle.rules.specs.Aged.{actor_pool, monitor_pool, timer_pool}
use Rattle.rules.specs.Buses.{aired}
use Rattle.rules.specs.Calls.{Fired, Told, await, bad_wait, cut_link, cut_links, cut_monitor, cut_monitors, deadline_at, depart, fire, fire_all, fire_next, fired, first_match}
use Rattle.rules.specs.Calls.{hand_over, link_of, loosen, next_due, next_overdue, not_at_all, place_of, rearm, receive_bare, rouse, tell, unqueue, vacate}
use Rattle.rules.specs.Terms.{MESSAGE, RUNNABLE, TIMEOUT, legal, runner}
use Rattle.rules.proofs.Claims.{Daily, Waits}
use Rattle.rules.proofs.Ends.Departs.{beside_depart}
use Rattle.rules.proofs.Frames.Actions.{beside_delist, beside_emptied, wrote_enlist, wrote_fill, wrote_let_go, wrote_post, wrote_ready, wrote_rearm, wrote_tie}
use Rattle.rules.proofs.Frames.Buses.{AIRED, beside_aired, wrote_leave_buses}
use Rattle.rules.proofs.Frames.Calls.{FIRED, beside_fire_all, beside_own, beside_receive, beside_rouse}
use Rattle.rules.proofs.Frames.Pools.{use_ends}
use Rattle.rules.proofs.Frames.Wrote.{Beside, apart, apart-at, beside_of, beside_over, beside_poke, beside_pull, beside_still, mem, wrote_none}
use Rattle.rules.proofs.Guards.{second_passed}
use Rattle.rules.proofs.Kept.Messages.{wait_fits}
use Rattle.rules.proofs.Lists.Columns.{set_so}

-- the columns that say how long waits are
abbrev pub WAIT-TIMES : List ℕ
WAIT-TIMES = CLOCK ∷ DEADLINE ∷ []

-- ---- no deadline is later than a time
abbrev Before : ℕ → State → Type 0
Before time s = (a : ℕ) → at s DEADLINE a ≤ time

module _ {time : ℕ} where
  -- where deadlines are not written
  before_beside : {ws : List ℕ} {s t : State} → Beside ws s t → mem DEADLINE ws ≡ false → Before time s → Before time t
  before_beside w e h a = rw (w.cols DEADLINE e) (h a)

  -- a wait ends
  before-unwait : (s : State) (a : ℕ) → Before time s → Before time (unwait s a)
  unfolding unwait poke with_col
  before-unwait s a h b = set_so (λ (x : ℕ). x ≤ time) (s DEADLINE) a 0 b (omega arith) (h b)

  -- a wait begins that ends by then
  before-await : (s : State) (a sender class tag deadline : ℕ) → deadline ≤ time → Before time s → Before time (await s a sender class tag deadline)
  unfolding await poke with_col
  before-await s a sender class tag deadline l h b = set_so (λ (x : ℕ). x ≤ time) (s DEADLINE) a deadline b l (h b)

  -- a waiting actor becomes runnable
  before-wake : (s : State) (a reason : ℕ) → Before time s → Before time (wake s a reason)
  before-wake s a reason h = before_beside (beside_of (wrote_ready (wrote_none (unwait s a)) a reason)) refl (before-unwait s a h)

  -- a message arrives
  before-post : (k : Caps) (s : State) (a sender heading : ℕ) (payload : List ℕ) → Before time s → Before time (post k s a sender heading payload)
  unfolding post stir
  before-post k s a sender heading payload h =
      let t = enlist (fill s (data_for k s) sender heading payload) (mail_for k s) a (data_for k s) in
      let u : Before time t = before_beside (beside_of (wrote_enlist (wrote_fill (wrote_none s) (data_for k s) sender heading payload) (mail_for k s) a (data_for k s))) refl h in
      split (hears t a sender heading) (λ q. rw q (before-wake t a MESSAGE u)) (λ q. rw q u)

  -- ---- an actor ends
  -- a notice arrives, or is lost
  before-tell : (k : Caps) (t : Told) (a me reason monitor : ℕ) → Before time t.state → Before time (tell k t a me reason monitor).state
  unfolding tell
  before-tell k t a me reason monitor h = split (has_room k t.state) (λ q. rw q (before-post k t.state a me _ _ h)) (λ q. rw q h)

  -- its links end, each with its notice
  before-cut_links : (k : Caps) (a me reason b : ℕ) (t : Told) → Before time t.state → Before time (cut_links k a me reason b t).state
  unfolding cut_links cut_link
  before-cut_links k a me reason zero t h = h
  before-cut_links k a me reason (suc b) t h =
      let u = (cut_links k a me reason b t).state in
      let below = before-cut_links k a me reason b t h in
      split (ltb (link_of k u (suc a) (suc b)) k.links)
      (λ q. rw q (before-tell k _ b me reason 0 (before_beside (beside_of (wrote_tie (wrote_none u) _ 0 0)) refl below))) (λ q. rw q below)

  -- so do the monitors on it
  before-cut_monitors : (k : Caps) (a me reason i : ℕ) (t : Told) → Before time t.state → Before time (cut_monitors k a me reason i t).state
  unfolding cut_monitors cut_monitor
  before-cut_monitors k a me reason zero t h = h
  before-cut_monitors k a me reason (suc i) t h =
      let u = (cut_monitors k a me reason i t).state in
      let below = before-cut_monitors k a me reason i t h in
      split (eqb (at u WATCHED i) (suc a))
      (λ q. rw q (before-tell k _ _ me reason _ (before_beside (beside_of (use_ends monitor_pool u i).wrote) refl below))) (λ q. rw q below)

  -- its slot is free
  before-vacate : (s : State) (a : ℕ) → Before time s → Before time (vacate s a)
  unfolding vacate loosen unqueue
  before-vacate s a h =
      before_beside (beside_of (use_ends actor_pool (loosen s a) a).wrote) refl (split (eqb (runner s) (suc a))
      (λ r. rw r (before_beside (beside_poke (beside_still [] s) RUNNING 0 0) refl h))
      (λ r. split (eqb (at s STATE a) RUNNABLE)
      (λ q. rw (r, q) (before_beside (beside_poke (beside_pull (beside_still [] s) QUEUE QUEUED (place_of s a)) REASON a 0) refl h))
      (λ q. rw (r, q) (before-unwait s a h))))

  -- step by step, and then its slot
  before-depart : (k : Caps) (a reason : ℕ) (s : State) → Before time s → Before time (depart k a reason s).state
  unfolding depart
  before-depart k a reason s h =
      before-vacate _ a
      (before_beside (beside_of (wrote_leave_buses k a _ _)) refl
      (before_beside (beside_own timer_pool a _ _) refl
      (before_beside (beside_own monitor_pool a _ _) refl
      (before-cut_monitors k a _ reason _ _
      (before-cut_links k a _ reason _ _
      (before_beside (beside_emptied s a) refl h))))))

  -- ---- time passes
  -- timers fire
  before-fire_all : (k : Caps) (m : ℕ) (f : Fired) → Before time f.state → Before time (fire_all k m f).state
  unfolding fire_all fire
  before-fire_all k zero f h = h
  before-fire_all k (suc m) f h =
      split (not (eqb (next_due k f.state) 0) && has_room k f.state)
      (λ q. rw q (before-fire_all k m (fire_next k f) (before-post k (rearm f.state _) _ 0 _ _ (before_beside (beside_of (wrote_rearm f.state _)) refl h)))) (λ q. rw q h)

  -- waits are over
  before-rouse : (k : Caps) (m : ℕ) (s : State) → Before time s → Before time (rouse k m s)
  unfolding rouse
  before-rouse k zero s h = h
  before-rouse k (suc m) s h = split (eqb (next_overdue k s) 0) (λ q. rw q h) (λ q. rw q (before-rouse k m _ (before-wake s _ TIMEOUT h)))

-- ---- within a day
-- a day from now
abbrev tomorrow : State → ℕ
tomorrow s = head s CLOCK + 1000 * LONGEST-WAIT

-- where no deadline becomes later and the clock does not go back
daily_later : (s t : State) → head s CLOCK ≤ head t CLOCK → (Before (tomorrow s) s → Before (tomorrow s) t) → Daily s → Daily t
daily_later s t l f h a = omega (arith, l, f h a)

-- where the clock is not written
daily_now : {ws : List ℕ} {s t : State} → Beside ws s t → mem CLOCK ws ≡ false → (Before (tomorrow s) s → Before (tomorrow s) t) → Daily s → Daily t
daily_now {s = s} {t} w e = let q : head t CLOCK ≡ head s CLOCK = rw (w.cols CLOCK e) in daily_later s t (omega (arith, q))

-- where neither is
pub daily_still : {ws : List ℕ} {s t : State} → Beside ws s t → apart WAIT-TIMES ws ≡ true → Daily s → Daily t
daily_still {ws} w e = daily_now w (apart-at WAIT-TIMES ws e CLOCK refl) (before_beside w (apart-at WAIT-TIMES ws e DEADLINE refl))

-- ---- the calls that write clock or deadlines
-- a message may end a wait
pub notify_waits : (target tag : ℕ) (payload : List ℕ) → Waits (notify target tag payload)
notify_waits target tag payload k s p = daily_now (beside_of (wrote_post k s _ _ _ payload)) refl (before-post k s _ _ _ payload)

-- "Positive waits above 86,400,000 .. become malformed": a wait that begins
deadline_soon : (clock : ℕ) (wait : ℤ) → bad_wait wait ≡ false → deadline_at clock wait ≤ clock + 1000 * LONGEST-WAIT
deadline_soon clock (pos n) b = omega (arith, wait_fits n b)
deadline_soon clock (negsuc n) b = omega arith

-- receive begins it where no message matches
pub receive-waits : (sender class tag : ℕ) (wait : ℤ) → Waits (receive sender class tag wait)
unfolding receive_bare hand_over
receive-waits sender class tag wait k s p = daily_now (beside_receive sender class tag wait k s) refl (λ h.
    let a = runner s - 1 in
    let w = beside_of (wrote_let_go s a) in
    let u = let_go s a in
    let g = before_beside w refl h in
    let now : head u CLOCK ≡ head s CLOCK = rw (w.cols CLOCK refl) in
    let l = deadline_soon (head u CLOCK) wait (neither (not (legal class tag)) (bad_wait wait) (second_passed p)).1 in
    split (ltb (first_match u a sender class tag) (head u ARRIVED)) (λ q. rw q (before_beside (beside_poke (beside_delist u _) HAND a _) refl g))
    (λ q. split (not_at_all wait) (λ z. rw (q, z) g) (λ z. rw (q, z) (before-await u a sender class tag _ (omega (arith, now, l)) g))))

-- the notices of an exit may end waits, and whoever ends waits no more
pub exit_waits : (reason : ℕ) → Waits (exit reason)
exit_waits reason k s p = daily_now (beside_depart k (runner s - 1) reason s) refl (before-depart k (runner s - 1) reason s)

-- "Advance adds 0 to 2^32 - 1": the clock does not go back
clock_forward : (s : State) (micros : ℕ) → head s CLOCK ≤ head (poke s CLOCK 0 (head s CLOCK + micros)) CLOCK
unfolding poke with_col
clock_forward s micros =
    let c = head s CLOCK in
    elim (dec_lt 0 (length (s CLOCK))) [
      | yes h ↦ rw (get_or-set_same (s CLOCK) 0 (c + micros) 0 h) (omega arith)
      | no h ↦ rw (set_out (s CLOCK) 0 (c + micros) (omega arith)) (omega arith)
    ]

-- an advance raises the clock first, and then ends waits only
pub advance_waits : (micros : ℕ) → Waits (advance micros)
advance_waits micros k s p =
    daily_later s (aired roused) forward (λ h.
    before_beside (beside_aired roused) refl (before-rouse k k.actors f.state (before-fire_all k k.timers (fired 0 later) (before_beside raised refl h))))
  where
    later : State
    later = poke s CLOCK 0 (head s CLOCK + micros)

    f : Fired
    f = fire_all k k.timers (fired 0 later)

    roused : State
    roused = rouse k k.actors f.state

    raised : Beside (CLOCK ∷ []) s later
    raised = beside_poke (beside_still [] s) CLOCK 0 (head s CLOCK + micros)

    -- what follows does not write the clock
    after : Beside (FIRED ++ AIRED) later (aired roused)
    after = beside_over (FIRED ++ AIRED) (beside_over (FIRED ++ AIRED) (beside_fire_all k k.timers (fired 0 later)) (beside_rouse k k.actors f.state) refl) (beside_aired roused) refl

    forward : head s CLOCK ≤ head (aired roused) CLOCK
    forward = rw (after.cols CLOCK refl) (clock_forward s micros)
