-- The clock is raised: nothing but a deadline notices, and the actions that follow do not. A state that is sound at an earlier clock is `Late`;
-- once nobody's deadline is past, it is sound.
use Prim.Native.Nat.{ℕ, zero, suc, ◌+◌, ◌-◌, ◌≤◌, ◌<◌}
use native.Mathlib.Omega.{arith}
use mathlib.Core.Path.{◌≡◌, refl, sym, ap, subst, ◌∙◌, fun_ext}
use mathlib.Core.Bool.{Bool, true, false, not}
use mathlib.Core.List.{List, [], ◌∷◌}
use lib.ListN.{length, get_or, set}
use lib.Seq.{get_or-set_same, get_or-set_other, set-set, set-get_or}
use lib.Dec.{eqb, leb, lit<}
use borrow.Author.Tests.{eqb-true, eqb-false, ne_eqb, leb-false, not-true}
use Rattle.ledger.specs.Ledger.{Ledger, time, with_time}
use Rattle.pools.specs.Pool.{count}
use Rattle.pools.proofs.BoolLaws.{split, and_left}
use Rattle.pools.proofs.PoolLaws.{count_change, count-le, count-some}
use Rattle.tables.specs.declared.Caps.{Caps}
use Rattle.tables.specs.Columns.{CLOCK, DATA-FREE, DEADLINE, DUE, INTERVAL, MAIL-FREE, PAYLOAD, STATE, TIMER-OWNER, WANT-CLASS, WANT-SENDER, WANT-TAG}
use Rattle.tables.specs.Limits.{CLOCK-END, LONGEST}
use Rattle.tables.specs.State.{Sized, State, at, head, poke, with_col}
use Rattle.tables.specs.Action.{push, take_bit, write}
use Rattle.tables.proofs.ActionLaws.{with-other}
use Rattle.rules.specs.Aged.{end_use, timer_pool}
use Rattle.rules.specs.Terms.{MESSAGE, TIMEOUT, WAITS}
use Rattle.rules.specs.Sound.{pair_rule}
use Rattle.rules.specs.Actions.{data_for, due, enlist, fill, hears, mail_for, post, ready, stir, unwait, wake}
use Rattle.rules.specs.Agrees.{Agrees}
use Rattle.rules.specs.Calls.{disarm, next_beat, next_overdue, rearm, rouse}
use Rattle.rules.proofs.Reckoned.Parts.{agrees_time}
use Rattle.rules.proofs.Frames.Wrote.{Wrote, wrote_none, wrote_poke, wrote_sized}
use Rattle.rules.proofs.Frames.Pools.{use_ends}
use Rattle.rules.proofs.Frames.Actions.{wrote_post, wrote_ready, wrote_rearm, wrote_unwait}
use Rattle.rules.specs.Good.{Good, Late, at_clock}
use Rattle.rules.proofs.Kept.Clauses.{deadline_fits, deadline_unused, interval_fits, runner-fits}
use Rattle.rules.proofs.Kept.Groups as Part
use Rattle.rules.proofs.Kept.Patch.{◌by◌also◌, done, patch}
use Rattle.rules.proofs.Lists.Least.{Least, least_is}
use Rattle.rules.proofs.Reckoned.Beats.{beat_most}
use Rattle.rules.proofs.Reckoned.Rearm.{redue_keeps}
use Rattle.rules.proofs.Kept.Running.{wake_keeps}
use Rattle.rules.proofs.Reckoned.Running.{wake_agrees}
use Rattle.rules.proofs.Kept.Ties.{disarm_keeps}

module _ (s : State) (c : ℕ) where
  -- the other columns are as they were
  pub clock_read : (d : ℕ) → eqb d CLOCK ≡ false → at_clock s c d ≡ s d
  unfolding at_clock poke
  clock_read d e = with-other s CLOCK (set (s CLOCK) 0 c) d e

  -- a column anew at another clock
  pub clock_with : (d : ℕ) (l : List ℕ) → eqb d CLOCK ≡ false → with_col (at_clock s c) d l ≡ at_clock (with_col s d l) c
  unfolding at_clock poke with_col
  clock_with d l e =
      let f : eqb CLOCK d ≡ false = ne_eqb CLOCK d (λ z. eqb-false d CLOCK e (sym z)) in
      fun_ext (λ b. rw f (split (eqb b d)
      (λ p. let q : eqb b CLOCK ≡ false = rw (eqb-true b d p) e in rw (p, q))
      (λ p. rw p)))

  -- a word anew
  pub clock_poke : (d i v : ℕ) → eqb d CLOCK ≡ false → poke (at_clock s c) d i v ≡ at_clock (poke s d i v) c
  unfolding poke
  clock_poke d i v e = rw (clock_read d e) (clock_with d (set (s d) i v) e)

  -- a bit taken
  pub clock_take : (d i : ℕ) → eqb d CLOCK ≡ false → take_bit (at_clock s c) d i ≡ at_clock (take_bit s d i) c
  unfolding take_bit
  clock_take d i e = rw (clock_read d e) (clock_with d _ e)

  -- bytes written
  pub clock_write : (d i : ℕ) (m : List ℕ) → write (at_clock s c) d i m ≡ at_clock (write s d i m) c
  unfolding write
  clock_write d i m = rw (clock_read PAYLOAD refl) (clock_with PAYLOAD _ refl)

-- one joins a list
pub clock_push : (s : State) (c list n v : ℕ) → eqb list CLOCK ≡ false → eqb n CLOCK ≡ false → push (at_clock s c) list n v ≡ at_clock (push s list n v) c
unfolding push
clock_push s c list n v e f = rw (clock_read s c n f, clock_poke s c list (head s n) v e) (clock_poke _ c n 0 (head s n + 1) f)

-- ---- the actions do not notice the clock
module _ (s : State) (c : ℕ) where
  -- a waiting actor becomes runnable
  pub clock_wake : (a reason : ℕ) → wake (at_clock s c) a reason ≡ at_clock (wake s a reason) c
  unfolding ready unwait
  clock_wake a reason = simp (clock_poke, clock_push)

  -- a data entry is filled, and a mailbox entry taken for it
  clock_filed : (d e a sender h : ℕ) (payload : List ℕ) →
      enlist (fill (at_clock s c) d sender h payload) e a d ≡ at_clock (enlist (fill s d sender h payload) e a d) c
  unfolding fill enlist
  clock_filed d e a sender h payload = simp (clock_take, clock_poke, clock_write, clock_push)

  -- a timer ends
  pub clock_disarm : (i : ℕ) → disarm (at_clock s c) i ≡ at_clock (disarm s i) c
  unfolding end_use
  clock_disarm i = simp clock_poke

-- a message to an actor, which may hear it
pub clock_post : (k : Caps) (s : State) (c a sender h : ℕ) (payload : List ℕ) → post k (at_clock s c) a sender h payload ≡ at_clock (post k s a sender h payload) c
unfolding post stir
clock_post k s c a sender h payload =
    let u = enlist (fill s (data_for k s) sender h payload) (mail_for k s) a (data_for k s) in
    rw (clock_read s c DATA-FREE refl, clock_read s c MAIL-FREE refl, clock_filed s c (data_for k s) (mail_for k s) a sender h payload)
    (rw (clock_read u c STATE refl, clock_read u c WANT-SENDER refl, clock_read u c WANT-CLASS refl, clock_read u c WANT-TAG refl)
    (split (hears u a sender h) (λ q. rw q (clock_wake u c a MESSAGE)) (λ q. rw q)))

-- ---- the clock stays
-- where an actor wakes
pub wake_clock : (s : State) (a reason : ℕ) → wake s a reason CLOCK ≡ s CLOCK
wake_clock s a reason = (wrote_ready (wrote_unwait (wrote_none s) a) a reason).cols CLOCK refl

-- where a message arrives
pub post_clock : (k : Caps) (s : State) (a sender h : ℕ) (payload : List ℕ) → post k s a sender h payload CLOCK ≡ s CLOCK
post_clock k s a sender h payload = (wrote_post k s a sender h payload).cols CLOCK refl

-- where a timer fires
pub rearm_clock : (s : State) (i : ℕ) → rearm s i CLOCK ≡ s CLOCK
rearm_clock s i = (wrote_rearm s i).cols CLOCK refl

-- ---- to another clock and back
pub clock_back : (s : State) (c : ℕ) → at_clock (at_clock s c) (head s CLOCK) ≡ s
unfolding at_clock poke with_col
clock_back s c = fun_ext (λ b. split (eqb b CLOCK) (λ q. rw (q, eqb-true b CLOCK q, set-set (s CLOCK) 0 c (head s CLOCK)) (set-get_or (s CLOCK) 0 0)) (λ q. rw q))

-- the clock is the new one
pub clock_is : (s : State) (c : ℕ) → length (s CLOCK) ≡ 1 → head (at_clock s c) CLOCK ≡ c
unfolding at_clock poke with_col
clock_is s c h = get_or-set_same (s CLOCK) 0 c 0 (omega arith)

module _ (k : Caps) (c : ℕ) (s : State) (h : Late k c s) where
  -- every column has its size
  pub late_sized : Sized k s
  unfolding at_clock
  late_sized = subst (λ (x : State). Sized k x) (clock_back s c) (wrote_sized k (wrote_poke (wrote_none (at_clock s c)) CLOCK 0 (head s CLOCK)) h.good.sized)

  -- the clock has one word
  pub late_word : length (s CLOCK) ≡ 1
  late_word = late_sized.words CLOCK (lit< tt)

  -- what an action leaves that does not notice the clock
  pub late_then : (u : State) → Good k (at_clock u c) → u CLOCK ≡ s CLOCK → Late k c u
  late_then u g e =
      let q : head u CLOCK ≡ head s CLOCK = ap (λ (l : List ℕ). get_or l 0 0) e in
      record { good = g; past = rw q h.past; ends = rw q h.ends }

  -- a timer whose time has come fires: its next due time is past the clock by one interval at most, so it is no later than soundness allows
  pub rearm_late : (i : ℕ) → i < k.timers → (at s TIMER-OWNER i ≡ 0 → ⊥) → at s DUE i ≤ head s CLOCK → Late k c (rearm s i)
  unfolding rearm
  rearm_late i l u come =
      let g = h.good in
      let o : at (at_clock s c) TIMER-OWNER i ≡ 0 → ⊥ = rw (clock_read s c TIMER-OWNER refl) u in
      let w : at s INTERVAL i ≤ LONGEST = rw (clock_read s c INTERVAL refl) at (interval_fits g i) in
      let next = next_beat (at s DUE i) (at s INTERVAL i) (head s CLOCK) in
      split (eqb (at s INTERVAL i) 0)
      (λ q. rw q (late_then (disarm s i) (rw (clock_disarm s c i) at (disarm_keeps k (at_clock s c) i g l)) ((use_ends timer_pool s i).wrote.cols CLOCK refl)))
      (λ q. let e = beat_most (at s DUE i) (at s INTERVAL i) (head s CLOCK) (eqb-false (at s INTERVAL i) 0 q) come in
      rw q (late_then (poke s DUE i next)
      (rw (clock_poke s c DUE i next refl) at (redue_keeps k (at_clock s c) i next g l o (omega (arith, e, w, h.ends))))
      ((wrote_poke (wrote_none s) DUE i next).cols CLOCK refl)))

  -- who has a deadline waits
  pub late_waits : (a : ℕ) → a < k.actors → (at s DEADLINE a ≡ 0 → ⊥) → at s STATE a ≡ WAITS
  late_waits a l d =
      let i = rw (clock_read s c STATE refl, clock_read s c DEADLINE refl) at (deadline_unused h.good a l) in
      split (eqb (at s STATE a) WAITS) (λ q. eqb-true (at s STATE a) WAITS q) (λ q. absurd (d (i (eqb-false (at s STATE a) WAITS q))))

-- "Advance adds 0 to 2^32 - 1": a sound state whose clock is raised was sound at the clock that it had
pub clock_keeps : (k : Caps) (s : State) (micros : ℕ) → Good k s → head s CLOCK + micros ≤ CLOCK-END → Late k (head s CLOCK) (poke s CLOCK 0 (head s CLOCK + micros))
unfolding at_clock
clock_keeps k s micros g l =
    let e : head (poke s CLOCK 0 (head s CLOCK + micros)) CLOCK ≡ head s CLOCK + micros = clock_is s (head s CLOCK + micros) (g.sized.words CLOCK (lit< tt)) in
    record { good = subst (λ (x : State). Good k x) (sym (clock_back s (head s CLOCK + micros))) g; past = omega arith; ends = omega arith }

-- and once nobody's deadline is past it is sound
pub late_good : (k : Caps) (c : ℕ) (s : State) → Late k c s → ((a : ℕ) → a < k.actors → due s DEADLINE DEADLINE (head s CLOCK) a ≡ false) → Good k s
unfolding at_clock poke with_col pair_rule
late_good k c s h none =
    let g = h.good in
    patch k g (subst (λ (x : State). Wrote (CLOCK ∷ []) (at_clock s c) x) (clock_back s c) (wrote_poke (wrote_none (at_clock s c)) CLOCK 0 (head s CLOCK))) (
    Part.head by ((h.ends, runner-fits g), g.head.1) also
    Part.waits by (λ a l. let (names, (class, _)) = g.waits a l in (names, (class, λ d. (later a l d, deadline_fits g a)))) also
    Part.values by (λ d l. ((g.values d l).0, λ n. let ((bus, time), masks) = (g.values d l).1 n in ((bus, published time), masks))) also
    done) refl
  where
    -- who has a deadline has a later one
    later : (a : ℕ) → a < k.actors → (at s DEADLINE a ≡ 0 → ⊥) → head s CLOCK < at s DEADLINE a
    later a l d = leb-false (at s DEADLINE a) (head s CLOCK) (let q = none a l in rw (ne_eqb (at s DEADLINE a) 0 d) at q)

    -- what was published by the earlier clock was by this one
    published : {x : ℕ} → x ≤ head (at_clock s c) CLOCK → x ≤ head s CLOCK
    published l = omega (arith, clock_is s c (late_word k c s h), h.past)

-- ---- "Then waiting actors whose deadline is at or before the clock become runnable with reason 2"
-- whose deadline has come
abbrev pub overdue : State → ℕ → Bool
overdue s a = due s DEADLINE DEADLINE (head s CLOCK) a

module _ (k : Caps) (s : State) where
  -- no step where there is none
  pub rouse_stop : (m : ℕ) → eqb (next_overdue k s) 0 ≡ true → rouse k (suc m) s ≡ s
  unfolding rouse
  rouse_stop m q = rw q

  -- one step where there is one
  pub rouse-more : (m : ℕ) → eqb (next_overdue k s) 0 ≡ false → rouse k (suc m) s ≡ rouse k m (wake s (next_overdue k s - 1) TIMEOUT)
  unfolding rouse
  rouse-more m q = rw q

  -- no step where none is left
  pub rouse-zero : rouse k 0 s ≡ s
  unfolding rouse
  rouse-zero = refl

  -- the first is the least
  overdue-least : Least (overdue s) (at s DEADLINE) k.actors (next_overdue k s)
  overdue-least = least_is (overdue s) (at s DEADLINE) k.actors

  -- it is a slot with a deadline
  overdue-at : eqb (next_overdue k s) 0 ≡ false → (next_overdue k s - 1 < k.actors) × (overdue s (next_overdue k s - 1) ≡ true) × (at s DEADLINE (next_overdue k s - 1) ≡ 0 → ⊥)
  overdue-at q =
      let n = eqb-false (next_overdue k s) 0 q in
      let p = overdue-least.passes n in
      let b = next_overdue k s - 1 in
      (omega (arith, overdue-least.within), p, eqb-false (at s DEADLINE b) 0 (not-true (eqb (at s DEADLINE b) 0) (and_left (not (eqb (at s DEADLINE b) 0)) (leb (at s DEADLINE b) (head s CLOCK)) p)))

module _ (k : Caps) (c : ℕ) where
  -- one fewer is overdue
  overdue_fewer : (s : State) (b : ℕ) → Late k c s → b < k.actors → overdue s b ≡ true → count (overdue (wake s b TIMEOUT)) k.actors + 1 ≡ count (overdue s) k.actors
  unfolding ready unwait push poke with_col
  overdue_fewer s b h l q =
      let e = count_change (overdue s) (overdue (wake s b TIMEOUT)) b k.actors l (λ j n. rw (get_or-set_other (s DEADLINE) b j 0 0 n)) in
      omega (arith, rw (q, get_or-set_same (s DEADLINE) b 0 0 (omega (arith, (late_sized k c s h).words DEADLINE (lit< tt)))) at e)

  -- the one that wakes, and the state after it
  pub rouse-step : (s : State) → Late k c s → eqb (next_overdue k s) 0 ≡ false → Late k c (wake s (next_overdue k s - 1) TIMEOUT)
  rouse-step s h q =
      let o = overdue-at k s q in
      let b = next_overdue k s - 1 in
      let u : at (at_clock s c) STATE b ≡ WAITS = rw (clock_read s c STATE refl) (late_waits k c s h b o.0 o.2) in
      late_then k c s h (wake s b TIMEOUT) (rw (clock_wake s c b TIMEOUT) at (wake_keeps k (at_clock s c) b TIMEOUT h.good o.0 u (omega arith)))
      (wake_clock s b TIMEOUT)

  -- m steps are enough where no more than m are overdue
  rouse_good : (m : ℕ) (s : State) → Late k c s → count (overdue s) k.actors ≤ m → Good k (rouse k m s)
  rouse_good zero s h l =
      rw (rouse-zero k s) (late_good k c s h (λ a n. split (overdue s a) (λ q. absurd (omega (arith, count-some (overdue s) a k.actors n q))) (λ q. q)))
  rouse_good (suc m) s h l =
      split (eqb (next_overdue k s) 0)
      (λ q. rw (rouse_stop k s m q) (late_good k c s h ((overdue-least k s).none (eqb-true (next_overdue k s) 0 q))))
      (λ q. let o = overdue-at k s q in
      rw (rouse-more k s m q)
      (rouse_good m (wake s (next_overdue k s - 1) TIMEOUT) (rouse-step s h q) (omega (arith, overdue_fewer s (next_overdue k s - 1) h o.0 o.1))))

  -- THE LAW: after it a state whose clock was raised is sound
  pub rouse_keeps : (s : State) → Late k c s → Good k (rouse k k.actors s)
  rouse_keeps s h = rouse_good k.actors s h (count-le (overdue s) k.actors)

-- ---- the reckoning at another clock
-- the reckoning's clock is another
abbrev pub clock_at : Ledger → ℕ → Ledger
clock_at l c = with_time l (time c l.time.timers l.time.worn)

-- and the tables' too
pub clock_agrees : (k : Caps) (l : Ledger) (s : State) (c : ℕ) → length (s CLOCK) ≡ 1 → Agrees k l s → Agrees k (clock_at l c) (at_clock s c)
unfolding at_clock poke with_col
clock_agrees k l s c h a = let w = wrote_poke (wrote_none s) CLOCK 0 c in agrees_time w a _ refl refl (record { clock = sym (clock_is s c h); pool = a.time.pool })

module _ (k : Caps) (c : ℕ) (l : Ledger) (s : State) (h : Late k c s) (a : Agrees k l s) where
  -- at the clock at which the state is sound
  pub late_agrees : Agrees k (clock_at l c) (at_clock s c)
  late_agrees = clock_agrees k l s c (late_word k c s h) a

  -- and back, after an action that does not notice the clock
  pub late_back : (m : Ledger) (u : State) → u CLOCK ≡ s CLOCK → Agrees k m (at_clock u c) → Agrees k (clock_at m l.time.clock) u
  unfolding at_clock
  late_back m u e b =
      let q : head u CLOCK ≡ head s CLOCK = ap (λ (x : List ℕ). get_or x 0 0) e in
      let w : length (at_clock u c CLOCK) ≡ 1 = (wrote_poke (wrote_none u) CLOCK 0 c).long CLOCK ∙ rw e (late_word k c s h) in
      rw (a.time.clock, ← q) (subst (λ (x : State). Agrees k (clock_at m (head u CLOCK)) x) (clock_back u c) (clock_agrees k m (at_clock u c) (head u CLOCK) w b))

  -- a waiting actor becomes runnable
  pub wake_late_agrees : (b reason : ℕ) → at s STATE b ≡ WAITS → Agrees k l (wake s b reason)
  wake_late_agrees b reason u =
      late_back (clock_at l c) (wake s b reason) (wake_clock s b reason)
      (rw (clock_wake s c b reason) at (wake_agrees k (at_clock s c) (clock_at l c) b reason late_agrees (rw (clock_read s c STATE refl) u)))

-- the overdue wake, and the reckoning has nothing to do
pub rouse_agrees : (m : ℕ) (k : Caps) (c : ℕ) (l : Ledger) (s : State) → Late k c s → Agrees k l s → Agrees k l (rouse k m s)
rouse_agrees zero k c l s h a = rw (rouse-zero k s) a
rouse_agrees (suc m) k c l s h a =
    split (eqb (next_overdue k s) 0)
    (λ q. rw (rouse_stop k s m q) a)
    (λ q. let o = overdue-at k s q in
    rw (rouse-more k s m q)
    (rouse_agrees m k c l (wake s (next_overdue k s - 1) TIMEOUT) (rouse-step k c s h q)
    (wake_late_agrees k c l s h a (next_overdue k s - 1) TIMEOUT (late_waits k c s h (next_overdue k s - 1) o.0 o.2))))

-- "Advance adds": the clock of both
pub advance_clock_agrees : (k : Caps) (l : Ledger) (s : State) (micros : ℕ) → Good k s → Agrees k l s →
    Agrees k (with_time l (time (l.time.clock + micros) l.time.timers l.time.worn)) (poke s CLOCK 0 (head s CLOCK + micros))
unfolding at_clock
advance_clock_agrees k l s micros g a = rw a.time.clock (clock_agrees k l s (head s CLOCK + micros) (g.sized.words CLOCK (lit< tt)) a)
