-- What is done to timers, links and monitors keeps a sound state sound.
use Prim.Native.Nat.{ℕ, suc, ◌+◌, ◌-◌, ◌≤◌, ◌<◌}
use native.Mathlib.Omega.{arith}
use mathlib.Core.List.{[], ◌∷◌}
use mathlib.Core.Path.{◌≡◌, refl, ap, ◌∙◌}
use mathlib.Core.Logic.{◌⊎◌, ⊎_elim}
use mathlib.Core.Bool.{Bool, true, false, not, ◌&&◌}
use lib.ListN.{length}
use lib.Seq.{get_or-set_same}
use lib.Dec.{eqb, ltb, lit<}
use borrow.Author.Tests.{eqb-false, ltb-true, ltb-false, not-false}
use Rattle.pools.specs.Slot.{id_of, slot_of}
use Rattle.pools.proofs.BoolLaws.{split, and_right, neither}
use Rattle.pools.proofs.PoolLaws.{lowest-first}
use Rattle.pools.proofs.SlotLaws.{live_is, of_live}
use Rattle.ledger.specs.Call.Op.{after, every, cancel, link, unlink, monitor, demonitor}
use Rattle.tables.specs.declared.Caps.{Caps}
use Rattle.tables.specs.Columns.{AGE, CLOCK, DUE, INTERVAL, LINK-ONE, LINK-TWO, MONITOR-AGE, STATE, TIMER-AGE, TIMER-OWNER, WATCHED, WATCHER}
use Rattle.tables.specs.Limits.{ACTOR-FACTOR, DUE-END, LONGEST, MONITOR-FACTOR, OLDEST, SHORTEST-INTERVAL, TIMER-FACTOR}
use Rattle.tables.specs.State.{Sized, State, at, head, poke, with_col}
use Rattle.rules.specs.Aged.{begin_use, timer_pool, monitor_pool}
use Rattle.rules.specs.Rule.{Holds}
use Rattle.rules.specs.Terms.{alive, is_actor, joins, runner, runner_id}
use Rattle.rules.specs.Sound.{ends_rule, interval_rule, link_rule, pair_rule, armed_rule, watches_rule}
use Rattle.rules.specs.Calls.{arm, arm_entry, bad_interval, disarm, drop_monitors, drop_timers, link_for, link_of, monitor_for, tie, timer_for, unwatch, watch}
use Rattle.rules.proofs.Frames.Pools.{Ends, own_ends, own_none, use_ends, next_slot_lem, begins-sound, ends-sound, use_begins, own_is}
use Rattle.rules.proofs.Claims.{Keeps}
use Rattle.rules.proofs.Frames.Wrote.{wrote_none}
use Rattle.rules.proofs.Frames.Actions.{wrote_tie}
use Rattle.rules.specs.Good.{Good}
use Rattle.rules.proofs.Guards.{Passed, third_passed, second_passed, fourth_passed}
use Rattle.rules.proofs.Kept.Groups as Part
use Rattle.rules.proofs.Kept.Patch.{◌by◌also◌, done, patch}
use Rattle.rules.proofs.Lists.Columns.{alive-of, each_set, other}
use Rattle.rules.proofs.Reckoned.Ledger.{runner-alive}
use Rattle.rules.proofs.Lists.Ties.{down, below, joins-zero, pairs_set}
use Rattle.rules.proofs.Kept.Clauses.{clock_fits, interval_none}

-- ---- timers
module _ (k : Caps) (s : State) (g : Good k s) where
  -- a timer begins
  pub arm_keeps : (i a time interval : ℕ) → i < k.timers → at s TIMER-AGE i < OLDEST → alive (s STATE) a ≡ true →
      time ≤ DUE-END → Holds (interval_rule interval) → Good k (arm s i a time interval)
  unfolding begin_use poke with_col
  arm_keeps i a time interval l y h x z =
      let b = use_begins timer_pool s i (suc a) (time ∷ interval ∷ []) refl refl in
      let m : i < length (s TIMER-OWNER) = omega (arith, g.sized.words TIMER-OWNER (lit< tt)) in
      patch k g b.wrote (Part.timers by
      (λ j n. begins-sound timer_pool armed_rule s (arm s i a time interval) i (suc a) b m (omega (arith, g.sized.words TIMER-AGE (lit< tt))) (λ q. omega arith) y
      (rw (
        get_or-set_same (s TIMER-OWNER) i (suc a) 0 m,
        get_or-set_same (s DUE) i time 0 (omega (arith, g.sized.words DUE (lit< tt))),
        get_or-set_same
            (s INTERVAL) i interval 0 (omega (arith, g.sized.words INTERVAL (lit< tt))),
        down a,
      ) (h, (x, z)))
      (λ j q r. rw (b.others TIMER-OWNER j q, b.others DUE j q, b.others INTERVAL j q) r) j (g.timers j n)) also done) refl

-- timers that end leave a sound state sound
timers-end_keeps : (k : Caps) (s u : State) (p : ℕ → Bool) → Good k s → Ends timer_pool p s u → Good k u
timers-end_keeps k s u p g t =
    patch k g t.wrote (Part.timers by
    (λ i l. ends-sound timer_pool armed_rule s u p t refl i (λ q h. rw (t.gone TIMER-OWNER refl i, t.gone DUE refl i, t.gone INTERVAL refl i, t.wrote.cols STATE refl, q) h) (g.timers i l)) also done) refl

-- one does
pub disarm_keeps : (k : Caps) (s : State) (i : ℕ) → Good k s → i < k.timers → Good k (disarm s i)
disarm_keeps k s i g l = timers-end_keeps k s (disarm s i) (λ e. eqb e i) g (use_ends timer_pool s i)

-- "A one-shot .. a periodic one": a call that makes a timer keeps a sound state sound
pub armed_keeps : (delay interval : ℕ) (bad : Bool) → delay ≤ LONGEST → Holds (interval_rule interval) → (k : Caps) (s : State) → Good k s →
    Passed ((arm_entry delay interval bad).tests k s) → Good k ((arm_entry delay interval bad).work k s).state
armed_keeps delay interval bad d n k s g p =
    let i = timer_for k s in
    let y = ltb-true i k.timers (not-false (ltb i k.timers) (third_passed p)) in
    let f = next_slot_lem timer_pool k s y in
    arm_keeps k s g i (runner s - 1) (head s CLOCK + delay) interval y f.1 (runner-alive k s g p.0) (omega (arith, clock_fits g)) n

-- a one-shot
pub after_keeps : (delay : ℕ) → Keeps (after delay)
after_keeps delay k s g p = armed_keeps delay 0 (ltb LONGEST delay) (ltb-false LONGEST delay (second_passed p)) interval_none k s g p

-- an interval that is taken is in range
pub interval_taken : (interval : ℕ) → bad_interval interval ≡ false → (SHORTEST-INTERVAL ≤ interval) × (interval ≤ LONGEST)
interval_taken interval h =
    let (short, long) = neither (ltb interval SHORTEST-INTERVAL) (ltb LONGEST interval) h in
    (ltb-false interval SHORTEST-INTERVAL short, ltb-false LONGEST interval long)

-- a periodic one
pub every_keeps : (interval : ℕ) → Keeps (every interval)
every_keeps interval k s g p =
    let (least, most) = interval_taken interval (second_passed p) in
    armed_keeps interval interval (bad_interval interval) most (most, λ periodic. omega (arith, least)) k s g p

-- taking a timer back keeps a sound state sound
pub cancel_keeps : (id : ℕ) → Keeps (cancel id)
cancel_keeps id k s g p = disarm_keeps k s (slot_of TIMER-FACTOR id) g (own_is timer_pool s id k.timers (omega arith) (g.sized.words TIMER-OWNER (lit< tt)) (second_passed p)).0

-- ---- actors by their ids, and links
module _ (k : Caps) (s : State) (g : Good k s) where
  -- the slot of an actor's id is alive
  pub actor_alive : (id : ℕ) → is_actor s id ≡ true → alive (s STATE) (slot_of ACTOR-FACTOR id) ≡ true
  actor_alive id q = alive-of (s STATE) (slot_of ACTOR-FACTOR id) (of_live ACTOR-FACTOR (s STATE) (s AGE) id q).0

  -- another than the running actor has another slot
  pub actor_other : (id : ℕ) → eqb (runner s) 0 ≡ false → is_actor s id ≡ true → eqb id (runner_id s) ≡ false → runner s ≡ suc (slot_of ACTOR-FACTOR id) → ⊥
  actor_other id h q e z =
      let w : slot_of ACTOR-FACTOR id ≡ runner s - 1 = omega arith in
      eqb-false id (runner_id s) e (live_is ACTOR-FACTOR (s STATE) (s AGE) id (omega arith) q ∙ ap (λ (x : ℕ). id_of ACTOR-FACTOR (at s AGE x) x) w)

  -- ---- links
  -- a link begins or ends
  pub tied_keeps : (e a b : ℕ) → e < k.links → (a ≡ 0 → b ≡ 0) → ((a ≡ 0 → ⊥) → Holds (ends_rule (s STATE) a b)) →
      ((d : ℕ) → d < k.links → ((a ≡ 0 → ⊥) ⊎ (at s LINK-ONE d ≡ 0 → ⊥)) → joins (s LINK-ONE) (s LINK-TWO) a b d ≡ false) → Good k (tie s e a b)
  unfolding tie poke with_col pair_rule
  tied_keeps e a b l free used f =
      let m₁ : e < length (s LINK-ONE) = omega (arith, g.sized.words LINK-ONE (lit< tt)) in
      let m₂ : e < length (s LINK-TWO) = omega (arith, g.sized.words LINK-TWO (lit< tt)) in
      patch k g (wrote_tie (wrote_none s) e a b) (Part.links by
      (λ j m. each_set (λ j. Holds (link_rule (tie s e a b) j)) e j
      (rw (get_or-set_same (s LINK-ONE) e a 0 m₁, get_or-set_same (s LINK-TWO) e b 0 m₂) (free, used))
      (λ r. rw (other (s LINK-ONE) e a j r, other (s LINK-TWO) e b j r) (g.links j m))) also
      Part.pairs by (pairs_set k.links (s LINK-ONE) (s LINK-TWO) g.pairs e a b m₁ m₂ f) also done) refl

  -- one ends
  pub untie_keeps : (e : ℕ) → e < k.links → Good k (tie s e 0 0)
  untie_keeps e l =
      tied_keeps e 0 0 l (λ z. refl) (λ z. absurd (z refl)) (λ d m o. ⊎_elim (λ z. absurd (z refl)) (joins-zero (s LINK-ONE) (s LINK-TWO) d) o)

-- linking keeps a sound state sound
pub link_keeps : (partner : ℕ) → Keeps (link partner)
link_keeps partner k s g p =
    let b = suc (slot_of ACTOR-FACTOR partner) in
    let h = p.0 in
    let r = not-false (is_actor s partner) (third_passed p) in
    let there : alive (s STATE) (b - 1) ≡ true = rw (down (slot_of ACTOR-FACTOR partner)) (actor_alive k s g partner r) in
    split (ltb (link_of k s (runner s) b) k.links) (λ v. rw v g)
    (λ v. let w : not (ltb (link_for k s) k.links) ≡ false = rw v at (fourth_passed p) in
    rw v (tied_keeps k s g (link_for k s) (runner s) b (ltb-true (link_for k s) k.links (not-false (ltb (link_for k s) k.links) w))
    (λ z. absurd (eqb-false (runner s) 0 h z))
    (λ z. ((omega arith, runner-alive k s g h), ((omega arith, there), actor_other k s g partner h r (second_passed p))))
    (λ d m o. lowest-first (joins (s LINK-ONE) (s LINK-TWO) (runner s) b) k.links d (omega (arith, ltb-false (link_of k s (runner s) b) k.links v)))))

-- and unlinking
pub unlink_keeps : (partner : ℕ) → Keeps (unlink partner)
unlink_keeps partner k s g p =
    let e = link_of k s (runner s) (suc (slot_of ACTOR-FACTOR partner)) in
    untie_keeps k s g e (ltb-true e k.links (and_right (is_actor s partner) (ltb e k.links) (not-false (is_actor s partner && ltb e k.links) (second_passed p))))

-- ---- monitors
module _ (k : Caps) (s : State) (g : Good k s) where
  -- a monitor begins
  pub watch_keeps : (i a b : ℕ) → i < k.monitors → at s MONITOR-AGE i < OLDEST → (a ≡ 0 → ⊥) → (b ≡ 0 → ⊥) → alive (s STATE) (a - 1) ≡ true → alive (s STATE) (b - 1) ≡ true →
      (a ≡ b → ⊥) → Good k (watch s i a b)
  unfolding begin_use poke with_col
  watch_keeps i a b l y p q x z n =
      let c = use_begins monitor_pool s i a (b ∷ []) refl refl in
      let m : i < length (s WATCHER) = omega (arith, g.sized.words WATCHER (lit< tt)) in
      patch k g c.wrote (Part.monitors by
      (λ j o. begins-sound monitor_pool watches_rule s (watch s i a b) i a c m (omega (arith, g.sized.words MONITOR-AGE (lit< tt))) p y
      (rw (get_or-set_same (s WATCHER) i a 0 m, get_or-set_same (s WATCHED) i b 0 (omega (arith, g.sized.words WATCHED (lit< tt)))) ((omega arith, x), ((omega arith, z), n)))
      (λ j q r. rw (c.others WATCHER j q, c.others WATCHED j q) r) j (g.monitors j o)) also done) refl

-- monitors that end leave a sound state sound
monitors-end_keeps : (k : Caps) (s u : State) (p : ℕ → Bool) → Good k s → Ends monitor_pool p s u → Good k u
monitors-end_keeps k s u p g t =
    patch k g t.wrote (Part.monitors by
    (λ i l. ends-sound monitor_pool watches_rule s u p t refl i (λ q h. rw (t.gone WATCHER refl i, t.gone WATCHED refl i, t.wrote.cols STATE refl, q) h) (g.monitors i l)) also done) refl

-- one does
pub unwatch_keeps : (k : Caps) (s : State) (i : ℕ) → Good k s → i < k.monitors → Good k (unwatch s i)
unwatch_keeps k s i g l = monitors-end_keeps k s (unwatch s i) (λ e. eqb e i) g (use_ends monitor_pool s i)

-- monitoring keeps a sound state sound
pub monitor_keeps : (target : ℕ) → Keeps (monitor target)
monitor_keeps target k s g p =
    let i = monitor_for k s in
    let r = not-false (is_actor s target) (third_passed p) in
    let m = ltb-true i k.monitors (not-false (ltb i k.monitors) (fourth_passed p)) in
    let f = next_slot_lem monitor_pool k s m in
    watch_keeps k s g i (runner s) (suc (slot_of ACTOR-FACTOR target)) m f.1 (eqb-false (runner s) 0 p.0) (λ z. omega arith) (runner-alive k s g p.0)
    (rw (down (slot_of ACTOR-FACTOR target)) (actor_alive k s g target r)) (actor_other k s g target p.0 r (second_passed p))

-- and taking a monitor back
pub demonitor_keeps : (id : ℕ) → Keeps (demonitor id)
demonitor_keeps id k s g p = unwatch_keeps k s (slot_of MONITOR-FACTOR id) g (own_is monitor_pool s id k.monitors (omega arith) (g.sized.words WATCHER (lit< tt)) (second_passed p)).0

-- ---- an actor's own monitors and timers end
module _ (k : Caps) (a : ℕ) (s : State) where
  -- all timers of slot a
  pub drop_timers_keeps : Good k s → Good k (drop_timers a k.timers s)
  drop_timers_keeps g = timers-end_keeps k s (drop_timers a k.timers s) (below (s TIMER-OWNER) (suc a) k.timers) g (own_ends timer_pool a s k.timers)

  pub drop_timers_none : Sized k s → (i : ℕ) → i < k.timers → at (drop_timers a k.timers s) TIMER-OWNER i ≡ suc a → ⊥
  drop_timers_none z = own_none timer_pool a s k.timers

  -- all monitors by which slot a watches
  pub drop_monitors-ends : Sized k s → Ends monitor_pool (below (s WATCHER) (suc a) k.monitors) s (drop_monitors a k.monitors s)
  drop_monitors-ends z = own_ends monitor_pool a s k.monitors

  pub drop_monitors_keeps : Good k s → Good k (drop_monitors a k.monitors s)
  drop_monitors_keeps g = monitors-end_keeps k s (drop_monitors a k.monitors s) (below (s WATCHER) (suc a) k.monitors) g (own_ends monitor_pool a s k.monitors)

  pub drop_monitors_none : Sized k s → (i : ℕ) → i < k.monitors → at (drop_monitors a k.monitors s) WATCHER i ≡ suc a → ⊥
  drop_monitors_none z = own_none monitor_pool a s k.monitors
