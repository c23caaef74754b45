-- The calls that say who runs keep a sound runtime sound.
use Prim.Native.Nat.{ℕ, suc, ◌+◌, ◌-◌, ◌≤◌, ◌<◌}
use native.Mathlib.Omega.{arith}
use mathlib.Core.Path.{◌≡◌, refl, sym, ◌∙◌}
use mathlib.Core.Bool.{true, false, not}
use mathlib.Core.List.{List}
use mir.Val.{bool_byte}
use lib.ListN.{length, get_or, set, take}
use lib.Seq.{get_or-set_same, get_or-set_other, get_or-take, length-take-le}
use lib.Dec.{T, eqb, ltb, lit<}
use borrow.Author.Tests.{eqb-true, eqb-false, eq-eqb, ne_eqb, ltb-true, ltb-false, not-false}
use Rattle.pools.proofs.BoolLaws.{split, flag_pos}
use Rattle.pools.specs.Bits.{free}
use Rattle.pools.specs.Slot.{age_of, slot_of}
use Rattle.pools.proofs.ListLaws.{occurs-pos}
use Rattle.ledger.specs.Call.Op.{spawn, next, yield}
use Rattle.tables.specs.declared.Caps.{Caps}
use Rattle.tables.specs.Columns.{AGE, DEADLINE, MAIL-DATA, MAIL-FREE, MAIL-OWNER, PRIORITY, QUEUE, QUEUED, REASON, REST, RUNNING, STATE, WANT-CLASS, WANT-SENDER, WANT-TAG}
use Rattle.tables.specs.Limits.{ACTOR-FACTOR, LAST-LEVEL, LEVELS, OLDEST}
use Rattle.tables.specs.State.{State, at, head, with_col, poke, size}
use Rattle.tables.specs.Action.{push, pull}
use Rattle.rules.specs.Aged.{actor_pool}
use Rattle.rules.specs.Rule.{both, eq, Holds, imp, is}
use Rattle.rules.specs.Terms.{FREE, RUNNABLE, RUNS, TIMEOUT, WAITS, alive, awaits, runner}
use Rattle.rules.specs.Sound.{actor_rule, unused_rule, pair_rule, run_rule, sender_rule, wait_rule}
use Rattle.rules.specs.Actions.{halt, ready, unwait, wake}
use Rattle.rules.specs.Calls.{first_head, run, slot_for}
use Rattle.rules.proofs.Frames.Pools.{next_slot_lem}
use Rattle.rules.proofs.Claims.{Keeps}
use Rattle.rules.proofs.Frames.Wrote.{wrote_none, wrote_poke}
use Rattle.rules.proofs.Frames.Actions.{wrote_ready, wrote_run, wrote_unwait}
use Rattle.rules.specs.Good.{Good}
use Rattle.rules.proofs.Guards.{first-passed, second_passed}
use Rattle.rules.proofs.Kept.Clauses.{arrivals-fit, buses-fit, clock_fits, hand_fits, link_ends, links_live_on, mail_owner_lives, mails_live_on, monitor-ends}
use Rattle.rules.proofs.Kept.Clauses.{monitors_live_on, queue-fits, read_back, rows_live_on, runner-fits, seat_lives, timer_owner_lives, timers_live_on, values-fit, wait_unused}
use Rattle.rules.proofs.Kept.Groups as Part
use Rattle.rules.proofs.Kept.Patch.{◌by◌also◌, done, patch, patch_living}
use Rattle.rules.proofs.Lists.Columns.{Listed, Once, alive_grows, alive-same, each_set, listed_at, listed-joins, listed_leaves, listed_room, once-joins, once_leaves, other, set-zero}
use Rattle.rules.proofs.Reckoned.Ledger.{runner-runs}

module _ (k : Caps) (s : State) (g : Good k s) where
  -- a word column has its size
  pub col : (c : ℕ) → T (ltb c REST) → length (s c) ≡ size k c
  col c t = g.sized.words c (lit< t)

  -- a slot that is not runnable leaves room in the queue
  pub queue_room : (a : ℕ) → a < k.actors → eqb (at s STATE a) RUNNABLE ≡ false → head s QUEUED < k.actors
  queue_room a l u = listed_room k.actors (head s QUEUED) (s QUEUE) (queue-fits g) (col QUEUE tt) g.queue (λ b. eqb (at s STATE b) RUNNABLE) a l u g.once

  -- the queue's count, one up
  pub one_more : get_or (set (s QUEUED) 0 (head s QUEUED + 1)) 0 0 ≡ head s QUEUED + 1
  one_more = read_back g QUEUED 0 (head s QUEUED + 1) tt (omega arith)

  -- slot a, which was not runnable, joins the queue
  queue-up : (a : ℕ) → a < k.actors → eqb (at s STATE a) RUNNABLE ≡ false → Listed k.actors (head s QUEUED + 1) (set (s QUEUE) (head s QUEUED) a)
  queue-up a l u = listed-joins k.actors (head s QUEUED) (s QUEUE) (queue-fits g) (col QUEUE tt) g.queue a l (queue_room a l u)

  -- and is then runnable
  once-up : (a : ℕ) → a < k.actors → eqb (at s STATE a) RUNNABLE ≡ false
      → Once k.actors (head s QUEUED + 1) (set (s QUEUE) (head s QUEUED) a) (λ b. eqb (get_or (set (s STATE) a RUNNABLE) b 0) RUNNABLE)
  once-up a l u =
      once-joins k.actors (head s QUEUED) (s QUEUE) (queue-fits g) (col QUEUE tt) g.queue (λ b. eqb (at s STATE b) RUNNABLE) (λ b. eqb (get_or (set (s STATE) a RUNNABLE) b 0) RUNNABLE) a (queue_room a l u) u
      (rw (read_back g STATE a RUNNABLE tt l)) (λ b n. rw (get_or-set_other (s STATE) a b RUNNABLE 0 n)) g.once

  -- an actor in use takes another state and reason: the words of each actor are in range
  turned : (a state reason : ℕ) → a < k.actors → (at s STATE a ≡ FREE → ⊥) → state ≤ WAITS → reason ≤ TIMEOUT → (b : ℕ) → b < k.actors →
      Holds (actor_rule k (poke (poke s STATE a state) REASON a reason) b)
  unfolding poke with_col
  turned a state reason l u fits why b h = each_set (λ b. Holds (actor_rule k (poke (poke s STATE a state) REASON a reason) b)) a b
      (let c = g.actors a l in
      rw (read_back g STATE a state tt l, read_back g REASON a reason tt l)
      ((fits, (c.0.1.0, why)), ((c.1.0.0, λ e. absurd (u (c.1.0.1 e))), c.1.1)))
      (λ q. rw (other (s STATE) a state b q, other (s REASON) a reason b q) (g.actors b h))

  -- a slot that does not wait now asks nothing of the filters
  filters-still : (a v : ℕ) → a < k.actors → (v ≡ WAITS → ⊥) → (e : ℕ) → e < k.mails
      → Holds (imp (both (is (not (free (s MAIL-FREE) e))) (eq (get_or (set (s STATE) a v) (at s MAIL-OWNER e - 1) 0) WAITS)) (is (not (awaits s (at s MAIL-OWNER e - 1) (at s MAIL-DATA e - 1)))))
  filters-still a v l n e h p =
      split (eqb (at s MAIL-OWNER e - 1) a)
      (λ q. absurd (n (sym (read_back g STATE a v tt l) ∙ rw (eqb-true (at s MAIL-OWNER e - 1) a q) at p.1)))
      (λ q. g.filters e h (p.0, rw (other (s STATE) a v (at s MAIL-OWNER e - 1) q) at p.1))

-- "A waiting actor becomes runnable": sound as before
pub wake_keeps : (k : Caps) (s : State) (a reason : ℕ) → Good k s → a < k.actors → at s STATE a ≡ WAITS → reason ≤ TIMEOUT → Good k (wake s a reason)
unfolding ready unwait push poke with_col pair_rule
wake_keeps k s a reason g l u r =
    let m = queue_room k s g a l (rw u) in
    let w : alive (set (s STATE) a RUNNABLE) ≡ alive (s STATE) = alive-same (s STATE) a RUNNABLE (λ e. omega (arith, u)) (λ e. omega arith) in
    let is = read_back g STATE a RUNNABLE tt l in
    patch_living k g (wrote_ready (wrote_unwait (wrote_none s) a) a reason) (
    Part.head by (rw (one_more k s g) ((clock_fits g, runner-fits g), ((omega arith, arrivals-fit g), (values-fit g, buses-fit g)))) also
    Part.actors by (turned k s g a RUNNABLE reason l (λ z. omega (arith, u)) (omega arith) r) also
    Part.unused_words by (λ b h. each_set (λ b. Holds (unused_rule (wake s a reason) b)) a b
    (rw (is, set-zero (s WANT-SENDER) a, set-zero (s WANT-CLASS) a, set-zero (s WANT-TAG) a, set-zero (s DEADLINE) a)
    (λ e. absurd (omega arith), (λ e. absurd (e refl), λ e. ((refl, refl), (refl, refl)))))
    (λ q. rw (other (s STATE) a RUNNABLE b q, other (s REASON) a reason b q, other (s WANT-SENDER) a 0 b q, other (s WANT-CLASS) a 0 b q, other (s WANT-TAG) a 0 b q, other (s DEADLINE) a 0 b q) (g.unused_words b h))) also
    Part.waits by (λ b h. each_set (λ b. Holds (wait_rule (wake s a reason) b)) a b
    (rw (set-zero (s WANT-CLASS) a, set-zero (s WANT-TAG) a, set-zero (s DEADLINE) a)
    (omega arith, ((omega arith, λ e. absurd (omega arith)), λ e. absurd (e refl))))
    (λ q. rw (other (s WANT-CLASS) a 0 b q, other (s WANT-TAG) a 0 b q, other (s DEADLINE) a 0 b q) (g.waits b h))) also
    Part.runs by (λ b h. each_set (λ b. Holds (run_rule (wake s a reason) b)) a b
    (rw is (rw u at (g.runs a l)))
    (λ q. rw (other (s STATE) a RUNNABLE b q) (g.runs b h))) also
    Part.queue by (rw (one_more k s g) (queue-up k s g a l (rw u))) also
    Part.once by (rw (one_more k s g) (once-up k s g a l (rw u))) also
    Part.filters by (λ e h p. split (eqb (at s MAIL-OWNER e - 1) a)
    (λ q. absurd (let z : get_or (set (s STATE) a RUNNABLE) a 0 ≡ WAITS = rw (eqb-true (at s MAIL-OWNER e - 1) a q) at p.1 in omega (arith, is)))
    (λ q. rw (other (s WANT-SENDER) a 0 (at s MAIL-OWNER e - 1) q, other (s WANT-CLASS) a 0 (at s MAIL-OWNER e - 1) q, other (s WANT-TAG) a 0 (at s MAIL-OWNER e - 1) q)
    (g.filters e h (p.0, rw (other (s STATE) a RUNNABLE (at s MAIL-OWNER e - 1) q) at p.1)))) also
    done) w refl

-- ---- spawn
-- a sender is of an age that its slot has reached, also once slot a is older
sender_later : (ages : List ℕ) (a : ℕ) → a < length ages → (class sender : ℕ) → Holds (sender_rule ages class sender) → Holds (sender_rule (set ages a (get_or ages a 0 + 1)) class sender)
sender_later ages a l class sender h =
    let age = age_of ACTOR-FACTOR sender in
    let n = get_or ages a 0 + 1 in
    let later : (b : ℕ) → age ≤ get_or ages b 0 → age ≤ get_or (set ages a n) b 0 = λ b. each_set (λ b. age ≤ get_or ages b 0 → age ≤ get_or (set ages a n) b 0) a b
    (λ c. rw (get_or-set_same ages a n 0 l) (omega arith)) (λ q c. rw (other ages a n b q) c) in
    (h.0, λ d. ((h.1 d).0, later (slot_of ACTOR-FACTOR sender) (h.1 d).1))

-- a slot whose use begins, at the tail of its level
born_keeps : (k : Caps) (s : State) (a priority : ℕ) → Good k s → a < k.actors → at s STATE a ≡ FREE → at s AGE a < OLDEST → priority ≤ LAST-LEVEL
    → Good k (ready (poke (poke s AGE a (at s AGE a + 1)) PRIORITY a priority) a 0)
unfolding ready push poke with_col pair_rule
born_keeps k s a priority g l u o r =
    let t : State = ready (poke (poke s AGE a (at s AGE a + 1)) PRIORITY a priority) a 0 in
    let m = queue_room k s g a l (rw u) in
    let st = set (s STATE) a RUNNABLE in
    let grows : (b : ℕ) → alive (s STATE) b ≡ true → alive st b ≡ true = λ b. alive_grows (s STATE) a RUNNABLE b (λ e. omega arith) in
    let later = sender_later (s AGE) a (omega (arith, col k s g AGE tt)) in
    let is = read_back g STATE a RUNNABLE tt l in
    patch k g (wrote_ready (wrote_poke (wrote_poke (wrote_none s) AGE a _) PRIORITY a priority) a 0) (
    Part.head by (rw (one_more k s g) ((clock_fits g, runner-fits g), ((omega arith, arrivals-fit g), (values-fit g, buses-fit g)))) also
    Part.actors by (λ b h. each_set (λ b. Holds (actor_rule k t b)) a b
    (rw (is, set-zero (s REASON) a, read_back g AGE a (at s AGE a + 1) tt l, read_back g PRIORITY a priority tt l)
    ((omega arith, (r, omega arith)), ((omega arith, λ e. absurd (omega arith)), hand_fits g a)))
    (λ q. rw (other (s STATE) a RUNNABLE b q, other (s REASON) a 0 b q, other (s AGE) a (at s AGE a + 1) b q, other (s PRIORITY) a priority b q) (g.actors b h))) also
    Part.unused_words by (λ b h. each_set (λ b. Holds (unused_rule t b)) a b
    (rw is (λ e. absurd (omega arith), (λ e. absurd (e refl), λ e. wait_unused g a l (λ z. omega (arith, u)))))
    (λ q. rw (other (s STATE) a RUNNABLE b q, other (s REASON) a 0 b q, other (s PRIORITY) a priority b q) (g.unused_words b h))) also
    Part.runs by (λ b h. each_set (λ b. Holds (run_rule t b)) a b
    (rw is (rw u at (g.runs a l)))
    (λ q. rw (other (s STATE) a RUNNABLE b q) (g.runs b h))) also
    Part.queue by (rw (one_more k s g) (queue-up k s g a l (rw u))) also
    Part.once by (rw (one_more k s g) (once-up k s g a l (rw u))) also
    Part.mails by (mails_live_on g st (λ e h p. grows _ (mail_owner_lives g e h p))) also
    Part.filters by (filters-still k s g a RUNNABLE l (λ e. omega arith)) also
    Part.datas by (λ d h. let (unused, used) = g.datas d h in
    (unused, λ p. let (message, value) = used p in (λ z. let (front, (sender, tail)) = message z in (front, (later _ _ sender, tail)), value))) also
    Part.links by (links_live_on g st (λ e h p. let ends = link_ends g e h p in (grows _ ends.one_lives, grows _ ends.two_lives))) also
    Part.monitors by (monitors_live_on g st (λ i h p. let ends = monitor-ends g i h p in (grows _ ends.one_lives, grows _ ends.two_lives))) also
    Part.timers by (timers_live_on g st (λ i h p. grows _ (timer_owner_lives g i h p))) also
    Part.rows by (rows_live_on g st (λ b n h m p. grows _ (seat_lives g b n h m p))) also
    done) refl

-- "Spawn takes a priority and puts the actor at the tail of its level": sound as before
pub spawn_keeps : (priority : ℕ) → Keeps (spawn priority)
spawn_keeps priority k s g p =
    let l = ltb-true (slot_for k s) k.actors (not-false (ltb (slot_for k s) k.actors) (second_passed p)) in
    let f = next_slot_lem actor_pool k s l in
    born_keeps k s (slot_for k s) priority g l f.0 f.1 (ltb-false LAST-LEVEL priority (first-passed p))

-- ---- yield
-- the running actor of slot a, at the tail of its level
rest_keeps : (k : Caps) (s : State) (a : ℕ) → Good k s → a < k.actors → runner s ≡ suc a → at s STATE a ≡ RUNS → Good k (ready (halt s) a 0)
unfolding ready push poke with_col pair_rule
rest_keeps k s a g l c u =
    let t : State = ready (halt s) a 0 in
    let m = queue_room k s g a l (rw u) in
    let w : alive (set (s STATE) a RUNNABLE) ≡ alive (s STATE) = alive-same (s STATE) a RUNNABLE (λ e. omega (arith, u)) (λ e. omega arith) in
    let is = read_back g STATE a RUNNABLE tt l in
    let none : get_or (set (s RUNNING) 0 0) 0 0 ≡ 0 = set-zero (s RUNNING) 0 in
    patch_living k g (wrote_ready (wrote_poke (wrote_none s) RUNNING 0 0) a 0) (
    Part.head by (rw (one_more k s g, none) ((clock_fits g, omega arith), ((omega arith, arrivals-fit g), (values-fit g, buses-fit g)))) also
    Part.actors by (turned k s g a RUNNABLE 0 l (λ z. omega (arith, u)) (omega arith) (omega arith)) also
    Part.unused_words by (λ b h. each_set (λ b. Holds (unused_rule t b)) a b
    (rw is (λ e. absurd (omega arith), (λ e. absurd (e refl), λ e. wait_unused g a l (λ z. omega (arith, u)))))
    (λ q. rw (other (s STATE) a RUNNABLE b q, other (s REASON) a 0 b q) (g.unused_words b h))) also
    Part.runs by (λ b h. rw (none, ne_eqb 0 (suc b) (λ e. omega arith)) (each_set (λ b. bool_byte (eqb (get_or (set (s STATE) a RUNNABLE) b 0) RUNS) ≡ 0) a b
    (rw is)
    (λ q. rw (other (s STATE) a RUNNABLE b q) (g.runs b h ∙ rw (c, ne_eqb (suc a) (suc b) (λ e. eqb-false b a q (omega arith))))))) also
    Part.queue by (rw (one_more k s g) (queue-up k s g a l (rw u))) also
    Part.once by (rw (one_more k s g) (once-up k s g a l (rw u))) also
    Part.filters by (filters-still k s g a RUNNABLE l (λ e. omega arith)) also
    done) w refl

-- "Yield puts the running actor at the tail of its level": sound as before
pub yield_keeps : Keeps yield
yield_keeps k s g p =
    let r = runner-runs k s g (first-passed p) in rest_keeps k s (runner s - 1) g r.0 (omega (arith, eqb-false (runner s) 0 (first-passed p))) r.1

-- ---- next
-- who stands in the queue is a runnable actor
pub queue-at : (k : Caps) (s : State) → Good k s → (j : ℕ) → j < head s QUEUED → (at s QUEUE j < k.actors) × (at s STATE (at s QUEUE j) ≡ RUNNABLE)
queue-at k s g j h =
    let l : at s QUEUE j < k.actors = listed_at k.actors (head s QUEUED) (s QUEUE) (queue-fits g) (col k s g QUEUE tt) g.queue j h in
    let n = length-take-le (head s QUEUED) (s QUEUE) (omega (arith, queue-fits g, col k s g QUEUE tt)) in
    let o = occurs-pos (at s QUEUE j) (take (head s QUEUED) (s QUEUE)) j (omega arith) (get_or-take (head s QUEUED) (s QUEUE) j 0 h) in
    (l, eqb-true (at s STATE (at s QUEUE j)) RUNNABLE (flag_pos _ (omega (arith, o, g.once (at s QUEUE j) l))))

-- the actor at place j of the queue runs
run_keeps : (k : Caps) (s : State) (a j : ℕ) → Good k s → at s QUEUE j ≡ a → j < head s QUEUED → runner s ≡ 0 → Good k (run s a j)
unfolding run pull poke with_col pair_rule
run_keeps k s a j g e h c =
    let l : a < k.actors = rw e at (queue-at k s g j h).0 in
    let u : at s STATE a ≡ RUNNABLE = rw e at (queue-at k s g j h).1 in
    let t : State = run s a j in
    let w : alive (set (s STATE) a RUNS) ≡ alive (s STATE) = alive-same (s STATE) a RUNS (λ e. omega (arith, u)) (λ e. omega arith) in
    let is = read_back g STATE a RUNS tt l in
    let one = read_back g RUNNING 0 (suc a) tt (omega arith) in
    let less = read_back g QUEUED 0 (head s QUEUED - 1) tt (omega arith) in
    patch_living k g (wrote_run (wrote_none s) a j h (omega (arith, queue-fits g, col k s g QUEUE tt))) (
    Part.head by (rw (less, one) ((clock_fits g, l), ((omega (arith, queue-fits g), arrivals-fit g), (values-fit g, buses-fit g)))) also
    Part.actors by (turned k s g a RUNS 0 l (λ z. omega (arith, u)) (omega arith) (omega arith)) also
    Part.unused_words by (λ b n. each_set (λ b. Holds (unused_rule t b)) a b
    (rw (is, set-zero (s REASON) a) (λ e. absurd (omega arith), (λ e. refl, λ e. wait_unused g a l (λ z. omega (arith, u)))))
    (λ q. rw (other (s STATE) a RUNS b q, other (s REASON) a 0 b q) (g.unused_words b n))) also
    Part.runs by (λ b n. rw one (each_set (λ b. bool_byte (eqb (get_or (set (s STATE) a RUNS) b 0) RUNS) ≡ bool_byte (eqb (suc a) (suc b))) a b
    (rw (is, eq-eqb (suc a) (suc a) refl))
    (λ q. rw (other (s STATE) a RUNS b q, ne_eqb (suc a) (suc b) (λ e. eqb-false b a q (omega arith))) (g.runs b n ∙ rw (c, ne_eqb 0 (suc b) (λ e. omega arith)))))) also
    Part.queue by (rw less (listed_leaves k.actors (head s QUEUED) (s QUEUE) (queue-fits g) (col k s g QUEUE tt) g.queue j h)) also
    Part.once by (rw less (once_leaves k.actors (head s QUEUED) (s QUEUE) (queue-fits g) (col k s g QUEUE tt) g.queue j h
    (λ b. eqb (at s STATE b) RUNNABLE) (λ b. eqb (get_or (set (s STATE) a RUNS) b 0) RUNNABLE) (rw (e, is)) (λ b n. rw (get_or-set_other (s STATE) a b RUNS 0 (λ z. n (z ∙ sym e)))) g.once)) also
    Part.filters by (filters-still k s g a RUNS l (λ e. omega arith)) also
    done) w refl

-- "Next takes the head of the first non-empty level": sound as before
pub next_keeps : Keeps next
next_keeps k s g p =
    split (ltb (first_head s LEVELS) (head s QUEUED))
    (λ q. rw q (run_keeps k s (at s QUEUE (first_head s LEVELS)) (first_head s LEVELS) g refl (ltb-true (first_head s LEVELS) (head s QUEUED) q) (eqb-true (runner s) 0 (not-false (eqb (runner s) 0) (first-passed p)))))
    (λ q. rw q g)
