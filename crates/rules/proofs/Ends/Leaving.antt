-- The slot of any live actor is given back: what that leaves of the columns, and that a sound runtime stays sound once nothing is the slot's.
use Prim.Native.Nat.{ℕ, suc, ◌-◌, ◌≤◌, ◌<◌}
use native.Mathlib.Omega.{arith}
use mathlib.Core.Path.{◌≡◌, refl, sym, ap, ◌∙◌}
use mathlib.Core.Bool.{Bool, true, false, cond}
use mathlib.Core.List.{List, [], ◌∷◌}
use mir.Val.{bool_byte}
use lib.ListN.{length, get_or, set, take}
use lib.Seq.{get_or-set_same, get_or-set_other, get_or-take, length-take-le}
use lib.Dec.{eqb, ltb, lit<}
use borrow.Author.Tests.{eqb-true, eqb-false, eq-eqb, ne_eqb, ltb-true, ltb-false}
use Rattle.pools.specs.Pool.{occurs}
use Rattle.pools.proofs.BoolLaws.{split, true_false, flag_eq}
use Rattle.pools.proofs.ListLaws.{occurs-place}
use Rattle.pools.proofs.PoolLaws.{lowest-at, lowest-first}
use Rattle.tables.specs.declared.Caps.{Caps}
use Rattle.tables.specs.Columns.{AGE, ARRIVED, BUS-SEATS, BUSES, CLOCK, DEADLINE, DUE, HAND, INTERVAL, ISSUED, LINK-ONE, LINK-TWO, MAIL-DATA, MAIL-FREE, MAIL-OWNER, MONITOR-AGE, PAYLOAD, PRIORITY, QUEUE, QUEUED, REASON, RUNNING, SEAT, SENDER, STATE, TIMER-AGE, TIMER-OWNER, WANT-CLASS, WANT-SENDER, WANT-TAG, WATCHED, WATCHER}
use Rattle.tables.specs.State.{State, at, head, poke, with_col}
use Rattle.tables.specs.Action.{pull}
use Rattle.rules.specs.Rule.{Holds}
use Rattle.rules.specs.Terms.{FREE, RUNNABLE, RUNS, WAITS, alive, runner}
use Rattle.rules.specs.Sound.{actor_rule, ends_rule, unused_rule, once_rule, queue_rule, wait_rule}
use Rattle.rules.specs.Actions.{halt, unwait}
use Rattle.rules.specs.Buses.{in_seat, seat_at}
use Rattle.rules.specs.Aged.{end_use}
use Rattle.rules.specs.Calls.{loosen, place_of, unqueue, vacate}
use Rattle.rules.proofs.Frames.Wrote.{Beside, Wrote, beside_of, beside_poke, beside_pull, beside_still, beside_within, mem, wrote_none, wrote_poke, wrote_pull, wrote_within}
use Rattle.rules.proofs.Frames.Actions.{wrote_unwait}
use Rattle.rules.specs.Good.{Good}
use Rattle.rules.proofs.Kept.Groups as Part
use Rattle.rules.proofs.Kept.Patch.{◌by◌also◌, done, patch}
use Rattle.rules.proofs.Lists.Columns.{alive-other, each_set, listed_leaves, once_leaves, other, set-zero}
use Rattle.rules.proofs.Lists.Each.{all_one}
use Rattle.rules.proofs.Reckoned.Ledger.{alive_slot}
use Rattle.rules.proofs.Lists.Ties.{set-cond}
use Rattle.rules.proofs.Ends.Steps.{Bared, Gone, SLOTTED, of-gone, of_zero}
use Rattle.rules.proofs.Kept.Clauses.{arrivals-fit, buses-fit, clock_fits, queue-fits, rows_live_on, runner-fits, seat_lives, values-fit}

-- ---- a column of which word a alone became 0
pub record Zeroed (a : ℕ) (l m : List ℕ) : Type 0 where
  pub is : (e : ℕ) → get_or m e 0 ≡ cond (eqb e a) 0 (get_or l e 0)

-- word a
pub zero-at : {a : ℕ} {l m : List ℕ} → Zeroed a l m → get_or m a 0 ≡ 0
zero-at {a = a} z = z.is a ∙ rw (eq-eqb a a refl)

-- another
pub zero_else : {a : ℕ} {l m : List ℕ} → Zeroed a l m → (e : ℕ) → eqb e a ≡ false → get_or m e 0 ≡ get_or l e 0
zero_else z e q = z.is e ∙ rw q

-- it was 0
zero_was : {a : ℕ} {l : List ℕ} → get_or l a 0 ≡ 0 → Zeroed a l l
zero_was {a = a} {l = l} h = record { is = λ e. split (eqb e a) (λ q. rw (q, eqb-true e a q) h) (λ q. rw q) }

-- ---- what is left where slot a was given back
abbrev pub LEFT : List ℕ
LEFT = STATE ∷ PRIORITY ∷ REASON ∷ WANT-SENDER ∷ WANT-CLASS ∷ WANT-TAG ∷ DEADLINE ∷ RUNNING ∷ QUEUED ∷ QUEUE ∷ []

-- it writes these columns; nothing is asked
pub beside_vacate : (s : State) (a : ℕ) → Beside LEFT s (vacate s a)
unfolding vacate end_use loosen unqueue
beside_vacate s a =
    split (eqb (runner s) (suc a))
    (λ r. rw r (beside_within LEFT (beside_poke (beside_poke (beside_poke (beside_still [] s) RUNNING 0 0) STATE a FREE) PRIORITY a 0) refl))
    (λ r. split (eqb (at s STATE a) RUNNABLE)
    (λ q. rw (r, q) (beside_within LEFT (beside_poke (beside_poke (beside_poke (beside_pull (beside_still [] s) QUEUE QUEUED (place_of s a)) REASON a 0) STATE a FREE) PRIORITY a 0) refl))
    (λ q. rw (r, q) (beside_within LEFT (beside_poke (beside_poke (beside_of (wrote_unwait (wrote_none s) a)) STATE a FREE) PRIORITY a 0) refl)))

-- slot a is free: its words are 0, it runs no more, and it is not in the queue
pub record Vacated (k : Caps) (a : ℕ) (s u : State) : Type 0 where
  pub wrote : Wrote LEFT s u
  pub state : u STATE ≡ set (s STATE) a 0
  pub level : Zeroed a (s PRIORITY) (u PRIORITY)
  pub reason : Zeroed a (s REASON) (u REASON)
  pub wants : Zeroed a (s WANT-SENDER) (u WANT-SENDER) × Zeroed a (s WANT-CLASS) (u WANT-CLASS) × Zeroed a (s WANT-TAG) (u WANT-TAG) ×
      Zeroed a (s DEADLINE) (u DEADLINE)
  pub runs : runner u ≡ cond (eqb (runner s) (suc a)) 0 (runner s)
  pub queued : head u QUEUED ≤ head s QUEUED
  pub queue : (i : ℕ) → i < k.actors → Holds (queue_rule k u i)
  pub once : (b : ℕ) → b < k.actors → Holds (once_rule u b)

-- ---- the three cases
module _ (k : Caps) (s : State) (a : ℕ) (g : Good k s) (there : alive (s STATE) a ≡ true) where
  -- it is one of the slots
  slot : a < k.actors
  slot = alive_slot k s g a there

  -- a column of a word for each slot
  put : {c : ℕ} → length (s c) ≡ k.actors → Zeroed a (s c) (set (s c) a 0)
  put {c} h = record { is = λ e. set-cond (s c) a 0 e (omega (arith, slot)) }

  -- where slot a is not in the queue, the queue is as it was
  still : eqb (at s STATE a) RUNNABLE ≡ false → (b : ℕ) → b < k.actors → occurs b (take (head s QUEUED) (s QUEUE)) ≡ bool_byte (eqb (get_or (set (s STATE) a 0) b 0) RUNNABLE)
  still n b h = each_set (λ b. b < k.actors → occurs b (take (head s QUEUED) (s QUEUE)) ≡ bool_byte (eqb (get_or (set (s STATE) a 0) b 0) RUNNABLE)) a b
      (λ h. rw (set-zero (s STATE) a) (rw n at (g.once a h)))
      (λ q h. rw (other (s STATE) a 0 b q) (g.once b h)) h

  -- it runs
  ran : runner s ≡ suc a → Vacated k a s (poke (poke (halt s) STATE a FREE) PRIORITY a 0)
  unfolding poke with_col
  ran run =
      let u : at s STATE a ≡ RUNS = flag_eq (at s STATE a) RUNS (g.runs a slot ∙ rw (eq-eqb (runner s) (suc a) run)) in
      let i = (g.unused_words a slot).1 in
      let w = i.1 (λ e. omega (arith, u)) in
      record {
        wrote = wrote_within LEFT (wrote_poke (wrote_poke (wrote_poke (wrote_none s) RUNNING 0 0) STATE a FREE) PRIORITY a 0) refl;
        state = refl;
        level = put (g.sized.words PRIORITY (lit< tt));
        reason = zero_was (i.0 (λ e. omega (arith, u)));
        wants = (zero_was w.0.0, zero_was w.0.1, zero_was w.1.0, zero_was w.1.1);
        runs = set-zero (s RUNNING) 0 ∙ rw (eq-eqb (runner s) (suc a) run);
        queued = omega arith;
        queue = g.queue;
        once = still (rw u);
      }

  -- it waits
  waited : eqb (runner s) (suc a) ≡ false → eqb (at s STATE a) RUNNABLE ≡ false → Vacated k a s (poke (poke (unwait s a) STATE a FREE) PRIORITY a 0)
  unfolding unwait poke with_col
  waited r n = record {
    wrote = wrote_within LEFT (wrote_poke (wrote_poke (wrote_unwait (wrote_none s) a) STATE a FREE) PRIORITY a 0) refl;
    state = refl;
    level = put (g.sized.words PRIORITY (lit< tt));
    reason = zero_was ((g.unused_words a slot).1.0 (eqb-false (at s STATE a) RUNNABLE n));
    wants = let z = g.sized.words in (put (z WANT-SENDER (lit< tt)), put (z WANT-CLASS (lit< tt)), put (z WANT-TAG (lit< tt)), put (z DEADLINE (lit< tt)));
    runs = rw r;
    queued = omega arith;
    queue = g.queue;
    once = still n;
  }

  -- its place in the queue
  pub stands : at s STATE a ≡ RUNNABLE → (place_of s a < head s QUEUED) × (at s QUEUE (place_of s a) ≡ a)
  stands u =
      let n = head s QUEUED in
      let f : ℕ → Bool = λ i. eqb (at s QUEUE i) a in
      let m : length (take n (s QUEUE)) ≡ n = length-take-le n (s QUEUE) (omega (arith, queue-fits g, g.sized.words QUEUE (lit< tt))) in
      let o : occurs a (take n (s QUEUE)) ≡ 1 = g.once a slot ∙ rw u in
      let p = occurs-place a (take n (s QUEUE)) (omega (arith, o)) in
      let l : p.0 < n = omega (arith, p.1, m) in
      let e : at s QUEUE p.0 ≡ a = sym (get_or-take n (s QUEUE) p.0 0 l) ∙ p.2 in
      split (ltb (place_of s a) n)
      (λ q. let h = ltb-true (place_of s a) n q in (h, eqb-true (at s QUEUE (place_of s a)) a (lowest-at f n h)))
      (λ q. true_false (f p.0) (eq-eqb (at s QUEUE p.0) a e) (lowest-first f n p.0 (omega (arith, ltb-false (place_of s a) n q))))

  -- it is runnable
  stood : eqb (runner s) (suc a) ≡ false → at s STATE a ≡ RUNNABLE → Vacated k a s (poke (poke (unqueue s a) STATE a FREE) PRIORITY a 0)
  unfolding unqueue pull poke with_col
  stood r u =
      let j = place_of s a in
      let p = stands u in
      let w = (g.unused_words a slot).1.1 (λ e. omega (arith, u)) in
      let z = g.sized.words QUEUE (lit< tt) in
      let less : get_or (set (s QUEUED) 0 (head s QUEUED - 1)) 0 0 ≡ head s QUEUED - 1 = get_or-set_same (s QUEUED) 0 (head s QUEUED - 1) 0 (omega (arith, g.sized.words QUEUED (lit< tt))) in
      record {
        wrote = wrote_within LEFT (wrote_poke (wrote_poke (wrote_poke (wrote_pull (wrote_none s) QUEUE QUEUED j p.0 (omega (arith, queue-fits g, z))) REASON a 0) STATE a FREE) PRIORITY a 0) refl;
        state = refl;
        level = put (g.sized.words PRIORITY (lit< tt));
        reason = put (g.sized.words REASON (lit< tt));
        wants = (zero_was w.0.0, zero_was w.0.1, zero_was w.1.0, zero_was w.1.1);
        runs = rw r;
        queued = omega (arith, less);
        queue = rw less (listed_leaves k.actors (head s QUEUED) (s QUEUE) (queue-fits g) z g.queue j p.0);
        once = rw less (once_leaves k.actors (head s QUEUED) (s QUEUE) (queue-fits g) z g.queue j p.0
            (λ b. eqb (at s STATE b) RUNNABLE) (λ b. eqb (get_or (set (s STATE) a 0) b 0) RUNNABLE) (rw (p.1, set-zero (s STATE) a)) (λ b n. rw (get_or-set_other (s STATE) a b 0 0 (λ z. n (z ∙ sym p.1)))) g.once);
      }

  -- any of them
  pub vacate_leaves : Vacated k a s (vacate s a)
  unfolding vacate end_use loosen
  vacate_leaves =
      split (eqb (runner s) (suc a))
      (λ r. rw r (ran (eqb-true (runner s) (suc a) r)))
      (λ r. split (eqb (at s STATE a) RUNNABLE) (λ q. rw (r, q) (stood r (eqb-true (at s STATE a) RUNNABLE q))) (λ q. rw (r, q) (waited r q)))

-- ---- sound as before
-- who is not slot a lives on
stays : (st : List ℕ) (a x : ℕ) → 1 ≤ x → (x ≡ suc a → ⊥) → alive st (x - 1) ≡ true → alive (set st a 0) (x - 1) ≡ true
stays st a x l n h = alive-other st a 0 (x - 1) (λ z. n (omega arith)) ∙ h

-- both ends of a link or a monitor do
ends_stay : (st : List ℕ) (a one two : ℕ) → (one ≡ suc a → ⊥) → (two ≡ suc a → ⊥) → Holds (ends_rule st one two) → Holds (ends_rule (set st a 0) one two)
ends_stay st a one two n m h = ((h.0.0, stays st a one h.0.0 n h.0.1), ((h.1.0.0, stays st a two h.1.0.0 m h.1.0.1), h.1.1))

-- the columns of which nothing may be a slot's that is given back
abbrev pub OWNED : List ℕ
OWNED = MAIL-OWNER ∷ HAND ∷ LINK-ONE ∷ LINK-TWO ∷ WATCHER ∷ WATCHED ∷ TIMER-OWNER ∷ SEAT ∷ []

-- THE LAW of a slot that is given back: sound as before, once it owns nothing and nothing is aimed at it
pub vacated_keeps : (k : Caps) (s u : State) (a : ℕ) → Good k s → Bared OWNED a s → Vacated k a s u → Good k u
unfolding with_col
vacated_keeps k s u a g bare v =
    let c = v.wrote.cols in
    let w = v.wants in
    let zero : at u STATE a ≡ 0 = ap (λ (l : List ℕ). get_or l a 0) v.state ∙ set-zero (s STATE) a in
    let else : (b : ℕ) → eqb b a ≡ false → at u STATE b ≡ at s STATE b = λ b q. ap (λ (l : List ℕ). get_or l b 0) v.state ∙ other (s STATE) a 0 b q in
    let none : (c : ℕ) → mem c OWNED ≡ true → mem c SLOTTED ≡ false → (e : ℕ) → at s c e ≡ suc a → ⊥ = λ c m n. of-gone c a (s c) n (all_one (λ c. Gone c a (s c)) OWNED bare c m) in
    let hand : at s HAND a ≡ 0 = of_zero HAND a (s HAND) refl (all_one (λ c. Gone c a (s c)) OWNED bare HAND refl) in
    patch k g v.wrote (
    Part.head by (rw (c CLOCK refl, c ARRIVED refl, c ISSUED refl, c BUSES refl) (
      (clock_fits g, split (eqb (runner s) (suc a)) (λ q. rw (v.runs, q) (omega arith)) (λ q. rw (v.runs, q) (runner-fits g))),
      ((omega (arith, v.queued, queue-fits g), arrivals-fit g), (values-fit g, buses-fit g)),
    )) also
    Part.actors by (λ b h. each_set (λ b. b < k.actors → Holds (actor_rule k u b)) a b
    (λ h. let x = g.actors a h in rw (zero, zero-at v.level, zero-at v.reason, c AGE refl, c HAND refl) ((omega arith, (omega arith, omega arith)), ((x.1.0.0, λ e. refl), x.1.1)))
    (λ q h. rw (else b q, zero_else v.level b q, zero_else v.reason b q, c AGE refl, c HAND refl) (g.actors b h)) h) also
    Part.unused_words by (λ b h. each_set (λ b. b < k.actors → Holds (unused_rule u b)) a b
    (λ h. rw (zero, zero-at v.level, zero-at v.reason, zero-at w.0, zero-at w.1, zero-at w.2, zero-at w.3, c HAND refl)
    (λ e. (refl, hand), (λ e. refl, λ e. ((refl, refl), (refl, refl)))))
    (λ q h. rw (else b q, zero_else v.level b q, zero_else v.reason b q, c HAND refl)
    (rw (zero_else w.0 b q, zero_else w.1 b q, zero_else w.2 b q, zero_else w.3 b q) (g.unused_words b h))) h) also
    Part.waits by (λ b h. each_set (λ b. b < k.actors → Holds (wait_rule u b)) a b
    (λ h. rw (zero-at w.1, zero-at w.2, zero-at w.3)
    (omega arith, ((omega arith, λ e. absurd (omega arith)), λ e. absurd (e refl))))
    (λ q h. rw (zero_else w.1 b q, zero_else w.2 b q, zero_else w.3 b q, c CLOCK refl) (g.waits b h)) h) also
    Part.runs by (λ b h. each_set (λ b. b < k.actors → bool_byte (eqb (at u STATE b) RUNS) ≡ bool_byte (eqb (runner u) (suc b))) a b
    (λ h. rw (zero, v.runs) (split (eqb (runner s) (suc a)) (λ q. rw (q, ne_eqb 0 (suc a) (λ e. omega arith))) (λ q. rw (q, q))))
    (λ q h. rw (else b q, v.runs) (split (eqb (runner s) (suc a))
    (λ r. rw (r, ne_eqb 0 (suc b) (λ e. omega arith)) (g.runs b h ∙ rw (ne_eqb (runner s) (suc b) (λ e. eqb-false b a q (omega (arith, eqb-true (runner s) (suc a) r))))))
    (λ r. rw r (g.runs b h)))) h) also
    Part.queue by v.queue also
    Part.once by v.once also
    Part.mails by (λ e h. rw (c MAIL-FREE refl, c MAIL-OWNER refl, c MAIL-DATA refl, v.state)
    ((g.mails e h).0, λ p. let x = (g.mails e h).1 p in ((x.0.0, stays (s STATE) a (at s MAIL-OWNER e) x.0.0 (none MAIL-OWNER refl refl e) x.0.1), x.1))) also
    Part.filters by (λ e h. rw (c MAIL-FREE refl, c MAIL-OWNER refl, c MAIL-DATA refl, c SENDER refl, c PAYLOAD refl) (λ p. split (eqb (at s MAIL-OWNER e - 1) a)
    (λ q. absurd (let y : at u STATE a ≡ WAITS = rw (eqb-true (at s MAIL-OWNER e - 1) a q) at p.1 in omega (arith, zero)))
    (λ q. let b = at s MAIL-OWNER e - 1 in rw (zero_else w.0 b q, zero_else w.1 b q, zero_else w.2 b q)
    (g.filters e h (p.0, rw (else b q) at p.1))))) also
    Part.links by (λ e h. rw (c LINK-ONE refl, c LINK-TWO refl, v.state) (
      (g.links e h).0,
      λ p. ends_stay (s STATE) a (at s LINK-ONE e) (at s LINK-TWO e) (none LINK-ONE refl refl e) (none LINK-TWO refl refl e)
          ((g.links e h).1 p),
    )) also
    Part.monitors by (λ i h. rw (c WATCHER refl, c WATCHED refl, c MONITOR-AGE refl, v.state) (
      (g.monitors i h).0,
      (
        (g.monitors i h).1.0,
        λ p. ends_stay (s STATE) a (at s WATCHER i) (at s WATCHED i) (none WATCHER refl refl i)
            (none WATCHED refl refl i) ((g.monitors i h).1.1 p),
      ),
    )) also
    Part.timers by (λ i h. rw (c TIMER-OWNER refl, c TIMER-AGE refl, c DUE refl, c INTERVAL refl, v.state) (
      (g.timers i h).0,
      (
        (g.timers i h).1.0,
        λ p. let x = (g.timers i h).1.1 p in
            (stays (s STATE) a (at s TIMER-OWNER i) (omega (arith, p)) (none TIMER-OWNER refl refl i) x.0, x.1),
      ),
    )) also
    Part.rows by (rw (c BUS-SEATS refl, c SEAT refl, v.state) (rows_live_on g (set (s STATE) a 0)
    (λ b n h m p. stays (s STATE) a (in_seat s b n) (omega (arith, p)) (none SEAT refl refl (seat_at b n)) (seat_lives g b n h m p)))) also
    done) refl
