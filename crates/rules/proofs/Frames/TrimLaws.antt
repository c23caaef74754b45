-- No action reads or writes what lies past the needed words and bytes: on a state without it, each does what it does on the state.
use Prim.Native.Nat.{ℕ, zero, suc, ◌+◌, ◌-◌, ◌*◌}
use mathlib.Core.Path.{◌≡◌, refl, sym, ap, ◌∙◌, fun_ext}
use mathlib.Core.Bool.{false, cond, not, ◌&&◌}
use mathlib.Core.List.{List}
use lib.ListN.{get_or, set}
use lib.Seq.{sets}
use lib.Dec.{eqb, ltb}
use borrow.Author.Tests.{eqb-true}
use Rattle.pools.specs.Bits.{cleared, released, taken}
use Rattle.pools.proofs.BoolLaws.{split}
use Rattle.records.specs.Header.{packed}
use Rattle.records.specs.Records.{tick_bytes}
use Rattle.tables.specs.declared.Caps.{Caps}
use Rattle.tables.specs.Columns.{BUS-AGE, BUS-READS, BUS-SEATS, BUS-SIZE, BUSES, ISSUE, ISSUED, PUBLISHED, READERS, SEAT, VALUE-BUS}
use Rattle.tables.specs.Columns.{ARRIVAL, ARRIVED, DATA-FREE, DEADLINE, DUE, HAND, INTERVAL, LENGTH, LINK-ONE, LINK-TWO, MAIL-DATA, MAIL-FREE, MAIL-OWNER}
use Rattle.tables.specs.Columns.{MONITOR-AGE, PAYLOAD, PRIORITY, QUEUE, QUEUED, REASON, RUNNING, SENDER, STATE, TIMER-AGE, TIMER-OWNER, WANT-CLASS, WANT-SENDER}
use Rattle.tables.specs.Columns.{WANT-TAG, WATCHED, WATCHER}
use Rattle.tables.specs.Limits.{ENTRY-BYTES, MOST-SEATS}
use Rattle.tables.specs.State.{State, at, head, poke, with_col}
use Rattle.rules.specs.Aged.{Aged, begin_use, end_own, end_use, monitor_pool, timer_pool}
use Rattle.tables.specs.Action.{closed, free_bit, pull, push, take_bit, write}
use Rattle.rules.specs.Terms.{FREE, RUNNABLE, TIMEOUT, monitor_id, runner, timer_id}
use Rattle.rules.specs.Actions.{data_for, delist, enlist, fill, has_room, hears, let_go, mail_for, post, ready, stir, unfill, unwait, wake}
use Rattle.rules.specs.Calls.{Fired, Told, arm, await, cut_link, cut_links, cut_monitor, cut_monitors, data_of, disarm, drop_all, drop_first, drop_monitors}
use Rattle.rules.specs.Calls.{drop_timers, emptied, fire, fire_all, fire_next, fired, first_head, first_of, hand_over, link_of, loosen, next_due, next_overdue}
use Rattle.rules.specs.Calls.{place_of, rearm, rouse, run, tell, tie, told, unqueue, unwatch, vacate, watch}
use Rattle.rules.specs.Buses.{aired, airing, audience, broadcast, bus_full, evict, forget, is_stale, issue, leave_buses, make_bus, oldest_on, read_off, read_out_of, retire}
use Rattle.rules.specs.Buses.{seat_at, seat_of, signed, sit_down, sits, stand_up, value_at}
use Rattle.rules.specs.Trim.{past, trim}

-- t is s without what lies past: a record, so that both states can be read off its type
pub record Trims (s t : State) : Type 0 where
  pub is : trim s ≡ t

-- for every s there is one
pub here : (s : State) → Trims s (trim s)
here s = record { is = refl }

-- an equation says so
pub of : {s t : State} → trim s ≡ t → Trims s t
of e = record { is = e }

-- and what equals t is s without it too
pub onto : {s t u : State} → Trims s t → t ≡ u → Trims s u
onto x e = record { is = x.is ∙ e }

-- ---- columns: what is written into any but the two that lie past is written alike without those two. Each law `t-f` says so of f
module _ {s t : State} (e : Trims s t) where
  -- every other column is the same
  at_col : (c : ℕ) → past c ≡ false → s c ≡ t c
  at_col c h = let z : trim s c ≡ s c = rw h in sym z ∙ ap (λ (u : State). u c) e.is

  -- a column made of what it was
  pub t_made : (f : List ℕ → List ℕ) (c : ℕ) → past c ≡ false → Trims (with_col s c (f (s c))) (with_col t c (f (t c)))
  unfolding with_col
  t_made f c h =
      of (fun_ext (λ d. split (eqb d c)
      (λ q. let z : past d ≡ false = ap past (eqb-true d c q) ∙ h in rw (q, z) (ap f (at_col c h)))
      (λ q. rw q (ap (λ (u : State). u d) e.is))))

  -- a word
  pub t_poke : (c i v : ℕ) → past c ≡ false → Trims (poke s c i v) (poke t c i v)
  unfolding poke
  t_poke c i v = t_made (λ l. set l i v) c

  -- a free bit, taken and released
  pub t_take : (c i : ℕ) → past c ≡ false → Trims (take_bit s c i) (take_bit t c i)
  unfolding take_bit
  t_take c i = t_made (λ l. taken l i) c

  pub t_free : (c i : ℕ) → past c ≡ false → Trims (free_bit s c i) (free_bit t c i)
  unfolding free_bit
  t_free c i = t_made (λ l. released l i) c

  -- bytes of the payload
  pub t_write : (d i : ℕ) (m : List ℕ) → Trims (write s d i m) (write t d i m)
  unfolding write
  t_write d i m = t_made (λ l. sets l (ENTRY-BYTES * d + i) m) PAYLOAD refl

-- a counted list: one joins its tail, one leaves
module _ {s t : State} (e : Trims s t) where
  pub t_push : (l n v : ℕ) → past l ≡ false → past n ≡ false → Trims (push s l n v) (push t l n v)
  unfolding push
  t_push l n v h g =
      onto (t_poke (t_poke e l (head s n) v h) n 0 (head s n + 1) g)
      (ap (λ (x : List ℕ). poke (poke t l (get_or x 0 0) v) n 0 (get_or x 0 0 + 1)) (at_col e n g))

  pub t_pull : (l n j : ℕ) → past l ≡ false → past n ≡ false → Trims (pull s l n j) (pull t l n j)
  unfolding pull
  t_pull l n j h g =
      onto (t_poke (t_made e (closed (head s n) j) l h) n 0 (head s n - 1) g)
      (ap (λ (x : List ℕ). poke (with_col t l (closed (get_or x 0 0) j (t l))) n 0 (get_or x 0 0 - 1)) (at_col e n g))

-- ---- what writes several of them
module _ {s t : State} (e : Trims s t) where
  pub t_ready : (a r : ℕ) → Trims (ready s a r) (ready t a r)
  unfolding ready
  t_ready a r = t_push (t_poke (t_poke e STATE a _ refl) REASON a r refl) QUEUE QUEUED a refl refl

  pub t_unwait : (a : ℕ) → Trims (unwait s a) (unwait t a)
  unfolding unwait
  t_unwait a = t_poke (t_poke (t_poke (t_poke e WANT-SENDER a 0 refl) WANT-CLASS a 0 refl) WANT-TAG a 0 refl) DEADLINE a 0 refl

  pub t_fill : (d x h : ℕ) (m : List ℕ) → Trims (fill s d x h m) (fill t d x h m)
  unfolding fill
  t_fill d x h m = t_write (t_write (t_poke (t_poke (t_take e DATA-FREE d refl) SENDER d x refl) LENGTH d _ refl) d 0 _) d _ m

  pub t_unfill : (d : ℕ) → Trims (unfill s d) (unfill t d)
  unfolding unfill
  t_unfill d = t_write (t_poke (t_poke (t_free e DATA-FREE d refl) SENDER d 0 refl) LENGTH d 0 refl) d 0 _

  pub t_enlist : (m a d : ℕ) → Trims (enlist s m a d) (enlist t m a d)
  unfolding enlist
  t_enlist m a d = t_push (t_poke (t_poke (t_take e MAIL-FREE m refl) MAIL-OWNER m _ refl) MAIL-DATA m _ refl) ARRIVAL ARRIVED m refl refl

  pub t_run : (a j : ℕ) → Trims (run s a j) (run t a j)
  unfolding run
  t_run a j = t_poke (t_poke (t_poke (t_pull e QUEUE QUEUED j refl refl) STATE a _ refl) REASON a 0 refl) RUNNING 0 (suc a) refl

  pub t_await : (a x c g d : ℕ) → Trims (await s a x c g d) (await t a x c g d)
  unfolding await
  t_await a x c g d = t_poke (t_poke (t_poke (t_poke (t_poke (t_poke e RUNNING 0 0 refl) STATE a _ refl) WANT-SENDER a x refl) WANT-CLASS a c refl) WANT-TAG a g refl) DEADLINE a d refl

  pub t_disarm : (i : ℕ) → Trims (disarm s i) (disarm t i)
  unfolding end_use
  t_disarm i = t_poke (t_poke (t_poke e TIMER-OWNER i 0 refl) DUE i 0 refl) INTERVAL i 0 refl

  pub t_tie : (l a b : ℕ) → Trims (tie s l a b) (tie t l a b)
  unfolding tie
  t_tie l a b = t_poke (t_poke e LINK-ONE l a refl) LINK-TWO l b refl

  pub t_unwatch : (i : ℕ) → Trims (unwatch s i) (unwatch t i)
  unfolding end_use
  t_unwatch i = t_poke (t_poke e WATCHER i 0 refl) WATCHED i 0 refl

-- ---- what reads the state too: it reads the same without what lies past, so it writes the same. Each law `trim-f` says so of f
-- a timer and a monitor begun
pub trim-arm : (s : State) (i a time interval : ℕ) → trim (arm s i a time interval) ≡ arm (trim s) i a time interval
unfolding begin_use
trim-arm s i a time interval = (t_poke (t_poke (t_poke (t_poke (here s) TIMER-AGE i _ refl) TIMER-OWNER i _ refl) DUE i time refl) INTERVAL i interval refl).is

pub trim-watch : (s : State) (i a b : ℕ) → trim (watch s i a b) ≡ watch (trim s) i a b
unfolding begin_use
trim-watch s i a b = (t_poke (t_poke (t_poke (here s) MONITOR-AGE i _ refl) WATCHER i a refl) WATCHED i b refl).is

-- a message that leaves its mailbox, one that wakes its receiver, one sent, one let go, one taken in hand
pub trim-delist : (s : State) (j : ℕ) → trim (delist s j) ≡ delist (trim s) j
unfolding delist
trim-delist s j = let e = at s ARRIVAL j in (t_pull (t_poke (t_poke (t_free (here s) MAIL-FREE e refl) MAIL-OWNER e 0 refl) MAIL-DATA e 0 refl) ARRIVAL ARRIVED j refl refl).is

pub trim-stir : (s : State) (a x h : ℕ) → trim (stir s a x h) ≡ stir (trim s) a x h
unfolding stir
trim-stir s a x h = split (hears s a x h) (λ q. rw q (t_ready (t_unwait (here s) a) a _).is) (λ q. rw q)

pub trim-post : (k : Caps) (s : State) (a x h : ℕ) (m : List ℕ) → trim (post k s a x h m) ≡ post k (trim s) a x h m
unfolding post
trim-post k s a x h m = trim-stir _ a x h ∙ ap (λ (u : State). stir u a x h) (t_enlist (t_fill (here s) (data_for k s) x h m) (mail_for k s) a (data_for k s)).is

pub trim-let_go : (s : State) (a : ℕ) → trim (let_go s a) ≡ let_go (trim s) a
unfolding let_go
trim-let_go s a = split (eqb (at s HAND a) 0) (λ q. rw q) (λ q. rw q (t_poke (t_unfill (here s) (at s HAND a - 1)) HAND a 0 refl).is)

pub trim-hand_over : (s : State) (a j : ℕ) → trim (hand_over s a j) ≡ hand_over (trim s) a j
unfolding hand_over
trim-hand_over s a j = (t_poke (of (trim-delist s j)) HAND a _ refl).is

-- ---- next: the head of the first level that has one
pub trim-first_head : (s : State) (n : ℕ) → first_head (trim s) n ≡ first_head s n
unfolding first_head
trim-first_head s zero = refl
trim-first_head s (suc n) = rw (trim-first_head s n)

-- ---- advance
-- a timer that fires
pub trim-fire : (k : Caps) (s : State) (i : ℕ) → trim (fire k s i) ≡ fire k (trim s) i
unfolding fire rearm
trim-fire k s i =
    let a = at s TIMER-OWNER i - 1 in
    let again : trim (rearm s i) ≡ rearm (trim s) i =
    split (eqb (at s INTERVAL i) 0) (λ q. rw q (t_disarm (here s) i).is) (λ q. rw q (t_poke (here s) DUE i _ refl).is) in
    trim-post k (rearm s i) a 0 _ _ ∙ ap (λ (u : State). post k u a 0 (packed 3 1 0) (tick_bytes (timer_id s i))) again

-- how many timers fired so far, and the state without what lies past
abbrev pub trim_f : Fired → Fired
trim_f f = fired f.count (trim f.state)

-- all that fire
pub trim-fire_all : (k : Caps) (m : ℕ) (f : Fired) → trim_f (fire_all k m f) ≡ fire_all k m (trim_f f)
unfolding fire_all
trim-fire_all k zero f = refl
trim-fire_all k (suc m) f =
    let s = f.state in
    split (not (eqb (next_due k s) 0) && has_room k s)
    (λ q. rw q (trim-fire_all k m (fire_next k f) ∙ ap (λ (u : State). fire_all k m (fired (f.count + 1) u)) (trim-fire k s (next_due k s - 1))))
    (λ q. rw q)

-- those whose deadline is reached
pub trim-rouse : (k : Caps) (m : ℕ) (s : State) → trim (rouse k m s) ≡ rouse k m (trim s)
unfolding rouse
trim-rouse k zero s = refl
trim-rouse k (suc m) s =
    let a = next_overdue k s in
    split (eqb a 0) (λ q. rw q) (λ q. rw q (trim-rouse k m (wake s (a - 1) TIMEOUT) ∙ ap (rouse k m) (t_ready (t_unwait (here s) (a - 1)) (a - 1) TIMEOUT).is))

-- ---- buses
-- a bus made, and a seat taken
pub trim-make_bus : (s : State) (entries subscribers reads age : ℕ) → trim (make_bus s entries subscribers reads age) ≡ make_bus (trim s) entries subscribers reads age
unfolding make_bus
trim-make_bus s entries subscribers reads age =
    let b = head s BUSES in
    (t_poke (t_poke (t_poke (t_poke (t_poke (here s) BUS-SIZE b entries refl) BUS-SEATS b subscribers refl) BUS-READS b reads refl) BUS-AGE b age refl) BUSES 0 (b + 1) refl).is

pub trim-sit_down : (s : State) (b n a : ℕ) → trim (sit_down s b n a) ≡ sit_down (trim s) b n a
unfolding sit_down
trim-sit_down s b n a = (t_poke (here s) SEAT (seat_at b n) a refl).is

-- those who may read what is published now
trim-audience : (s : State) (b n : ℕ) → audience (trim s) b n ≡ audience s b n
unfolding audience
trim-audience s b zero = refl
trim-audience s b (suc n) = rw (trim-audience s b n)

-- a value begins, and one ends
pub trim-issue : (s : State) (d b : ℕ) (m : List ℕ) → trim (issue s d b m) ≡ issue (trim s) d b m
unfolding issue
trim-issue s d b m =
    rw (trim-audience s b MOST-SEATS)
    (t_push (t_poke (t_poke (t_poke (t_fill (here s) d 0 0 m) VALUE-BUS d _ refl) READERS d _ refl) PUBLISHED d _ refl) ISSUE ISSUED (suc d) refl refl).is

pub trim-retire : (s : State) (j : ℕ) → trim (retire s j) ≡ retire (trim s) j
unfolding retire
trim-retire s j =
    let d = value_at s j in
    (t_pull (t_poke (t_poke (t_poke (t_unfill (here s) d) VALUE-BUS d 0 refl) READERS d 0 refl) PUBLISHED d 0 refl) ISSUE ISSUED j refl refl).is

-- the oldest of a full bus ends, and what is published then
trim-evict : (s : State) (b : ℕ) → trim (evict s b) ≡ evict (trim s) b
unfolding evict
trim-evict s b = split (bus_full s b) (λ q. rw q (trim-retire s (oldest_on s b))) (λ q. rw q)

pub trim-broadcast : (k : Caps) (s : State) (b : ℕ) (m : List ℕ) → trim (broadcast k s b m) ≡ broadcast k (trim s) b m
unfolding broadcast
trim-broadcast k s b m =
    let u = evict s b in
    trim-issue u (data_for k u) b m ∙ ap (λ (u : State). issue u (data_for k u) b m) (trim-evict s b)

-- one is read
pub trim-read_off : (s : State) (b n j : ℕ) → trim (read_off s b n j) ≡ read_off (trim s) b n j
unfolding read_off
trim-read_off s b n j =
    let d = value_at s j in
    let u = poke s READERS d (signed (at s READERS d) n) in
    let e : trim u ≡ poke (trim s) READERS d (signed (at s READERS d) n) = (t_poke (here s) READERS d _ refl).is in
    split (read_out_of u b d) (λ q. rw q (trim-retire u j)) (λ q. rw q)
    ∙ ap (λ (u : State). cond (read_out_of u b d) (retire u j) u) e

-- the one in a seat may read nothing any more, and gives it up; those of a slot on every bus
trim-forget : (b n d : ℕ) (s : State) → trim (forget b n d s) ≡ forget b n d (trim s)
unfolding forget
trim-forget b n zero s = refl
trim-forget b n (suc d) s =
    let u = forget b n d s in
    split (eqb (at u VALUE-BUS d) (suc b)) (λ q. rw q (t_poke (here u) READERS d _ refl).is) (λ q. rw q)
    ∙ ap (λ (u : State). cond (eqb (at u VALUE-BUS d) (suc b)) (poke u READERS d (cleared (at u READERS d) (MOST-SEATS + n))) u) (trim-forget b n d s)

pub trim-stand_up : (k : Caps) (s : State) (b n : ℕ) → trim (stand_up k s b n) ≡ stand_up k (trim s) b n
unfolding stand_up
trim-stand_up k s b n = (t_poke (of (trim-forget b n k.datas s)) SEAT (seat_at b n) 0 refl).is

pub trim-leave_buses : (k : Caps) (a n : ℕ) (s : State) → trim (leave_buses k a n s) ≡ leave_buses k a n (trim s)
unfolding leave_buses
trim-leave_buses k a zero s = refl
trim-leave_buses k a (suc b) s =
    let u = leave_buses k a b s in
    split (sits u b (suc a)) (λ q. rw q (trim-stand_up k u b (seat_of u b (suc a)))) (λ q. rw q)
    ∙ ap (λ (u : State). cond (sits u b (suc a)) (stand_up k u b (seat_of u b (suc a))) u) (trim-leave_buses k a b s)

-- those end that have reached their age
trim-airing : (i : ℕ) (s : State) → trim (airing i s) ≡ airing i (trim s)
unfolding airing
trim-airing zero s = refl
trim-airing (suc i) s =
    trim-airing i (cond (is_stale s i) (retire s i) s) ∙ ap (airing i) (split (is_stale s i) (λ q. rw q (trim-retire s i)) (λ q. rw q))

pub trim-aired : (s : State) → trim (aired s) ≡ aired (trim s)
trim-aired s = trim-airing (head s ISSUED) s

-- ---- exit
-- what is in its mailbox and its hand
pub trim-drop_first : (s : State) (a : ℕ) → trim (drop_first s a) ≡ drop_first (trim s) a
unfolding drop_first
trim-drop_first s a =
    let j = first_of s a in
    split (ltb j (head s ARRIVED)) (λ q. rw q (t_unfill (of (trim-delist s j)) (data_of s j)).is) (λ q. rw q)

pub trim-drop_all : (m : ℕ) (s : State) (a : ℕ) → trim (drop_all m s a) ≡ drop_all m (trim s) a
unfolding drop_all
trim-drop_all zero s a = refl
trim-drop_all (suc m) s a = trim-drop_all m (drop_first s a) a ∙ ap (λ (u : State). drop_all m u a) (trim-drop_first s a)

pub trim-emptied : (s : State) (a : ℕ) → trim (emptied s a) ≡ emptied (trim s) a
trim-emptied s a = let n = head s ARRIVED in trim-drop_all n (let_go s a) a ∙ ap (λ (u : State). drop_all n u a) (trim-let_go s a)

-- how many notices were sent and lost so far, and the state without what lies past
abbrev pub trim_t : Told → Told
trim_t t = told t.sent t.lost (trim t.state)

-- a notice
pub trim-tell : (k : Caps) (t : Told) (a me reason m : ℕ) → trim_t (tell k t a me reason m) ≡ tell k (trim_t t) a me reason m
unfolding tell
trim-tell k t a me reason m =
    split (has_room k t.state) (λ q. rw q (ap (told (t.sent + 1) t.lost) (trim-post k t.state a me _ _))) (λ q. rw q)

-- the notices to its partners and to its watchers
module _ (k : Caps) (a me reason : ℕ) where
  pub trim-cut_link : (b : ℕ) (t : Told) → trim_t (cut_link k a me reason b t) ≡ cut_link k a me reason b (trim_t t)
  unfolding cut_link
  trim-cut_link b t =
      let e = link_of k t.state (suc a) (suc b) in
      split (ltb e k.links)
      (λ q. rw q (trim-tell k (told t.sent t.lost (tie t.state e 0 0)) b me reason 0 ∙ ap (λ (u : State). tell k (told t.sent t.lost u) b me reason 0) (t_tie (here t.state) e 0 0).is))
      (λ q. rw q)

  pub trim-cut_links : (b : ℕ) (t : Told) → trim_t (cut_links k a me reason b t) ≡ cut_links k a me reason b (trim_t t)
  unfolding cut_links
  trim-cut_links zero t = refl
  trim-cut_links (suc b) t = trim-cut_link b (cut_links k a me reason b t) ∙ ap (cut_link k a me reason b) (trim-cut_links b t)

  pub trim-cut_monitor : (i : ℕ) (t : Told) → trim_t (cut_monitor k a me reason i t) ≡ cut_monitor k a me reason i (trim_t t)
  unfolding cut_monitor
  trim-cut_monitor i t =
      let s = t.state in
      let b = at s WATCHER i - 1 in
      split (eqb (at s WATCHED i) (suc a))
      (λ q. rw q (trim-tell k (told t.sent t.lost (unwatch s i)) b me reason _ ∙ ap (λ (u : State). tell k (told t.sent t.lost u) b me reason (monitor_id s i)) (t_unwatch (here s) i).is))
      (λ q. rw q)

  pub trim-cut_monitors : (i : ℕ) (t : Told) → trim_t (cut_monitors k a me reason i t) ≡ cut_monitors k a me reason i (trim_t t)
  unfolding cut_monitors
  trim-cut_monitors zero t = refl
  trim-cut_monitors (suc i) t = trim-cut_monitor i (cut_monitors k a me reason i t) ∙ ap (cut_monitor k a me reason i) (trim-cut_monitors i t)

-- its own of a pool
trim_own : (P : Aged) → past P.word ≡ false → ((u : State) (i : ℕ) → trim (end_use P u i) ≡ end_use P (trim u) i) → (a n : ℕ) (s : State) →
    trim (end_own P a n s) ≡ end_own P a n (trim s)
unfolding end_own
trim_own P h e a zero s = refl
trim_own P h e a (suc i) s =
    let u = end_own P a i s in
    rw h (split (eqb (at u P.word i) (suc a)) (λ q. rw q (e u i)) (λ q. rw q))
    ∙ ap (λ (u : State). cond (eqb (at u P.word i) (suc a)) (end_use P u i) u) (trim_own P h e a i s)

-- its monitors and timers
pub trim-drop_monitors : (a n : ℕ) (s : State) → trim (drop_monitors a n s) ≡ drop_monitors a n (trim s)
trim-drop_monitors = trim_own monitor_pool refl (λ u i. (t_unwatch (here u) i).is)

pub trim-drop_timers : (a n : ℕ) (s : State) → trim (drop_timers a n s) ≡ drop_timers a n (trim s)
trim-drop_timers = trim_own timer_pool refl (λ u i. (t_disarm (here u) i).is)

-- its slot is given back
t_freed : {s t : State} → Trims s t → (a : ℕ) → Trims (poke (poke s STATE a FREE) PRIORITY a 0) (poke (poke t STATE a FREE) PRIORITY a 0)
t_freed e a = t_poke (t_poke e STATE a FREE refl) PRIORITY a 0 refl

pub trim-vacate : (s : State) (a : ℕ) → trim (vacate s a) ≡ vacate (trim s) a
unfolding vacate end_use loosen unqueue
trim-vacate s a =
    split (eqb (runner s) (suc a)) (λ r. rw r (t_freed (t_poke (here s) RUNNING 0 0 refl) a).is)
    (λ r. split (eqb (at s STATE a) RUNNABLE)
    (λ q. rw (r, q) (t_freed (t_poke (t_pull (here s) QUEUE QUEUED (place_of s a) refl refl) REASON a 0 refl) a).is)
    (λ q. rw (r, q) (t_freed (t_unwait (here s) a) a).is))
