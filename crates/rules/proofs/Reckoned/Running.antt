-- The calls that say who runs, and the reckoning.
use Prim.Native.Nat.{ℕ, suc, ◌+◌, ◌-◌, ◌<◌}
use native.Mathlib.Omega.{arith}
use mathlib.Core.Path.{◌≡◌, refl, sym, ap, ◌∙◌}
use mathlib.Core.Bool.{Bool, true, false, not}
use mathlib.Core.List.{List, [], ◌∷◌, ◌++◌, map}
use lib.ListN.{length, get_or, set}
use lib.Seq.{get_or-set_other}
use lib.Dec.{eqb, ltb, lit<}
use borrow.Author.Tests.{eqb-true, ne_eqb, ltb-true, not-false}
use Rattle.ledger.specs.Call.Op.{next, shown, spawn, yield, report}
use Rattle.ledger.specs.Ledger.{Ledger, Message, people, with_people}
use Rattle.ledger.specs.Lists.{first}
use Rattle.ledger.specs.Reckon.{entered, runs}
use Rattle.ledger.specs.Room.{actors_left, in_hand}
use Rattle.pools.specs.Pool.{occurs}
use Rattle.pools.specs.Slot.{id_of}
use Rattle.pools.proofs.BoolLaws.{split}
use Rattle.tables.specs.declared.Caps.{Caps}
use Rattle.tables.specs.Columns.{AGE, HAND, LINK-ONE, LINK-TWO, MAIL-OWNER, PRIORITY, QUEUE, QUEUED, RUNNING, SEAT, STATE, TIMER-OWNER, WATCHED, WATCHER}
use Rattle.tables.specs.Limits.{ACTOR-FACTOR, LEVELS, OLDEST}
use Rattle.tables.specs.State.{State, at, head, with_col, poke}
use Rattle.tables.specs.Action.{push, pull}
use Rattle.rules.specs.Aged.{actor_pool}
use Rattle.rules.specs.Terms.{FREE, RUNNABLE, RUNS, WAITS, actor_id, alive, runner}
use Rattle.rules.specs.Agrees.{Agrees, Letter, actor_at, arrivals, box_at, hand_at, letter, link_at, monitor_at, shows, timer_at}
use Rattle.rules.specs.Actions.{halt, ready, unwait, wake}
use Rattle.rules.specs.Calls.{first_head, ruled, run, show_entry, slot_for}
use Rattle.rules.proofs.Reckoned.Pools.{pool_begins, pool_stays, slots-full}
use Rattle.rules.proofs.Frames.Pools.{next_slot_lem}
use Rattle.rules.proofs.Reckoned.Parts.{agrees_people, agrees_still, buses_stay, living, pool_living}
use Rattle.rules.proofs.Claims.{Agreed, Counted, Tested}
use Rattle.rules.proofs.Frames.Wrote.{wrote_none, wrote_poke}
use Rattle.rules.proofs.Frames.Actions.{wrote_ready, wrote_run, wrote_unwait}
use Rattle.rules.specs.Good.{Good}
use Rattle.rules.proofs.Lists.Columns.{alive-same, of-alive, other, set-zero}
use Rattle.rules.proofs.Reckoned.Ledger.{actors-left, bond_ends, box_owner, clock_owner, datas-left, eye_ends, first-map, first_none, first-only}
use Rattle.rules.proofs.Reckoned.Ledger.{hand_same, actor_id-eqb, id_not_zero, idle-same, links-left, mails-left, map-same_on, monitors-left, palm_owner}
use Rattle.rules.proofs.Reckoned.Ledger.{runner-alive, runner-runs, running_is, seat_owner, timers-left}
use Rattle.rules.proofs.Kept.Running.{queue-at}
use Rattle.rules.proofs.Guards.{first-passed, second_passed}
use Rattle.rules.proofs.Kept.Clauses.{queue-fits, read_back}
use Rattle.rules.proofs.Kept.Owners.{owner_some}

-- ---- the actions: the reckoning says who is alive and who runs, and not who waits
-- a live actor becomes runnable
pub ready_agrees : (k : Caps) (s : State) (l : Ledger) (a reason : ℕ) → (at s STATE a ≡ 0 → ⊥) → Agrees k l s → Agrees k l (ready s a reason)
unfolding ready push poke with_col
ready_agrees k s l a reason u r =
    let y : RUNNABLE ≡ 0 → ⊥ = λ e. omega arith in
    agrees_still (wrote_ready (wrote_none s) a reason) r (alive-same (s STATE) a RUNNABLE u y) refl

-- "A waiting actor becomes runnable": the reckoning is as before
pub wake_agrees : (k : Caps) (s : State) (l : Ledger) (a reason : ℕ) → Agrees k l s → at s STATE a ≡ WAITS → Agrees k l (wake s a reason)
unfolding unwait poke with_col
wake_agrees k s l a reason r u =
    let w = wrote_unwait (wrote_none s) a in
    ready_agrees k (unwait s a) l a reason (λ e. omega (arith, u)) (agrees_still w r (living w refl) refl)

-- ---- spawn
module _ (k : Caps) (s : State) (l : Ledger) (g : Good k s) (r : Agrees k l s) (a priority : ℕ) (h : a < k.actors) (u : at s STATE a ≡ FREE) (o : at s AGE a < OLDEST) where
  -- an actor that is there is not the new one: its age is as it was
  age_there : (b : ℕ) → alive (s STATE) b ≡ true → get_or (set (s AGE) a (at s AGE a + 1)) b 0 ≡ at s AGE b
  age_there b e = get_or-set_other (s AGE) a b (at s AGE a + 1) 0 (λ q. of-alive (s STATE) b e (ap (λ (c : ℕ). at s STATE c) q ∙ u))

  -- the new one is listed, and the rest of the reckoning is as before
  born_agrees : Agrees k (with_people l (people (l.people.live ++ (record { id = id_of ACTOR-FACTOR (at s AGE a + 1) a; priority = priority } ∷ [])) l.people.running l.people.worn))
      (ready (poke (poke s AGE a (at s AGE a + 1)) PRIORITY a priority) a 0)
  unfolding ready push poke with_col alive
  born_agrees =
      let t : State = ready (poke (poke s AGE a (at s AGE a + 1)) PRIORITY a priority) a 0 in
      let n : a < length (s STATE) = omega (arith, g.sized.words STATE (lit< tt)) in
      let y : RUNNABLE ≡ 0 → ⊥ = λ e. omega arith in
      record {
        sizes = r.sizes;
        people = record {
          running = r.people.running ∙ split (eqb (runner s) 0) (λ q. rw q) (λ q. rw (q, age_there (runner s - 1) (runner-alive k s g q)));
          pool = pool_begins actor_pool s k.actors (g.sized.words STATE (lit< tt)) (omega (arith, g.range.few_actors)) r.people.pool
              t a RUNNABLE (actor_at t) _ refl refl h u y o (rw (read_back g AGE a (at s AGE a + 1) tt h, read_back g PRIORITY a priority tt h))
              (λ b q. rw (other (s AGE) a (at s AGE a + 1) b q, other (s PRIORITY) a priority b q));
        };
        mail = record {
          all_boxes = r.mail.all_boxes;
          boxes = r.mail.boxes ∙ map-same_on (box_at s) (box_at t) (arrivals s) (λ e p. rw (age_there (at s MAIL-OWNER e - 1) (box_owner k s g l r e p)));
          palms = r.mail.palms;
          all_palms = r.mail.all_palms;
          hands = r.mail.hands ∙ map-same_on (hand_at s) (hand_at t) r.mail.palms (λ b p. rw (age_there b (palm_owner k s g l r b p)));
          all_datas = r.mail.all_datas;
        };
        time = record {
          clock = r.time.clock;
          pool = pool_stays r.time.pool (timer_at t) (λ i p. rw (age_there (at s TIMER-OWNER i - 1) (clock_owner k s g l r i p)));
        };
        links = record {
          bonds = r.links.bonds;
          all_bonds = r.links.all_bonds;
          links = r.links.links ∙ map-same_on (link_at s) (link_at t) r.links.bonds (λ e p. let c = bond_ends k s g l r e p in rw (age_there (at s LINK-ONE e - 1) c.0, age_there (at s LINK-TWO e - 1) c.1));
        };
        monitors = pool_stays r.monitors (monitor_at t) (λ i p. let c = eye_ends k s g l r i p in rw (age_there (at s WATCHER i - 1) c.0, age_there (at s WATCHED i - 1) c.1));
        buses = buses_stay (wrote_ready (wrote_poke (wrote_poke (wrote_none s) AGE a (at s AGE a + 1)) PRIORITY a priority) a 0) refl
            (λ i m. refl) (λ i n. rw (age_there (at s SEAT i - 1) (seat_owner k s g i n))) r.buses;
      }

-- spawn: the reckoning has the new actor, by the id that was answered
pub spawn_agrees : (priority : ℕ) → Agreed (spawn priority)
unfolding entered
spawn_agrees priority k s l g r p =
    let h = ltb-true (slot_for k s) k.actors (not-false (ltb (slot_for k s) k.actors) (second_passed p)) in
    let f = next_slot_lem actor_pool k s h in
    born_agrees k s l g r (slot_for k s) priority h f.0 f.1

-- its tests are the reckoning's: "no room" exactly when no actor slot is left
pub spawn_same : (priority : ℕ) → Tested (spawn priority)
spawn_same priority k s l g r = (refl, refl, λ q. (slots-full actor_pool k s (actors_left l) (actors-left k s g l r), refl, λ z. record {}))

-- ---- yield: nobody runs
-- its test is the reckoning's
pub yield_same : Tested yield
yield_same k s l g r = (idle-same k s g l r, refl, λ z. record {})

-- and so is who runs after it: nobody
pub yield_agrees : Agreed yield
unfolding entered poke with_col
yield_agrees k s l g r p =
    ready_agrees k (halt s) (runs 0 l) (runner s - 1) 0 (λ e. omega (arith, (runner-runs k s g (first-passed p)).1))
    (agrees_people (wrote_poke (wrote_none s) RUNNING 0 0) r _ refl (record { running = rw (set-zero (s RUNNING) 0); pool = r.people.pool }))

-- ---- next: the one whose id was answered runs
-- its test is the reckoning's
pub next-same : Tested next
next-same k s l g r = (ap not (idle-same k s g l r), refl, λ z. record {})

-- slot a, the j-th of the queue, runs
run_agrees : (k : Caps) (s : State) (l : Ledger) (a j : ℕ) → j < head s QUEUED → Good k s → (at s STATE a ≡ 0 → ⊥) → Agrees k l s → Agrees k (runs (actor_id s a) l) (run s a j)
unfolding run pull poke with_col
run_agrees k s l a j h g u r =
    let y : RUNS ≡ 0 → ⊥ = λ e. omega arith in
    let less : suc a - 1 ≡ a = omega arith in
    agrees_people (wrote_run (wrote_none s) a j h (omega (arith, queue-fits g, g.sized.words QUEUE (lit< tt)))) r _ refl (record {
      running = rw (read_back g RUNNING 0 (suc a) tt (omega arith), ne_eqb (suc a) 0 (λ e. omega arith), less);
      pool = pool_living (s STATE) (set (s STATE) a RUNS) (s AGE) (alive-same (s STATE) a RUNS u y) r.people.pool;
    })

-- next, and the reckoning
pub next_agrees : Agreed next
unfolding entered
next_agrees k s l g r h =
    split (ltb (first_head s LEVELS) (head s QUEUED))
    (λ p. let c = queue-at k s g (first_head s LEVELS) (ltb-true (first_head s LEVELS) (head s QUEUED) p) in
    rw p (run_agrees k s l (at s QUEUE (first_head s LEVELS)) (first_head s LEVELS) (ltb-true (first_head s LEVELS) (head s QUEUED) p) g (λ e. omega (arith, c.1)) r))
    (λ p. rw p r)

-- "the six free counts side by side, in the order of the pool table, worn slots not counted": what the reckoning has left
pub report_counts : Counted report
report_counts k s l g r p = rw (actors-left k s g l r, mails-left k s g l r, datas-left k s g l r, links-left k s g l r, monitors-left k s g l r, timers-left k s g l r)

-- ---- what is shown
-- the tests of showing, by either call, are the reckoning's
pub shown_same : Tested shown
shown_same k s l g r = (idle-same k s g l r, refl, λ h. (hand_same k s g l r h, refl, λ z. record {}))

-- the bytes of a written message, and none where there is no message
abbrev text_of : List Letter → List ℕ
text_of [] = []
text_of (x ∷ xs) = x.payload

-- they are those of what is said
text_shows : (ms : List Message) → shows ms ≡ text_of (map letter ms)
text_shows [] = refl
text_shows (m ∷ ms) = refl

module _ (k : Caps) (s : State) (l : Ledger) (g : Good k s) (r : Agrees k l s) where
  -- what is in the hand of the one who runs, as it is written
  hand_is : (id : ℕ) → l.people.running ≡ id → map letter (in_hand l) ≡ map (hand_at s) (first (λ a. eqb (actor_id s a) id) r.mail.palms)
  hand_is id e =
      let to : Letter → Bool = λ x. eqb x.to id in
      rw e (sym (first-map to letter l.mail.hands) ∙ ap (first to) r.mail.hands ∙ first-map to (hand_at s) r.mail.palms)

  -- nobody runs: there is none
  hand_idle : eqb (runner s) 0 ≡ true → map letter (in_hand l) ≡ []
  hand_idle q =
      hand_is 0 (r.people.running ∙ rw q)
      ∙ ap (map (hand_at s)) (first_none (λ a. eqb (actor_id s a) 0) r.mail.palms (λ a o. id_not_zero k s g a (palm_owner k s g l r a o)))

  module _ (q : eqb (runner s) 0 ≡ false) where
    -- a hand is the caller's where its slot is
    hand_own : (a : ℕ) → 0 < occurs a r.mail.palms → eqb (actor_id s a) (actor_id s (runner s - 1)) ≡ eqb a (runner s - 1)
    hand_own a o = actor_id-eqb k s g a (runner s - 1) (palm_owner k s g l r a o) (runner-alive k s g q)

    -- an empty hand
    hand_none : eqb (at s HAND (runner s - 1)) 0 ≡ true → map letter (in_hand l) ≡ []
    hand_none p =
        hand_is _ (running_is k s g l r q)
        ∙ ap (map (hand_at s)) (first_none _ r.mail.palms (λ a o. hand_own a o ∙ ne_eqb a (runner s - 1) (λ e.
        let n = owner_some (s HAND) r.mail.palms r.mail.all_palms a o in omega (arith, eqb-true (at s HAND (runner s - 1)) 0 p, rw e at n))))

    -- a message in hand
    hand_some : eqb (at s HAND (runner s - 1)) 0 ≡ false → map letter (in_hand l) ≡ hand_at s (runner s - 1) ∷ []
    hand_some p =
        hand_is _ (running_is k s g l r q)
        ∙ ap (map (hand_at s)) (first-only _ r.mail.palms (runner s - 1) (r.mail.all_palms (runner s - 1) ∙ rw p) hand_own)

  -- "The payload in hand is shown": what is shown are the bytes of the message that the reckoning has in the caller's hand
  pub show_hand : (ruled show_entry k s).ans ≡ shows (in_hand l)
  unfolding ruled
  show_hand =
      rw (text_shows (in_hand l)) (split (eqb (runner s) 0) (λ q. rw (q, hand_idle q))
      (λ q. split (eqb (at s HAND (runner s - 1)) 0) (λ p. rw (q, p, hand_none q p)) (λ p. rw (q, p, hand_some q p))))
