-- What is done to timers, links and monitors keeps the tables and the reckoning in step.
use Prim.Native.Nat.{ℕ, suc, ◌+◌, ◌-◌, ◌≤◌, ◌<◌}
use native.Mathlib.Omega.{arith}
use mathlib.Core.Path.{◌≡◌, refl, sym, ap, ap₂, subst, ◌∙◌}
use mathlib.Core.Bool.{Bool, true, false, and-false, not, ◌&&◌}
use mathlib.Core.List.{List, [], ◌∷◌, ◌++◌, map}
use lib.ListN.{get_or, length, set}
use lib.Seq.{get_or-set_same}
use lib.Dec.{eqb, ltb, lit<}
use borrow.Author.Tests.{eqb-true, eqb-false, eq-eqb, ne_eqb, ltb-true, ltb-false, lt-ltb, not-false}
use Rattle.ledger.specs.Call.{Op, when}
use Rattle.ledger.specs.Call.Call.{op}
use Rattle.ledger.specs.Call.Why.{malformed, full, unknown}
use Rattle.ledger.specs.Call.Op.{after, every, cancel, link, unlink, monitor, demonitor}
use Rattle.ledger.specs.Ledger.{Ledger, Link, Monitor, Time, Timer, ties, time, with_ties, with_time}
use Rattle.ledger.specs.Reckon
use Rattle.ledger.specs.Reckon.{armed, end_links, end_monitors, end_timers, entered, linked, page, timer}
use Rattle.ledger.specs.Room.{known, links_left, monitors_left, nobody, timers_left}
use Rattle.pools.specs.Pool.{occurs, Exact}
use Rattle.pools.specs.Lists.{keep}
use Rattle.pools.specs.Slot.{slot_of, unused}
use Rattle.pools.proofs.BoolLaws.{split, true_false, same_bool, and_left, and_right}
use Rattle.pools.proofs.PoolLaws.{lowest-at, lowest-first}
use Rattle.pools.proofs.SlotLaws.{live_is}
use Rattle.tables.specs.declared.Caps.{Caps}
use Rattle.tables.specs.Columns.{AGE, CLOCK, DUE, INTERVAL, LINK-ONE, LINK-TWO, MONITOR-AGE, STATE, TIMER-AGE, TIMER-OWNER, WATCHED, WATCHER}
use Rattle.tables.specs.Limits.{ACTOR-FACTOR, LONGEST, MONITOR-FACTOR, OLDEST, TIMER-FACTOR}
use Rattle.tables.specs.State.{InRange, Sized, State, at, head, poke, with_col}
use Rattle.rules.specs.Aged.{begin_use, timer_pool, monitor_pool, next_id}
use Rattle.rules.specs.Terms.{actor_id, alive, is_actor, joins, monitor_id, runner, runner_id, timer_id}
use Rattle.rules.specs.Agrees.{Agrees, link_at, monitor_at, timer_at, InPool}
use Rattle.rules.specs.Calls.{nobody as nobody_in, arm, arm_entry, bad_interval, disarm, drop_monitors, drop_timers, link_for, link_of, monitor_for, tie, timer_for, unwatch, watch}
use Rattle.rules.specs.Run.{say_made}
use Rattle.rules.specs.Sound.{pair_rule}
use Rattle.rules.proofs.Reckoned.Pools.{pool_begins, pool_ends, pool_own, pool_used, slots-full, things_begin, things_end}
use Rattle.rules.proofs.Frames.Pools.{Ends, use_ends, next_slot_lem, own_ends, use_begins, own_is}
use Rattle.rules.proofs.Claims.{Agreed, Tested}
use Rattle.rules.specs.Good.{Good}
use Rattle.rules.proofs.Guards.{Passed, third_passed, second_passed, fourth_passed}
use Rattle.rules.proofs.Lists.Columns.{other}
use Rattle.rules.proofs.Reckoned.Ledger
use Rattle.rules.proofs.Reckoned.Ledger.{bond_ends, clock_owner, eye_ends, full-same, idle-same, known_same, links-left, monitors-left, running_is, runner-alive, some-map, some_no, some_yes, stranger, timers-left, listed_used}
use Rattle.rules.proofs.Reckoned.Tests.{SameTests}
use Rattle.rules.proofs.Lists.Ties.{below, begins, ends, slot_id_eqb, down, joins_none, pair_once, set-cond}
use Rattle.rules.proofs.Reckoned.Parts.{agrees_links, agrees_monitors, agrees_time, living}
use Rattle.rules.proofs.Frames.Wrote.{Wrote, wrote_none, wrote_within}
use Rattle.rules.proofs.Frames.Actions.{LINKED, TIMED, wrote_tie}
use Rattle.rules.proofs.Kept.Ties.{actor_alive}
use Rattle.rules.proofs.Kept.Clauses.{link_ends, monitor-ends}

-- ---- timers end
module _ (k : Caps) (l : Ledger) (s u : State) where
  -- a state that differs in its timers alone is what the reckoning says with other timers
  pub timers_agree : (t : Time) → Wrote TIMED s u → Agrees k l s → t.clock ≡ l.time.clock → InPool timer_pool u (timer_at u) t.timers t.worn → Agrees k (with_time l t) u
  timers_agree t b a c x = agrees_time b a t (living b refl) refl (record { clock = c ∙ a.time.clock ∙ ap (λ (q : List ℕ). get_or q 0 0) (sym (b.cols CLOCK refl)); pool = x })

  module _ (z : Sized k s) (v : InRange k) (a : Agrees k l s) where
    -- a timer of the list is in use, and its slot is one of them
    pub clock_used : (e : ℕ) → 0 < occurs e a.time.pool.slots → (at s TIMER-OWNER e ≡ 0 → ⊥) × (e < k.timers)
    clock_used = pool_used timer_pool s k.timers (z.words TIMER-OWNER (lit< tt)) (omega (arith, v.few_timers)) a.time.pool

    -- those that pass end on both sides
    pub timers-end_agree : (p : ℕ → Bool) (q : Timer → Bool) → Ends timer_pool p s u → ((e : ℕ) → (at s TIMER-OWNER e ≡ 0 → ⊥) → e < k.timers → q (timer_at s e) ≡ p e) →
        Agrees k (end_timers q l) u
    unfolding end_timers
    timers-end_agree p q t h =
        timers_agree _ (wrote_within TIMED t.wrote refl) a refl
        (pool_ends timer_pool s k.timers (z.words TIMER-OWNER (lit< tt)) (omega (arith, v.few_timers)) a.time.pool u (timer_at u) (λ x. x.id) p q (t.gone TIMER-OWNER refl) (t.wrote.cols TIMER-AGE refl) (λ e. refl) h
        (λ e r. rw (t.wrote.cols TIMER-AGE refl, t.gone TIMER-OWNER refl e, t.gone DUE refl e, t.gone INTERVAL refl e, t.wrote.cols AGE refl, r)))

-- one timer ends
pub disarm_agree : (k : Caps) (l : Ledger) (s : State) (i : ℕ) → Sized k s → InRange k → Agrees k l s → i < k.timers → Agrees k (end_timers (λ t. eqb t.id (timer_id s i)) l) (disarm s i)
disarm_agree k l s i z v a m =
    timers-end_agree k l s (disarm s i) z v a (λ e. eqb e i) (λ t. eqb t.id (timer_id s i)) (use_ends timer_pool s i)
    (λ e d n. slot_id_eqb TIMER-FACTOR (s TIMER-AGE) e i (omega (arith, v.few_timers)) (omega (arith, v.few_timers)))

-- ---- a timer begins
module _ (k : Caps) (l : Ledger) (s : State) (g : Good k s) (a : Agrees k l s) where
  -- the timer comes to the end of the reckoning's
  pub arm_agrees : (i b t n : ℕ) → i < k.timers → at s TIMER-OWNER i ≡ 0 → at s TIMER-AGE i < OLDEST →
      Agrees k (with_time l (time l.time.clock (l.time.timers ++ (timer (next_id timer_pool s i) (actor_id s b) t n ∷ [])) l.time.worn)) (arm s i b t n)
  unfolding begin_use poke with_col
  arm_agrees i b t n m u y =
      let c = use_begins timer_pool s i (suc b) (t ∷ n ∷ []) refl refl in
      timers_agree k l s (arm s i b t n) _ (wrote_within TIMED c.wrote refl) a refl
      (pool_begins timer_pool s k.timers (g.sized.words TIMER-OWNER (lit< tt)) (omega (arith, g.range.few_timers)) a.time.pool (arm s i b t n) i
      (suc b) (timer_at (arm s i b t n)) (timer (next_id timer_pool s i) (actor_id s b) t n) c.word c.age m u (λ q. omega arith) y
      (rw (
        get_or-set_same (s TIMER-AGE) i (at s TIMER-AGE i + 1) 0 (omega (arith, g.sized.words TIMER-AGE (lit< tt))),
        get_or-set_same (s TIMER-OWNER) i (suc b) 0 (omega (arith, g.sized.words TIMER-OWNER (lit< tt))),
        get_or-set_same (s DUE) i t 0 (omega (arith, g.sized.words DUE (lit< tt))),
        get_or-set_same (s INTERVAL) i n 0 (omega (arith, g.sized.words INTERVAL (lit< tt))),
        down b,
      ))
      (λ e q. rw (c.others TIMER-AGE e q, c.others TIMER-OWNER e q, c.others DUE e q, c.others INTERVAL e q)))

  -- a call that makes a timer
  armed_agrees : (c : Op) (delay interval : ℕ) (bad : Bool) → ((r : ℕ) → (page c).done r l ≡ armed delay interval r l) → Passed ((arm_entry delay interval bad).tests k s) →
      Agrees k (entered (record { call = op c; answer = say_made ((arm_entry delay interval bad).work k s).ans }) l) ((arm_entry delay interval bad).work k s).state
  unfolding entered
  armed_agrees c delay interval bad d p =
      let i = timer_for k s in
      let y = ltb-true i k.timers (not-false (ltb i k.timers) (third_passed p)) in
      let f = next_slot_lem timer_pool k s y in
      let r = next_id timer_pool s i in
      let e : timer r l.people.running (l.time.clock + delay) interval ≡ timer r (runner_id s) (head s CLOCK + delay) interval = rw (running_is k s g l a p.0, a.time.clock) in
      rw (d r)
      (subst (λ (x : Timer). Agrees k (with_time l (time l.time.clock (l.time.timers ++ (x ∷ [])) l.time.worn)) (arm s i (runner s - 1) (head s CLOCK + delay) interval)) (sym e)
      (arm_agrees i (runner s - 1) (head s CLOCK + delay) interval y f.0 f.1))

-- "A one-shot has a delay"
pub after_agrees : (delay : ℕ) → Agreed (after delay)
after_agrees delay k s l g a p = armed_agrees k l s g a (after delay) delay 0 (ltb LONGEST delay) (λ r. refl) p

-- "a periodic one an interval"
pub every_agrees : (interval : ℕ) → Agreed (every interval)
every_agrees interval k s l g a p = armed_agrees k l s g a (every interval) interval interval (bad_interval interval) (λ r. refl) p

-- "a monitor or timer only its owner, by its id"
pub cancel_agrees : (id : ℕ) → Agreed (cancel id)
unfolding entered
cancel_agrees id k s l g a p =
    let i = slot_of TIMER-FACTOR id in
    let h = own_is timer_pool s id k.timers (omega arith) (g.sized.words TIMER-OWNER (lit< tt)) (second_passed p) in
    subst (λ (x : ℕ). Agrees k (end_timers (λ t. eqb t.id x) l) (disarm s i)) (sym h.1) (disarm_agree k l s i g.sized g.range a h.0)

-- ---- their tests are the reckoning's
-- a call that makes a timer
arm_same : (delay interval : ℕ) (bad : Bool) (k : Caps) (s : State) (l : Ledger) → Good k s → Agrees k l s →
    SameTests ((arm_entry delay interval bad).tests k s) (nobody l ∷ when bad malformed ∷ when (eqb (timers_left l) 0) full ∷ [])
arm_same delay interval bad k s l g a =
    (idle-same k s g l a, refl, λ h. (refl, refl, λ q. (slots-full timer_pool k s (timers_left l) (timers-left k s g l a), refl, λ z. record {})))

-- a one-shot
pub after_same : (delay : ℕ) → Tested (after delay)
after_same delay = arm_same delay 0 (ltb LONGEST delay)

-- a periodic one
pub every_same : (interval : ℕ) → Tested (every interval)
every_same interval = arm_same interval interval (bad_interval interval)

-- ---- the links' columns alone differ
module _ (k : Caps) (l : Ledger) (s u : State) where
  -- a state that differs in its links alone is what the reckoning says with other links
  pub links_agree : (links : List Link) (bonds : List ℕ) → Wrote LINKED s u → Agrees k l s → Exact bonds (λ i. not (unused (u LINK-ONE) i)) →
      links ≡ map (link_at u) bonds → Agrees k (with_ties l (ties links l.ties.monitors l.ties.worn)) u
  links_agree links bonds b a x m = agrees_links b a links (living b refl) refl (record { bonds = bonds; all_bonds = x; links = m })

module _ (k : Caps) (l : Ledger) (s : State) (g : Good k s) (a : Agrees k l s) where
  -- a link of the list is in use, and its entry is one of them
  pub bond_used : (e : ℕ) → 0 < occurs e a.links.bonds → (at s LINK-ONE e ≡ 0 → ⊥) × (e < k.links)
  bond_used = listed_used (s LINK-ONE) a.links.bonds k.links (g.sized.words LINK-ONE (lit< tt)) a.links.all_bonds

  -- a slot one up that is alive is that of a live actor exactly where the ids are the same
  pub up_id : (x b : ℕ) → 1 ≤ x → alive (s STATE) (x - 1) ≡ true → alive (s STATE) b ≡ true → eqb (actor_id s (x - 1)) (actor_id s b) ≡ eqb x (suc b)
  up_id x b h p q =
      Ledger.actor_id-eqb k s g (x - 1) b p q
      ∙ same_bool (eqb (x - 1) b) (eqb x (suc b)) (λ q. eq-eqb x (suc b) (omega (arith, eqb-true (x - 1) b q)))
      (λ q. eq-eqb (x - 1) b (omega (arith, eqb-true x (suc b) q)))

  -- a link joins two actors on both sides, or on neither
  pub bond_joins : (b c e : ℕ) → alive (s STATE) b ≡ true → alive (s STATE) c ≡ true → (at s LINK-ONE e ≡ 0 → ⊥) → e < k.links →
      Reckon.between (actor_id s b) (actor_id s c) (link_at s e) ≡ joins (s LINK-ONE) (s LINK-TWO) (suc b) (suc c) e
  unfolding Reckon.between joins
  bond_joins b c e p q d m =
      let h = link_ends g e m d in
      rw (up_id (at s LINK-ONE e) b h.one h.one_lives p, up_id (at s LINK-ONE e) c h.one h.one_lives q, up_id (at s LINK-TWO e) b h.two h.two_lives p, up_id (at s LINK-TWO e) c h.two h.two_lives q)

  -- two live actors are linked on both sides, or on neither
  pub linked-same : (b c : ℕ) → alive (s STATE) b ≡ true → alive (s STATE) c ≡ true → linked l (actor_id s b) (actor_id s c) ≡ ltb (link_of k s (suc b) (suc c)) k.links
  linked-same b c p q =
      let t = joins (s LINK-ONE) (s LINK-TWO) (suc b) (suc c) in
      let i = link_of k s (suc b) (suc c) in
      rw (a.links.links, some-map (Reckon.between (actor_id s b) (actor_id s c)) (link_at s) a.links.bonds)
      (split (ltb i k.links)
      (λ v.
      let m = ltb-true i k.links v in
      let y : t i ≡ true = lowest-at t k.links m in
      let d : at s LINK-ONE i ≡ 0 → ⊥ = λ z. true_false (t i) y (joins_none (s LINK-ONE) (s LINK-TWO) (suc b) (suc c) i (λ e. omega arith) (λ e. omega arith) z) in
      let o : 0 < occurs i a.links.bonds = rw (a.links.all_bonds i, ne_eqb (at s LINK-ONE i) 0 d) (omega arith) in
      rw v (some_yes (λ e. Reckon.between (actor_id s b) (actor_id s c) (link_at s e)) a.links.bonds i o (bond_joins b c i p q d m ∙ y)))
      (λ v. rw v (some_no (λ e. Reckon.between (actor_id s b) (actor_id s c) (link_at s e)) a.links.bonds (λ e o.
      let f = bond_used e o in
      bond_joins b c e p q f.0 f.1 ∙ lowest-first t k.links e (omega (arith, ltb-false i k.links v, f.1))))))

  -- and then by one link
  pub linked-once : (b c : ℕ) → alive (s STATE) b ≡ true → alive (s STATE) c ≡ true → link_of k s (suc b) (suc c) < k.links →
      (e : ℕ) → (at s LINK-ONE e ≡ 0 → ⊥) → e < k.links → Reckon.between (actor_id s b) (actor_id s c) (link_at s e) ≡ eqb e (link_of k s (suc b) (suc c))
  unfolding pair_rule
  linked-once b c p q m e d n =
      let t = joins (s LINK-ONE) (s LINK-TWO) (suc b) (suc c) in
      let i = link_of k s (suc b) (suc c) in
      let y : t i ≡ true = lowest-at t k.links m in
      bond_joins b c e p q d n
      ∙ same_bool (t e) (eqb e i)
      (λ r. eq-eqb e i (pair_once k.links (s LINK-ONE) (s LINK-TWO) g.pairs (suc b) (suc c) e i n m (λ e. omega arith) (λ e. omega arith) r y))
      (λ r. ap t (eqb-true e i r) ∙ y)

  -- a link begins
  pub tie_agrees : (e b c : ℕ) → e < k.links → at s LINK-ONE e ≡ 0 → (b ≡ 0 → ⊥) →
      Agrees k (with_ties l (ties (l.ties.links ++ (record { one = actor_id s (b - 1); two = actor_id s (c - 1) } ∷ [])) l.ties.monitors l.ties.worn)) (tie s e b c)
  unfolding tie poke with_col
  tie_agrees e b c m u n =
      let inside : e < length (s LINK-ONE) = omega (arith, g.sized.words LINK-ONE (lit< tt)) in
      links_agree k l s (tie s e b c) _ (a.links.bonds ++ (e ∷ [])) (wrote_tie (wrote_none s) e b c) a
      (begins (s LINK-ONE) (s LINK-ONE) e b inside u n a.links.bonds a.links.all_bonds)
      (things_begin (link_at s) (link_at (tie s e b c)) l.ties.links a.links.bonds e (record { one = actor_id s (b - 1); two = actor_id s (c - 1) }) a.links.links
      (rw (get_or-set_same (s LINK-ONE) e b 0 inside, get_or-set_same (s LINK-TWO) e c 0 (omega (arith, g.sized.words LINK-TWO (lit< tt)))))
      (λ d o. let q : eqb d e ≡ false = ne_eqb d e (λ z. (bond_used d o).0 (ap (at s LINK-ONE) z ∙ u)) in rw (other (s LINK-ONE) e b d q, other (s LINK-TWO) e c d q)))

  -- a link ends
  pub untie_agrees : (e : ℕ) (q : Link → Bool) → e < k.links → ((d : ℕ) → (at s LINK-ONE d ≡ 0 → ⊥) → d < k.links → q (link_at s d) ≡ eqb d e) → Agrees k (end_links q l) (tie s e 0 0)
  unfolding end_links tie poke with_col
  untie_agrees e q m h =
      links_agree k l s (tie s e 0 0) _ (keep (λ d. not (eqb d e)) a.links.bonds) (wrote_tie (wrote_none s) e 0 0) a
      (ends (s LINK-ONE) (set (s LINK-ONE) e 0) (λ d. eqb d e) (λ d. set-cond (s LINK-ONE) e 0 d (omega (arith, g.sized.words LINK-ONE (lit< tt)))) a.links.bonds a.links.all_bonds)
      (things_end (link_at s) (link_at (tie s e 0 0)) l.ties.links a.links.bonds q (λ d. eqb d e) a.links.links (λ d o. let f = bond_used d o in h d f.0 f.1)
      (λ d r. rw (other (s LINK-ONE) e 0 d r, other (s LINK-TWO) e 0 d r)))

  -- the running actor and another are linked on both sides, or on neither
  pub linked-run : (id : ℕ) → eqb (runner s) 0 ≡ false → is_actor s id ≡ true → linked l l.people.running id ≡ ltb (link_of k s (runner s) (suc (slot_of ACTOR-FACTOR id))) k.links
  linked-run id h r =
      let up : suc (runner s - 1) ≡ runner s = omega (arith, eqb-false (runner s) 0 h) in
      ap₂ (λ (i : ℕ) (j : ℕ). linked l i j) (running_is k s g l a h) (live_is ACTOR-FACTOR (s STATE) (s AGE) id (omega arith) r)
      ∙ linked-same (runner s - 1) (slot_of ACTOR-FACTOR id) (runner-alive k s g h) (actor_alive k s g id r)
      ∙ ap (λ (x : ℕ). ltb (link_of k s x (suc (slot_of ACTOR-FACTOR id))) k.links) up

-- "Linking a pair already linked answers 0 and changes nothing"
pub link_agrees : (partner : ℕ) → Agreed (link partner)
unfolding entered
link_agrees partner k s l g a p =
    let b = suc (slot_of ACTOR-FACTOR partner) in
    let h = p.0 in
    let r = not-false (is_actor s partner) (third_passed p) in
    let e = linked-run k l s g a partner h r in
    split (ltb (link_of k s (runner s) b) k.links) (λ v. rw (v, e ∙ v) a)
    (λ v. let w : not (ltb (link_for k s) k.links) ≡ false = rw v at (fourth_passed p) in
    let x : link_for k s < k.links = ltb-true (link_for k s) k.links (not-false (ltb (link_for k s) k.links) w) in
    let z : ◌≡◌ {A = Link} (record { one = l.people.running; two = partner }) (record { one = actor_id s (runner s - 1); two = actor_id s (b - 1) }) =
    ap₂ (λ (i j : ℕ). record { one = i; two = j }) (running_is k s g l a h)
    (live_is ACTOR-FACTOR (s STATE) (s AGE) partner (omega arith) r ∙ ap (actor_id s) (sym (down (slot_of ACTOR-FACTOR partner)))) in
    rw (v, e ∙ v) (subst (λ (x : Link). Agrees k (with_ties l (ties (l.ties.links ++ (x ∷ [])) l.ties.monitors l.ties.worn)) (tie s (link_for k s) (runner s) b)) (sym z)
    (tie_agrees k l s g a (link_for k s) (runner s) b x (eqb-true (at s LINK-ONE (link_for k s)) 0 (lowest-at (unused (s LINK-ONE)) k.links x)) (eqb-false (runner s) 0 h))))

-- the tests of a call that ties the running actor to another are the reckoning's, where that for room is
tie-same : (k : Caps) (s : State) (l : Ledger) → Good k s → Agrees k l s → (id : ℕ) (b c : Bool) → (eqb (runner s) 0 ≡ false → is_actor s id ≡ true → b ≡ c) →
    SameTests (nobody_in s ∷ when (eqb id (runner_id s)) malformed ∷ when (not (is_actor s id)) unknown ∷ when b full ∷ [])
    (nobody l ∷ when (eqb id l.people.running) malformed ∷ when (not (known l id)) unknown ∷ when c full ∷ [])
tie-same k s l g a id b c room = (
  idle-same k s g l a,
  refl,
  λ h. (
    ap (eqb id) (sym (running_is k s g l a h)),
    refl,
    λ q.
        (ap not (known_same k s g l a id), refl, λ u. (room h (not-false (is_actor s id) u), refl, λ z. record {})),
  ),
)

-- those of a call that takes one back
back-same : (k : Caps) (s : State) (l : Ledger) → Good k s → Agrees k l s → (b c : Bool) → (eqb (runner s) 0 ≡ false → b ≡ c) →
    SameTests (nobody_in s ∷ when (not b) unknown ∷ []) (nobody l ∷ when (not c) unknown ∷ [])
back-same k s l g a b c own = (idle-same k s g l a, refl, λ h. (ap not (own h), refl, λ z. record {}))

-- linking
pub link_same : (partner : ℕ) → Tested (link partner)
link_same partner k s l g a = tie-same k s l g a partner _ _ (λ h r. ap₂ (λ (x : Bool) (y : Bool). not x && y)
    (sym (linked-run k l s g a partner h r)) (full-same (unused (s LINK-ONE)) k.links (links_left l) (links-left k s g l a)))

-- "3 if there is none (oneself included)": its tests are the reckoning's
pub unlink_same : (partner : ℕ) → Tested (unlink partner)
unfolding Reckon.between
unlink_same partner k s l g a = back-same k s l g a _ _ there
  where
    -- who is not known is linked with nobody
    there : eqb (runner s) 0 ≡ false → is_actor s partner && ltb (link_of k s (runner s) (suc (slot_of ACTOR-FACTOR partner))) k.links ≡ linked l l.people.running partner
    there h =
        split (is_actor s partner) (λ q. rw q (sym (linked-run k l s g a partner h q)))
        (λ q. rw (q, a.links.links, some-map (Reckon.between l.people.running partner) (link_at s) a.links.bonds)
        (sym (some_no (λ e. Reckon.between l.people.running partner (link_at s e)) a.links.bonds (λ e o.
        let b = bond_ends k s g l a e o in
        rw (stranger k s g partner q _ b.0, stranger k s g partner q _ b.1, and-false (eqb (actor_id s (at s LINK-ONE e - 1)) l.people.running))))))

-- "Either end may take a link back by the partner's id"
pub unlink_agrees : (partner : ℕ) → Agreed (unlink partner)
unfolding entered
unlink_agrees partner k s l g a p =
    let j = slot_of ACTOR-FACTOR partner in
    let i = link_of k s (runner s) (suc j) in
    let q = not-false (is_actor s partner && ltb i k.links) (second_passed p) in
    let r = and_left (is_actor s partner) (ltb i k.links) q in
    let m = ltb-true i k.links (and_right (is_actor s partner) (ltb i k.links) q) in
    let up : suc (runner s - 1) ≡ runner s = omega (arith, eqb-false (runner s) 0 p.0) in
    untie_agrees k l s g a i (Reckon.between l.people.running partner) m (λ d u n.
    ap₂ (λ (x : ℕ) (y : ℕ). Reckon.between x y (link_at s d)) (running_is k s g l a p.0) (live_is ACTOR-FACTOR (s STATE) (s AGE) partner (omega arith) r)
    ∙ subst (λ (x : ℕ). link_of k s x (suc j) < k.links → Reckon.between (runner_id s) (actor_id s j) (link_at s d) ≡ eqb d (link_of k s x (suc j))) up
    (λ w. linked-once k l s g a (runner s - 1) j (runner-alive k s g p.0) (actor_alive k s g partner r) w d u n) m)

-- ---- monitors end
module _ (k : Caps) (l : Ledger) (s u : State) (g : Good k s) (a : Agrees k l s) where
  -- a monitor of the list is in use, and its slot is one of them
  pub eye_used : (e : ℕ) → 0 < occurs e a.monitors.slots → (at s WATCHER e ≡ 0 → ⊥) × (e < k.monitors)
  eye_used = pool_used monitor_pool s k.monitors (g.sized.words WATCHER (lit< tt)) (omega (arith, g.range.few_monitors)) a.monitors

  -- those that pass end on both sides
  pub monitors-end_agree : (p : ℕ → Bool) (q : Monitor → Bool) → Ends monitor_pool p s u → ((e : ℕ) → (at s WATCHER e ≡ 0 → ⊥) → e < k.monitors → q (monitor_at s e) ≡ p e) →
      Agrees k (end_monitors q l) u
  unfolding end_monitors
  monitors-end_agree p q t h =
      agrees_monitors t.wrote a _ _ (living t.wrote refl) refl
      (pool_ends monitor_pool s k.monitors (g.sized.words WATCHER (lit< tt)) (omega (arith, g.range.few_monitors)) a.monitors u (monitor_at u)
      (λ x. x.id) p q (t.gone WATCHER refl) (t.wrote.cols MONITOR-AGE refl) (λ e. refl) h
      (λ e r. rw (t.wrote.cols MONITOR-AGE refl, t.gone WATCHER refl e, t.gone WATCHED refl e, t.wrote.cols AGE refl, r)))

-- one monitor ends
pub unwatch_agrees : (k : Caps) (l : Ledger) (s : State) (i : ℕ) → Good k s → Agrees k l s → i < k.monitors → Agrees k (end_monitors (λ m. eqb m.id (monitor_id s i)) l) (unwatch s i)
unwatch_agrees k l s i g a m =
    monitors-end_agree k l s (unwatch s i) g a (λ e. eqb e i) (λ t. eqb t.id (monitor_id s i)) (use_ends monitor_pool s i)
    (λ e d n. slot_id_eqb MONITOR-FACTOR (s MONITOR-AGE) e i (omega (arith, g.range.few_monitors)) (omega (arith, g.range.few_monitors)))

-- ---- a monitor begins
module _ (k : Caps) (l : Ledger) (s : State) (g : Good k s) (a : Agrees k l s) where
  -- the monitor comes to the end of the reckoning's
  pub watch_agrees : (i b c : ℕ) → i < k.monitors → at s WATCHER i ≡ 0 → at s MONITOR-AGE i < OLDEST → (b ≡ 0 → ⊥) →
      Agrees k (with_ties l (ties l.ties.links (l.ties.monitors ++ (record { id = next_id monitor_pool s i; watcher = actor_id s (b - 1); target = actor_id s (c - 1) } ∷ [])) l.ties.worn)) (watch s i b c)
  unfolding begin_use poke with_col
  watch_agrees i b c m u y n =
      let d = use_begins monitor_pool s i b (c ∷ []) refl refl in
      agrees_monitors d.wrote a _ _ (living d.wrote refl) refl
      (pool_begins monitor_pool s k.monitors (g.sized.words WATCHER (lit< tt)) (omega (arith, g.range.few_monitors)) a.monitors (watch s i b c) i b
      (monitor_at (watch s i b c)) (record { id = next_id monitor_pool s i; watcher = actor_id s (b - 1); target = actor_id s (c - 1) }) d.word d.age m u n y
      (rw (
        get_or-set_same (s MONITOR-AGE) i (at s MONITOR-AGE i + 1) 0 (omega (arith, g.sized.words MONITOR-AGE (lit< tt))),
        get_or-set_same (s WATCHER) i b 0 (omega (arith, g.sized.words WATCHER (lit< tt))),
        get_or-set_same (s WATCHED) i c 0 (omega (arith, g.sized.words WATCHED (lit< tt))),
      ))
      (λ e q. rw (d.others MONITOR-AGE e q, d.others WATCHER e q, d.others WATCHED e q)))

-- "Linking to oneself or monitoring oneself is malformed"
pub monitor_agrees : (target : ℕ) → Agreed (monitor target)
unfolding entered
monitor_agrees target k s l g a p =
    let i = monitor_for k s in
    let b = suc (slot_of ACTOR-FACTOR target) in
    let r = not-false (is_actor s target) (third_passed p) in
    let m = ltb-true i k.monitors (not-false (ltb i k.monitors) (fourth_passed p)) in
    let f = next_slot_lem monitor_pool k s m in
    let seen : ℕ → ℕ → Monitor = λ x y. record { id = next_id monitor_pool s i; watcher = x; target = y } in
    let z = ap₂ seen (running_is k s g l a p.0)
    (live_is ACTOR-FACTOR (s STATE) (s AGE) target (omega arith) r ∙ ap (actor_id s) (sym (down (slot_of ACTOR-FACTOR target)))) in
    subst (λ (x : Monitor). Agrees k (with_ties l (ties l.ties.links (l.ties.monitors ++ (x ∷ [])) l.ties.worn)) (watch s i (runner s) b)) (sym z)
    (watch_agrees k l s g a i (runner s) b m f.0 f.1 (eqb-false (runner s) 0 p.0))

-- its tests are the reckoning's
pub monitor-same : (target : ℕ) → Tested (monitor target)
monitor-same target k s l g a = tie-same k s l g a target _ _ (λ h r. slots-full monitor_pool k s (monitors_left l) (monitors-left k s g l a))

-- "a monitor or timer only its owner, by its id"
pub demonitor_agrees : (id : ℕ) → Agreed (demonitor id)
unfolding entered
demonitor_agrees id k s l g a p =
    let i = slot_of MONITOR-FACTOR id in
    let h = own_is monitor_pool s id k.monitors (omega arith) (g.sized.words WATCHER (lit< tt)) (second_passed p) in
    subst (λ (x : ℕ). Agrees k (end_monitors (λ m. eqb m.id x) l) (unwatch s i)) (sym h.1) (unwatch_agrees k l s i g a h.0)

-- ---- "a monitor or timer only its owner, by its id": the tests are the reckoning's
module _ (k : Caps) (l : Ledger) (s : State) (g : Good k s) (a : Agrees k l s) (h : eqb (runner s) 0 ≡ false) where
  -- a live actor, its slot one up, is the one that runs
  mine : (x : ℕ) → 1 ≤ x → alive (s STATE) (x - 1) ≡ true → eqb (actor_id s (x - 1)) l.people.running ≡ eqb x (runner s)
  mine x m v =
      let up : suc (runner s - 1) ≡ runner s = omega (arith, eqb-false (runner s) 0 h) in
      ap (eqb (actor_id s (x - 1))) (running_is k s g l a h) ∙ up_id k l s g a x (runner s - 1) m v (runner-alive k s g h) ∙ ap (eqb x) up

-- a timer's
pub cancel_same : (id : ℕ) → Tested (cancel id)
cancel_same id k s l g a = back-same k s l g a _ _ (λ h.
    pool_own timer_pool s k.timers (g.sized.words TIMER-OWNER (lit< tt)) (omega (arith, g.range.few_timers)) a.time.pool
    id (λ t. t.id) (λ t. t.owner) l.people.running (omega arith) (λ e. refl)
    (λ e o. let c = (clock_used k l s s g.sized g.range a e o).0 in mine k l s g a h (at s TIMER-OWNER e) (omega arith) (clock_owner k s g l a e o)))

-- a monitor's
pub demonitor_same : (id : ℕ) → Tested (demonitor id)
demonitor_same id k s l g a = back-same k s l g a _ _ (λ h.
    pool_own monitor_pool s k.monitors (g.sized.words WATCHER (lit< tt)) (omega (arith, g.range.few_monitors)) a.monitors
    id (λ m. m.id) (λ m. m.watcher) l.people.running (omega arith) (λ e. refl)
    (λ e o. let c = (eye_used k l s s g a e o).0 in mine k l s g a h (at s WATCHER e) (omega arith) (eye_ends k s g l a e o).0))

-- ---- an actor's own monitors and timers end
module _ (k : Caps) (l : Ledger) (s : State) (g : Good k s) (a : Agrees k l s) (b : ℕ) (h : alive (s STATE) b ≡ true) where
  -- its timers
  pub drop_timers_agrees : Agrees k (end_timers (λ t. eqb t.owner (actor_id s b)) l) (drop_timers b k.timers s)
  drop_timers_agrees =
      timers-end_agree k l s (drop_timers b k.timers s) g.sized g.range a (below (s TIMER-OWNER) (suc b) k.timers) (λ t. eqb t.owner (actor_id s b)) (own_ends timer_pool b s k.timers)
      (λ e d n. up_id k l s g a (at s TIMER-OWNER e) b (omega (arith, d)) ((g.timers e n).1.1 d).0 h ∙ rw (lt-ltb e k.timers n))

  -- the monitors by which it watches
  pub drop_monitors_agrees : Agrees k (end_monitors (λ m. eqb m.watcher (actor_id s b)) l) (drop_monitors b k.monitors s)
  drop_monitors_agrees =
      monitors-end_agree k l s (drop_monitors b k.monitors s) g a (below (s WATCHER) (suc b) k.monitors) (λ m. eqb m.watcher (actor_id s b)) (own_ends monitor_pool b s k.monitors)
      (λ e d n. up_id k l s g a (at s WATCHER e) b (omega (arith, d)) (monitor-ends g e n d).one_lives h ∙ rw (lt-ltb e k.monitors n))
