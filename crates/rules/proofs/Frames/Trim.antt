-- No rule reads or writes what lies past the needed words and bytes: on a state without it, each does what it does on the state.
use Prim.Native.Nat.{ℕ, suc, ◌+◌, ◌-◌}
use mathlib.Core.Path.{◌≡◌, refl, sym, ap, ◌∙◌, fun_ext}
use mathlib.Core.Bool.{false}
use mathlib.Core.List.{List, [], ◌∷◌}
use lib.IntN.{ℤ}
use lib.Dec.{eqb, ltb}
use Rattle.ledger.specs.Call.{Op, Test}
use Rattle.ledger.specs.Call.Op.{advance, after, bus, cancel, demonitor, every, exit, link, monitor, next, notify, publish, read, receive, report, show, shown, spawn, subscribe, unlink, unsubscribe, yield}
use Rattle.pools.specs.Slot.{slot_of}
use Rattle.pools.proofs.BoolLaws.{split}
use Rattle.tables.specs.declared.Caps.{Caps}
use Rattle.tables.specs.Columns.{ACTORS, AGE, ARRIVED, CLOCK, DATA-FREE, DATAS, ISSUED, LINKS, MAIL-FREE, MAILS, MONITORS, PAST, PRIORITY, QUEUE, QUEUED, REST, RUNNING, TIMERS}
use Rattle.tables.specs.Limits.{ACTOR-FACTOR}
use Rattle.tables.specs.State.{State, at, head, poke}
use Rattle.rules.specs.Terms.{actor_id, runner}
use Rattle.rules.specs.Actions.{let_go}
use Rattle.rules.specs.Buses.{aired, oldest_unread}
use Rattle.rules.specs.Calls.{Ans, Fired, Out, Told, deadline_at, depart, ended, entry, fire_all, fired, first_head, first_match, guarded, link_for, link_of}
use Rattle.rules.specs.Calls.{not_at_all, out, receive_bare, refusal, rouse, ruled, sleep, slot_for, steps, through, told, vacate}
use Rattle.rules.specs.Host.{fresh, freed, stated, zeroed}
use Rattle.rules.specs.Run.{say, step}
use Rattle.rules.specs.Trim.{newly, past, trim}
use Rattle.rules.proofs.Ends.Steps.{through_trims}
use Rattle.rules.proofs.Ends.Laws.{laws}
use Rattle.rules.proofs.Frames.TrimLaws.{Trims, here, of, t_poke, t_ready, t_run, t_await, t_disarm, t_tie, t_unwatch, trim-arm, trim-watch, trim-post}
use Rattle.rules.proofs.Frames.TrimLaws.{trim-aired, trim-broadcast, trim-let_go, trim-hand_over, trim-first_head, trim-fire_all, trim-make_bus, trim-read_off, trim-rouse, trim-sit_down, trim-stand_up, trim-vacate, trim_t}

-- ---- the rules
-- an answer, and its state without what lies past
abbrev trim_o : {A : Type 0} → Out A → Out A
trim_o o = out o.ans (trim o.state)

-- an answer, and a state left
left : {A : Type 0} {x : A} {s t : State} → Trims s t → trim_o (out x s) ≡ out x t
left {x = x} e = ap (out x) e.is

-- receive, when the hand is empty
trim-bare : (x c g : ℕ) (wait : ℤ) (a : ℕ) (s : State) → trim_o (receive_bare x c g wait a s) ≡ receive_bare x c g wait a (trim s)
unfolding receive_bare
trim-bare x c g wait a s =
    let j = first_match s a x c g in
    split (ltb j (head s ARRIVED)) (λ q. rw q (left (of (trim-hand_over s a j))))
    (λ q. split (not_at_all wait) (λ p. rw (q, p)) (λ p. rw (q, p) (left (t_await (here s) a x c g (deadline_at (head s CLOCK) wait)))))

-- an end
trim-depart : (k : Caps) (a reason : ℕ) (s : State) → trim_t (depart k a reason s) ≡ depart k a reason (trim s)
unfolding depart
trim-depart k a reason s =
    let t = through steps k a (actor_id s a) reason s in
    ap (told t.sent t.lost) (trim-vacate t.state a) ∙ ap (λ (t : Told). told t.sent t.lost (vacate t.state a)) (through_trims laws k a (actor_id s a) reason s)

-- THE TESTS of each call read nothing that lies past, and THE WORK does on a state without it what it does on the state
trim_work : (o : Op) (k : Caps) (s : State) → ((entry o).tests k (trim s) ≡ (entry o).tests k s) × (trim_o ((entry o).work k s) ≡ (entry o).work k (trim s))
unfolding sleep
trim_work (spawn a) k s = (refl, let i = slot_for k s in left (t_ready (t_poke (t_poke (here s) AGE i (at s AGE i + 1) refl) PRIORITY i a refl) i 0))
trim_work next k s =
    let j = first_head s 4 in
    (refl, rw (trim-first_head s 4) (split (ltb j (head s QUEUED)) (λ q. rw q (left (t_run (here s) (at s QUEUE j) j))) (λ q. rw q)))
trim_work yield k s = (refl, left (t_ready (t_poke (here s) RUNNING 0 0 refl) (runner s - 1) 0))
trim_work (notify a b c) k s = (refl, left (of (trim-post k s _ _ _ _)))
trim_work (receive a b c d) k s = (refl, let i = runner s - 1 in trim-bare a b c d i (let_go s i) ∙ ap (receive_bare a b c d i) (trim-let_go s i))
trim_work show k s = (refl, refl)
trim_work shown k s = (refl, refl)
trim_work (after a) k s = (refl, left (of (trim-arm s _ _ _ _)))
trim_work (every a) k s = (refl, left (of (trim-arm s _ _ _ _)))
trim_work (cancel a) k s = (refl, left (t_disarm (here s) _))
trim_work (link a) k s =
    let b = suc (slot_of ACTOR-FACTOR a) in
    (refl, split (ltb (link_of k s (runner s) b) k.links) (λ q. rw q) (λ q. rw q (left (t_tie (here s) (link_for k s) (runner s) b))))
trim_work (unlink a) k s = (refl, left (t_tie (here s) _ 0 0))
trim_work (monitor a) k s = (refl, left (of (trim-watch s _ _ _)))
trim_work (demonitor a) k s = (refl, left (t_unwatch (here s) _))
trim_work (exit a) k s = (refl, ap (λ (t : Told). out (ended 0 t.sent t.lost) t.state) (trim-depart k (runner s - 1) a s))
trim_work (advance a) k s =
    let c = head s CLOCK + a in
    let u = (fire_all k k.timers (fired 0 (poke s CLOCK 0 c))).state in (
      refl,
      left (of (trim-aired (rouse k k.actors u) ∙ ap aired (trim-rouse k k.actors u)))
          ∙ ap (λ (f : Fired). out (record { no = 0; fired = f.count }) (aired (rouse k k.actors f.state)))
          (trim-fire_all k k.timers (fired 0 (poke s CLOCK 0 c))
          ∙ ap (λ (u : State). fire_all k k.timers (fired 0 u)) (t_poke (here s) CLOCK 0 c refl).is),
    )
trim_work report k s = (refl, refl)
trim_work (bus a b c d) k s = (refl, left (of (trim-make_bus s a b c d)))
trim_work (publish b m) k s = (refl, left (of (trim-broadcast k s b m)))
trim_work (subscribe b) k s = (refl, left (of (trim-sit_down s b _ _)))
trim_work (unsubscribe b) k s = (refl, left (of (trim-stand_up k s b _)))
trim_work (read b n) k s =
    let j = oldest_unread s b (runner s) in
    (refl, split (ltb j (head s ISSUED)) (λ q. rw q (left (of (trim-read_off s b _ j)))) (λ q. rw q))

-- the same tests, then works that do the same
trim-guarded : {A : Type 0} (refusal : ℕ → A) (ts : List Test) (s : State) (x y : Out A) → trim_o x ≡ y → trim_o (guarded refusal ts s x) ≡ guarded refusal ts (trim s) y
trim-guarded refusal [] s x y e = e
trim-guarded refusal (t ∷ ts) s x y e = split t.says (λ q. rw q) (λ q. rw q (trim-guarded refusal ts s x y e))

-- THE THEOREM: what lies past the needed words and bytes is not read, neither for an answer nor for what is left, and nothing is written there
pub trim-step : (o : Op) (k : Caps) (s : State) → ((step o k (trim s)).ans ≡ (step o k s).ans) × ((step o k (trim s)).state ≡ trim (step o k s).state)
unfolding ruled
trim-step o k s =
    let (tests, work) = trim_work o k s in
    let e : trim_o (ruled (entry o) k s) ≡ ruled (entry o) k (trim s) = rw tests (trim-guarded (refusal (entry o).shape) ((entry o).tests k s) s _ _ work) in
    (sym (ap (λ (x : Out (Ans (entry o).shape)). say (entry o).shape x.ans) e), sym (ap (λ (x : Out (Ans (entry o).shape)). x.state) e))

-- ---- start
-- zeros, whatever was there
trim-zeroed : (k : Caps) (s : State) → trim (zeroed k s) ≡ zeroed k (λ c. [])
unfolding zeroed
trim-zeroed k s = fun_ext (λ c. split (eqb c REST) (λ q. rw q) (λ q. split (eqb c PAST) (λ p. rw (q, p)) (λ p. rw (q, p))))

module _ {s t : State} (e : Trims s t) where
  -- the capacities
  t_stated : (k : Caps) → Trims (stated k s) (stated k t)
  unfolding stated
  t_stated k = t_poke (t_poke (t_poke (t_poke (t_poke (t_poke e ACTORS 0 _ refl) MAILS 0 _ refl) DATAS 0 _ refl) LINKS 0 _ refl) MONITORS 0 _ refl) TIMERS 0 _ refl

  -- every entry free
  t_freed : (c n : ℕ) → past c ≡ false → Trims (freed c n s) (freed c n t)
  unfolding freed
  t_freed c n h = t_poke (t_poke (t_poke (t_poke e c 0 _ h) c 1 _ h) c 2 _ h) c 3 _ h

-- THE LAW: without what lies past, a fresh runtime is the same whatever the buffers held
pub trim-fresh : (k : Caps) (s : State) → trim (fresh k s) ≡ newly k
unfolding fresh newly
trim-fresh k s = (t_freed (t_freed (t_stated (of (trim-zeroed k s)) k) MAIL-FREE k.mails refl) DATA-FREE k.datas refl).is
