-- What the work of a call leaves alone, from the frame that it has: ages, of which none falls and only a call that begins a use raises one, what is past the needed words and bytes, and how long is waited.
use Prim.Native.Nat.{ℕ, suc, ◌+◌, ◌-◌, ◌≤◌}
use native.Mathlib.Decide.{dec_lt}
use native.Mathlib.Omega.{arith}
use mathlib.Core.Path.{◌≡◌, refl}
use mathlib.Core.Bool.{Bool, true, false, not, ◌&&◌}
use mathlib.Core.List.{List, [], ◌∷◌}
use lib.ListN.{length, get_or, set}
use lib.Seq.{get_or-set_same, get_or-set_other, set_out}
use lib.Dec.{eqb, ltb}
use borrow.Author.Tests.{eqb-true, eqb-false, not-true}
use Rattle.ledger.specs.Call.{Op}
use Rattle.ledger.specs.Call.Op.{after, every, monitor, spawn}
use Rattle.pools.specs.Slot.{aged}
use Rattle.pools.proofs.BoolLaws.{split, and_left, and_right}
use Rattle.tables.specs.declared.Caps.{Caps}
use Rattle.tables.specs.Columns.{AGE, CLOCK, MONITOR-AGE, PAST, PRIORITY, QUEUE, QUEUED, REASON, REST, STATE, TIMER-AGE, WATCHED, WATCHER}
use Rattle.tables.specs.Limits.{LONGEST}
use Rattle.tables.specs.State.{State, head, with_col, poke}
use Rattle.tables.specs.Action.{push}
use Rattle.rules.specs.Actions.{ready}
use Rattle.rules.specs.Aged.{monitor_pool, timer_pool}
use Rattle.rules.specs.Terms.{runner}
use Rattle.rules.specs.Calls.{arm_entry, bad_interval, entry, monitor_entry, monitor_for, slot_for, spawn_entry, timer_for}
use Rattle.rules.proofs.Frames.Actions.{TIMED}
use Rattle.rules.proofs.Frames.Calls.{beside_arm, beside_spawn}
use Rattle.rules.proofs.Frames.Pools.{Begins, use_begins}
use Rattle.rules.proofs.Kept.Waits.{WAIT-TIMES, daily_still}
use Rattle.rules.proofs.Claims.{AGES, Framed, Grown, Waits}
use Rattle.rules.proofs.Frames.Wrote.{All, Beside, apart, beside_of, mem}

-- a use of slot i begins
aged-le : (l : List ℕ) (i a : ℕ) → get_or l a 0 ≤ get_or (set l i (get_or l i 0 + 1)) a 0
aged-le l i a =
    split (eqb a i)
    (λ q. let e : a ≡ i = eqb-true a i q in elim (dec_lt i (length l)) [
      | yes h ↦ rw (e, get_or-set_same l i (get_or l i 0 + 1) 0 h) (omega arith)
      | no h ↦ rw (set_out l i (get_or l i 0 + 1) (omega arith)) (omega arith)
    ])
    (λ q. rw (get_or-set_other l i a (get_or l i 0 + 1) 0 (eqb-false a i q)) (omega arith))

-- ---- no age falls
-- in a column that is not written
still : {ws : List ℕ} {s t : State} → Beside ws s t → (c : ℕ) → mem c ws ≡ false → Grown s t c
still w c e i = rw (w.cols c e) (omega arith)

-- in columns of which none is written
stills : {ws : List ℕ} {s t : State} → Beside ws s t → (cs : List ℕ) → apart cs ws ≡ true → All (Grown s t) cs
stills w [] e = tt
stills {ws} w (c ∷ cs) e = (still w c (not-true (mem c ws) (and_left (not (mem c ws)) (apart cs ws) e)), stills w cs (and_right (not (mem c ws)) (apart cs ws) e))

-- in a column where the use of a slot begins: "A slot's age is 1 at its first use, one more at each later use"
raised : (s t : State) (c i : ℕ) → t c ≡ aged (s c) i → Grown s t c
raised s t c i e j = rw e (aged-le (s c) i j)

-- ---- what the work of a call leaves alone
-- a spawn raises the age of a slot of actors
spawn_raised : (priority : ℕ) (k : Caps) (s : State) → ((spawn_entry priority).work k s).state AGE ≡ aged (s AGE) (slot_for k s)
unfolding ready push poke with_col
spawn_raised priority k s = refl

pub spawn_framed : (priority : ℕ) → Framed (spawn priority)
spawn_framed priority = record {
  writes = QUEUED ∷ QUEUE ∷ REASON ∷ STATE ∷ PRIORITY ∷ AGE ∷ [];
  frame = beside_spawn priority;
  past = refl;
  ages = λ k s. (raised s ((spawn_entry priority).work k s).state AGE (slot_for k s) (spawn_raised priority k s), stills (beside_spawn priority k s) (TIMER-AGE ∷ MONITOR-AGE ∷ []) refl);
  waits = λ k s p. daily_still (beside_spawn priority k s) refl;
}

-- after and every raise that of a slot of timers
module _ (delay interval : ℕ) (bad : Bool) where
  pub arm_raised : (k : Caps) (s : State) → ((arm_entry delay interval bad).work k s).state TIMER-AGE ≡ aged (s TIMER-AGE) (timer_for k s)
  arm_raised k s = (use_begins timer_pool s (timer_for k s) (suc (runner s - 1)) ((head s CLOCK + delay) ∷ interval ∷ []) refl refl).age

  pub arm_ages : (k : Caps) (s : State) → All (Grown s ((arm_entry delay interval bad).work k s).state) AGES
  arm_ages k s =
      let w = beside_arm delay interval bad k s in
      (still w AGE refl, (raised s ((arm_entry delay interval bad).work k s).state TIMER-AGE (timer_for k s) (arm_raised k s), stills w (MONITOR-AGE ∷ []) refl))

pub after-framed : (delay : ℕ) → Framed (after delay)
after-framed delay = let bad = ltb LONGEST delay in record { writes = TIMED; frame = beside_arm delay 0 bad; past = refl; ages = arm_ages delay 0 bad; waits = λ k s p. daily_still (beside_arm delay 0 bad k s) refl }

pub every_framed : (interval : ℕ) → Framed (every interval)
every_framed interval = let bad = bad_interval interval in record { writes = TIMED; frame = beside_arm interval interval bad; past = refl; ages = arm_ages interval interval bad; waits = λ k s p. daily_still (beside_arm interval interval bad k s) refl }

-- a monitor that of a slot of monitors
pub monitor-framed : (id : ℕ) → Framed (monitor id)
monitor-framed id = record {
  writes = MONITOR-AGE ∷ WATCHER ∷ WATCHED ∷ [];
  frame = λ k s. beside_of (begun k s).wrote;
  past = refl;
  ages = λ k s. let w = beside_of (begun k s).wrote in
      (still w AGE refl, (still w TIMER-AGE refl, (raised s ((monitor_entry id).work k s).state MONITOR-AGE (monitor_for k s) (begun k s).age, tt)));
  waits = λ k s p. daily_still (beside_of (begun k s).wrote) refl;
}
  where
    -- the use of a slot begins
    begun : (k : Caps) (s : State) → Begins monitor_pool (monitor_for k s) (runner s) s ((monitor_entry id).work k s).state
    begun k s = use_begins monitor_pool s (monitor_for k s) (runner s) _ refl refl

-- every other call: it writes neither ages nor what is past the needed words and bytes
module _ (o : Op) {ws : List ℕ} (w : (k : Caps) (s : State) → Beside ws s ((entry o).work k s).state) where
  -- one that writes clock or deadlines has a law of its own on waits
  pub framed-with : Waits o → apart AGES ws && apart (REST ∷ PAST ∷ []) ws ≡ true → Framed o
  framed-with waits e = record {
    writes = ws;
    frame = w;
    past = and_right (apart AGES ws) (apart (REST ∷ PAST ∷ []) ws) e;
    ages = λ k s. stills (w k s) AGES (and_left (apart AGES ws) (apart (REST ∷ PAST ∷ []) ws) e);
    waits = waits;
  }

  -- one that does not needs none
  pub framed : apart WAIT-TIMES ws && (apart AGES ws && apart (REST ∷ PAST ∷ []) ws) ≡ true → Framed o
  framed e =
      let others = apart AGES ws && apart (REST ∷ PAST ∷ []) ws in
      framed-with (λ k s p. daily_still (w k s) (and_left (apart WAIT-TIMES ws) others e)) (and_right (apart WAIT-TIMES ws) others e)
