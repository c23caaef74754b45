-- What each action writes.
use Prim.Native.Nat.{ℕ, zero, suc, ◌-◌, ◌≤◌, ◌<◌}
use mathlib.Core.Path.{◌≡◌, refl}
use mathlib.Core.List.{List, [], ◌∷◌, ◌++◌}
use mathlib.Core.Bool.{false}
use lib.ListN.{length}
use lib.Dec.{eqb, ltb}
use Rattle.pools.proofs.BoolLaws.{split}
use Rattle.tables.specs.declared.Caps.{Caps}
use Rattle.tables.specs.Columns.{ARRIVAL, ARRIVED, DATA-FREE, DEADLINE, DUE, HAND, INTERVAL, LENGTH, LINK-ONE, LINK-TWO, MAIL-DATA, MAIL-FREE, MAIL-OWNER}
use Rattle.tables.specs.Columns.{PAYLOAD, QUEUE, QUEUED, REASON, RUNNING, SENDER, STATE, TIMER-AGE, TIMER-OWNER, WANT-CLASS, WANT-SENDER, WANT-TAG}
use Rattle.tables.specs.Columns.{WATCHED, WATCHER}
use Rattle.tables.specs.State.{State, at, head}
use Rattle.rules.specs.Aged.{timer_pool}
use Rattle.rules.specs.Actions.{data_for, delist, enlist, fill, has_room, hears, let_go, mail_for, post, ready, stir, unfill, unwait}
use Rattle.rules.specs.Calls.{await, drop_all, drop_first, emptied, first_of, rearm, run, tie}
use Rattle.rules.specs.Terms.{MESSAGE}
use Rattle.rules.proofs.Frames.Pools.{use_ends}
use Rattle.rules.proofs.Frames.Wrote.{Beside, Wrote, beside_free, beside_of, beside_over, beside_poke, beside_pull, beside_still, mem, wrote_cond}
use Rattle.rules.proofs.Frames.Wrote.{wrote_free, wrote_none, wrote_poke, wrote_pull, wrote_push, wrote_still, wrote_take, wrote_within, wrote_write}

-- ---- the columns of links and of timers
abbrev pub LINKED : List ℕ
LINKED = LINK-TWO ∷ LINK-ONE ∷ []

-- of timers
abbrev pub TIMED : List ℕ
TIMED = INTERVAL ∷ DUE ∷ TIMER-OWNER ∷ TIMER-AGE ∷ []

module _ {ws : List ℕ} {s t : State} (w : Wrote ws s t) where
  -- ---- running
  pub wrote_ready : (a reason : ℕ) → Wrote (QUEUED ∷ QUEUE ∷ REASON ∷ STATE ∷ ws) s (ready t a reason)
  unfolding ready
  wrote_ready a reason = wrote_push (wrote_poke (wrote_poke w STATE a _) REASON a reason) QUEUE QUEUED a

  pub wrote_unwait : (a : ℕ) → Wrote (DEADLINE ∷ WANT-TAG ∷ WANT-CLASS ∷ WANT-SENDER ∷ ws) s (unwait t a)
  unfolding unwait
  wrote_unwait a = wrote_poke (wrote_poke (wrote_poke (wrote_poke w WANT-SENDER a 0) WANT-CLASS a 0) WANT-TAG a 0) DEADLINE a 0

  pub wrote_await : (a sender class tag deadline : ℕ) → Wrote (DEADLINE ∷ WANT-TAG ∷ WANT-CLASS ∷ WANT-SENDER ∷ STATE ∷ RUNNING ∷ ws) s (await t a sender class tag deadline)
  unfolding await
  wrote_await a sender class tag deadline = wrote_poke (wrote_poke (wrote_poke (wrote_poke (wrote_poke (wrote_poke w RUNNING 0 0) STATE a _) WANT-SENDER a sender) WANT-CLASS a class) WANT-TAG a tag) DEADLINE a deadline

  pub wrote_run : (a j : ℕ) → j < head t QUEUED → head t QUEUED ≤ length (t QUEUE) → Wrote (RUNNING ∷ REASON ∷ STATE ∷ QUEUED ∷ QUEUE ∷ ws) s (run t a j)
  unfolding run
  wrote_run a j h g = wrote_poke (wrote_poke (wrote_poke (wrote_pull w QUEUE QUEUED j h g) STATE a _) REASON a 0) RUNNING 0 (suc a)

  -- ---- messages
  pub wrote_fill : (d sender h : ℕ) (payload : List ℕ) → Wrote (PAYLOAD ∷ PAYLOAD ∷ LENGTH ∷ SENDER ∷ DATA-FREE ∷ ws) s (fill t d sender h payload)
  unfolding fill
  wrote_fill d sender h payload = wrote_write (wrote_write (wrote_poke (wrote_poke (wrote_take w DATA-FREE d) SENDER d sender) LENGTH d _) d 0 _) d 4 payload

  pub wrote_unfill : (d : ℕ) → Wrote (PAYLOAD ∷ LENGTH ∷ SENDER ∷ DATA-FREE ∷ ws) s (unfill t d)
  unfolding unfill
  wrote_unfill d = wrote_write (wrote_poke (wrote_poke (wrote_free w DATA-FREE d) SENDER d 0) LENGTH d 0) d 0 _

  pub wrote_enlist : (e a d : ℕ) → Wrote (ARRIVED ∷ ARRIVAL ∷ MAIL-DATA ∷ MAIL-OWNER ∷ MAIL-FREE ∷ ws) s (enlist t e a d)
  unfolding enlist
  wrote_enlist e a d = wrote_push (wrote_poke (wrote_poke (wrote_take w MAIL-FREE e) MAIL-OWNER e _) MAIL-DATA e _) ARRIVAL ARRIVED e

  -- ---- links
  pub wrote_tie : (e a b : ℕ) → Wrote (LINK-TWO ∷ LINK-ONE ∷ ws) s (tie t e a b)
  unfolding tie
  wrote_tie e a b = wrote_poke (wrote_poke w LINK-ONE e a) LINK-TWO e b

-- a timer fires
pub wrote_rearm : (s : State) (i : ℕ) → Wrote (TIMER-OWNER ∷ DUE ∷ INTERVAL ∷ []) s (rearm s i)
unfolding rearm
wrote_rearm s i = wrote_cond (eqb (at s INTERVAL i) 0) (use_ends timer_pool s i).wrote (wrote_within _ (wrote_poke (wrote_none s) DUE i _) refl)

-- the hand lets go
pub wrote_let_go : (s : State) (a : ℕ) → Wrote (HAND ∷ PAYLOAD ∷ LENGTH ∷ SENDER ∷ DATA-FREE ∷ []) s (let_go s a)
unfolding let_go
wrote_let_go s a = wrote_cond (eqb (at s HAND a) 0) (wrote_still _ s) (wrote_poke (wrote_unfill (wrote_none s) (at s HAND a - 1)) HAND a 0)

-- the columns of messages
abbrev pub MAILED : List ℕ
MAILED = HAND ∷ ARRIVED ∷ ARRIVAL ∷ MAIL-DATA ∷ MAIL-OWNER ∷ MAIL-FREE ∷ PAYLOAD ∷ LENGTH ∷ SENDER ∷ DATA-FREE ∷ []

-- a message: the counts of queue and arrivals, the free bits, states, reasons, what is waited for, queue, mailbox entries, arrivals, data entries
abbrev pub POSTED : List ℕ
POSTED =
    QUEUED ∷ QUEUE ∷ REASON ∷ STATE ∷ DEADLINE ∷ WANT-TAG ∷ WANT-CLASS ∷ WANT-SENDER
    ∷ ARRIVED ∷ ARRIVAL ∷ MAIL-DATA ∷ MAIL-OWNER ∷ MAIL-FREE ∷ PAYLOAD ∷ LENGTH ∷ SENDER ∷ DATA-FREE ∷ []

-- links that end with their notices
abbrev pub LINK-CUT : List ℕ
LINK-CUT = LINKED ++ POSTED

-- monitors that end with theirs
abbrev pub EYE-CUT : List ℕ
EYE-CUT = WATCHED ∷ WATCHER ∷ POSTED

pub wrote_post : (k : Caps) (s : State) (a sender h : ℕ) (payload : List ℕ) → Wrote POSTED s (post k s a sender h payload)
unfolding post stir
wrote_post k s a sender h payload =
    let w = wrote_enlist (wrote_fill (wrote_none s) (data_for k s) sender h payload) (mail_for k s) a (data_for k s) in
    wrote_cond (hears (enlist (fill s (data_for k s) sender h payload) (mail_for k s) a (data_for k s)) a sender h) (wrote_within POSTED (wrote_ready (wrote_unwait w a) a MESSAGE) refl) (wrote_within POSTED w refl)

-- what takes and frees no entry leaves the room for messages
pub room_still : {ws : List ℕ} {s t : State} (k : Caps) → Wrote ws s t → mem MAIL-FREE ws ≡ false → mem DATA-FREE ws ≡ false → has_room k t ≡ has_room k s
room_still k w e f = rw (w.cols MAIL-FREE e, w.cols DATA-FREE f)

-- ---- where one leaves a list, with no premise
-- a mailbox entry is freed
pub beside_delist : (s : State) (j : ℕ) → Beside (ARRIVED ∷ ARRIVAL ∷ MAIL-DATA ∷ MAIL-OWNER ∷ MAIL-FREE ∷ []) s (delist s j)
unfolding delist
beside_delist s j = beside_pull (beside_poke (beside_poke (beside_free (beside_still [] s) MAIL-FREE (at s ARRIVAL j)) MAIL-OWNER (at s ARRIVAL j) 0) MAIL-DATA (at s ARRIVAL j) 0) ARRIVAL ARRIVED j

-- the first of the queue runs
pub beside_run : (s : State) (a j : ℕ) → Beside (RUNNING ∷ REASON ∷ STATE ∷ QUEUED ∷ QUEUE ∷ []) s (run s a j)
unfolding run
beside_run s a j = beside_poke (beside_poke (beside_poke (beside_pull (beside_still [] s) QUEUE QUEUED j) STATE a _) REASON a 0) RUNNING 0 (suc a)

-- messages are freed
abbrev pub DROPPED : List ℕ
DROPPED = ARRIVED ∷ ARRIVAL ∷ MAIL-DATA ∷ MAIL-OWNER ∷ MAIL-FREE ∷ PAYLOAD ∷ LENGTH ∷ SENDER ∷ DATA-FREE ∷ []

-- the first of a slot
pub beside_drop_first : (s : State) (a : ℕ) → Beside DROPPED s (drop_first s a)
unfolding drop_first
beside_drop_first s a =
    split (ltb (first_of s a) (head s ARRIVED)) (λ q. rw q (beside_over DROPPED (beside_delist s _) (beside_of (wrote_unfill (wrote_none _) _)) refl)) (λ q. rw q (beside_still DROPPED s))

-- all of them
pub beside_drop_all : (m : ℕ) (s : State) (a : ℕ) → Beside DROPPED s (drop_all m s a)
unfolding drop_all
beside_drop_all zero s a = beside_still DROPPED s
beside_drop_all (suc m) s a = beside_over DROPPED (beside_drop_first s a) (beside_drop_all m (drop_first s a) a) refl

-- hand and mailbox of a slot are freed: columns of messages
pub beside_emptied : (s : State) (a : ℕ) → Beside MAILED s (emptied s a)
beside_emptied s a = beside_over MAILED (beside_of (wrote_let_go s a)) (beside_drop_all (at s ARRIVED 0) (let_go s a) a) refl
