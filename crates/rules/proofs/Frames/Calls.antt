-- What the work of each call writes.
use Prim.Native.Nat.{ℕ, zero, suc}
use mathlib.Core.Path.{refl}
use mathlib.Core.Bool.{Bool, not, ◌&&◌}
use mathlib.Core.List.{List, [], ◌∷◌, ◌++◌}
use lib.IntN.{ℤ}
use lib.Dec.{eqb, ltb}
use Rattle.pools.specs.Slot.{slot_of}
use Rattle.pools.proofs.BoolLaws.{split}
use Rattle.tables.specs.declared.Caps.{Caps}
use Rattle.tables.specs.Columns.{AGE, ARRIVED, CLOCK, DUE, HAND, INTERVAL, PRIORITY, QUEUE, QUEUED, REASON, RUNNING, STATE, TIMER-OWNER, WATCHED}
use Rattle.tables.specs.Limits.{ACTOR-FACTOR, LEVELS}
use Rattle.tables.specs.State.{State, at, head}
use Rattle.rules.specs.Aged.{Aged, end_own, monitor_pool, timer_pool}
use Rattle.rules.specs.Terms.{TIMEOUT, runner}
use Rattle.rules.specs.Actions.{has_room}
use Rattle.rules.specs.Calls.{Fired, Told, advance_entry, arm_entry, cut_link, cut_links, cut_monitor, cut_monitors, fire, fire_all, first_head, first_match}
use Rattle.rules.specs.Calls.{hand_over, link_entry, link_of, next_due, next_entry, next_overdue, not_at_all, rearm, receive_bare, receive_entry, rouse, spawn_entry}
use Rattle.rules.proofs.Frames.Pools.{own_ends, use_begins, use_ends}
use Rattle.rules.proofs.Kept.Exit.{tell_wrote}
use Rattle.rules.proofs.Frames.Wrote.{Beside, beside_of, beside_over, beside_poke, beside_still, beside_within, wrote_none, wrote_poke}
use Rattle.rules.proofs.Frames.Buses.{AIRED, beside_aired}
use Rattle.rules.proofs.Frames.Actions.{EYE-CUT, LINK-CUT, LINKED, MAILED, POSTED, TIMED, beside_delist, beside_run, wrote_await, wrote_let_go, wrote_post, wrote_ready, wrote_rearm, wrote_tie, wrote_unwait}

-- ---- exit
-- the links with every partner
pub beside_cut_links : (k : Caps) (a me reason b : ℕ) (t : Told) → Beside LINK-CUT t.state (cut_links k a me reason b t).state
unfolding cut_links cut_link
beside_cut_links k a me reason zero t = beside_still LINK-CUT t.state
beside_cut_links k a me reason (suc b) t =
    let u = (cut_links k a me reason b t).state in
    let below = beside_cut_links k a me reason b t in
    split (ltb (link_of k u (suc a) (suc b)) k.links)
    (λ q. rw q (beside_over LINK-CUT (beside_over LINK-CUT below (beside_of (wrote_tie (wrote_none u) _ 0 0)) refl)
    (beside_of (tell_wrote k _ b me reason 0)) refl)) (λ q. rw q below)

-- the monitors on the actor
pub beside_cut_monitors : (k : Caps) (a me reason i : ℕ) (t : Told) → Beside EYE-CUT t.state (cut_monitors k a me reason i t).state
unfolding cut_monitors cut_monitor
beside_cut_monitors k a me reason zero t = beside_still EYE-CUT t.state
beside_cut_monitors k a me reason (suc i) t =
    let u = (cut_monitors k a me reason i t).state in
    let below = beside_cut_monitors k a me reason i t in
    split (eqb (at u WATCHED i) (suc a))
    (λ q. rw q (beside_over EYE-CUT (beside_over EYE-CUT below (beside_of (use_ends monitor_pool u i).wrote) refl)
    (beside_of (tell_wrote k _ _ me reason _)) refl)) (λ q. rw q below)

-- its own of a pool
pub beside_own : (P : Aged) (a n : ℕ) (s : State) → Beside (P.word ∷ P.rest) s (end_own P a n s)
beside_own P a n s = beside_of (own_ends P a s n).wrote

-- ---- advance
-- timers that fire
abbrev pub FIRED : List ℕ
FIRED = INTERVAL ∷ DUE ∷ TIMER-OWNER ∷ POSTED

abbrev pub ADVANCED : List ℕ
ADVANCED = CLOCK ∷ (FIRED ++ AIRED)

-- every timer that fires
pub beside_fire_all : (k : Caps) (m : ℕ) (f : Fired) → Beside FIRED f.state (fire_all k m f).state
unfolding fire_all fire
beside_fire_all k zero f = beside_still FIRED f.state
beside_fire_all k (suc m) f =
    split (not (eqb (next_due k f.state) 0) && has_room k f.state)
    (λ q. rw q (beside_over FIRED (beside_over FIRED (beside_of (wrote_rearm f.state _)) (beside_of (wrote_post k (rearm f.state _) _ 0 _ _)) refl) (beside_fire_all k m _) refl))
    (λ q. rw q (beside_still FIRED f.state))

-- every one whose deadline has come
pub beside_rouse : (k : Caps) (m : ℕ) (s : State) → Beside POSTED s (rouse k m s)
unfolding rouse
beside_rouse k zero s = beside_still POSTED s
beside_rouse k (suc m) s =
    split (eqb (next_overdue k s) 0) (λ q. rw q (beside_still POSTED s))
    (λ q. rw q (beside_over POSTED (beside_of (wrote_ready (wrote_unwait (wrote_none s) _) _ TIMEOUT)) (beside_rouse k m _) refl))

-- advance
pub beside_advance : (micros : ℕ) (k : Caps) (s : State) → Beside ADVANCED s ((advance_entry micros).work k s).state
beside_advance micros k s =
    beside_over ADVANCED
    (beside_over ADVANCED (beside_over ADVANCED (beside_poke (beside_still [] s) CLOCK 0 _) (beside_fire_all k k.timers _) refl) (beside_rouse k k.actors _) refl)
    (beside_aired _) refl

-- ---- the others
-- spawn
pub beside_spawn : (priority : ℕ) (k : Caps) (s : State) → Beside (QUEUED ∷ QUEUE ∷ REASON ∷ STATE ∷ PRIORITY ∷ AGE ∷ []) s ((spawn_entry priority).work k s).state
beside_spawn priority k s = beside_of (wrote_ready (wrote_poke (wrote_poke (wrote_none s) AGE _ _) PRIORITY _ priority) _ 0)

-- next
pub beside_next : (k : Caps) (s : State) → Beside (RUNNING ∷ REASON ∷ STATE ∷ QUEUED ∷ QUEUE ∷ []) s (next_entry.work k s).state
beside_next k s = split (ltb (first_head s LEVELS) (head s QUEUED)) (λ p. rw p (beside_run s _ _)) (λ p. rw p (beside_still _ s))

-- receive
abbrev pub RECEIVED : List ℕ
RECEIVED = RUNNING ∷ (MAILED ++ POSTED)

-- once the hand is empty
beside_bare : (sender class tag : ℕ) (wait : ℤ) (a : ℕ) (s : State) → Beside RECEIVED s (receive_bare sender class tag wait a s).state
unfolding receive_bare hand_over
beside_bare sender class tag wait a s =
    split (ltb (first_match s a sender class tag) (head s ARRIVED)) (λ p. rw p (beside_within RECEIVED (beside_poke (beside_delist s _) HAND a _) refl))
    (λ p. split (not_at_all wait) (λ q. rw (p, q) (beside_still RECEIVED s)) (λ q. rw (p, q) (beside_within RECEIVED (beside_of (wrote_await (wrote_none s) a sender class tag _)) refl)))

pub beside_receive : (sender class tag : ℕ) (wait : ℤ) (k : Caps) (s : State) → Beside RECEIVED s ((receive_entry sender class tag wait).work k s).state
beside_receive sender class tag wait k s = beside_over RECEIVED (beside_of (wrote_let_go s _)) (beside_bare sender class tag wait _ _) refl

-- after and every
pub beside_arm : (delay interval : ℕ) (bad : Bool) (k : Caps) (s : State) → Beside TIMED s ((arm_entry delay interval bad).work k s).state
beside_arm delay interval bad k s = beside_within TIMED (beside_of (use_begins timer_pool s _ _ _ refl refl).wrote) refl

-- link
pub beside_link : (id : ℕ) (k : Caps) (s : State) → Beside LINKED s ((link_entry id).work k s).state
beside_link id k s =
    split (ltb (link_of k s (runner s) (suc (slot_of ACTOR-FACTOR id))) k.links) (λ d. rw d (beside_still LINKED s)) (λ d. rw d (beside_of (wrote_tie (wrote_none s) _ _ _)))
