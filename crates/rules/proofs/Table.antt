-- What is proved of each call but start (Kept/Start.antt), in one table; and from it what is so of every call. Claims.antt says what is to be proved.
use Prim.Native.Nat.{ℕ, ◌-◌}
use native.Mathlib.Omega.{arith}
use mathlib.Core.Path.{◌≡◌, refl, sym, ap, subst, ◌∙◌}
use mathlib.Core.Logic.{◌⊎◌, inl, inr, ⊎_elim, ◌↔◌}
use mathlib.Core.Bool.{Bool, true, false, not, ◌&&◌}
use mathlib.Core.List.{List, [], ◌∷◌, ◌++◌, map}
use lib.IntN.{ℤ}
use lib.Dec.{eqb, ltb}
use borrow.Author.Tests.{eq-eqb, eqb-false, eqb-true, ne_eqb}
use Rattle.ledger.specs.Call.{Answer, Found, Op, Why, code, counted, first_yes, found, number, numbered, refuses, zeroed}
use Rattle.ledger.specs.Call.Call.{op}
use Rattle.ledger.specs.Call.Found.{all, nothing, waits}
use Rattle.ledger.specs.Call.Why.{full}
use Rattle.ledger.specs.Call.Op.{spawn, next, yield, notify, receive, show, shown, after, every, cancel, link, unlink, monitor, demonitor, exit, advance, report, bus, publish, subscribe, unsubscribe, read}
use Rattle.ledger.specs.Ledger.{Actor, Ledger, Message, People, Says}
use Rattle.ledger.specs.Reckon.{aired, bus_made, cleared, departed, end_links, end_monitors, end_readers, end_timers, entered, evicted, firings, gone, issued, joined, later, empty_handed as released, linked, message, page, short, picked_up, ticks, refusal_due, wanted}
use Rattle.ledger.specs.Lists.{some, those}
use Rattle.ledger.specs.Room.{bus_full, holds, idle, oldest_unread}
use Rattle.pools.proofs.BoolLaws.{and_right, split, true_false}
use Rattle.tables.specs.declared.Caps.{Caps}
use Rattle.tables.specs.Columns.{ARRIVED, ISSUED, QUEUED, RUNNING}
use Rattle.tables.specs.Limits.{LEVELS}
use Rattle.tables.specs.State.{State, head}
use Rattle.rules.specs.Aged.{monitor_pool, timer_pool}
use Rattle.rules.specs.Terms.{runner}
use Rattle.rules.specs.Actions.{let_go}
use Rattle.rules.specs.Agrees.{Agrees}
use Rattle.rules.specs.Buses.{oldest_unread as unread_at}
use Rattle.rules.specs.Calls.{Ans, Out, Shape, entry, first_head, first_match, not_at_all, ordered, out, receive_bare, refusal, ruled}
use Rattle.rules.specs.Calls.Shape.{a_number, an_id, a_turn, a_message, a_part, a_place, an_end, an_advance, a_report, a_copy}
use Rattle.rules.specs.Run.{numbers, said, say, step}
use Rattle.rules.proofs.Reckoned.Beats.{advance_beats, armed_beats, ended_beats}
use Rattle.rules.proofs.Reckoned.Clock.{advance_agrees, advance_counts, advance_keeps, advance_same}
use Rattle.rules.proofs.Frames.Pools.{use_ends}
use Rattle.rules.proofs.Frames.Ages.{after-framed, every_framed, framed, framed-with, monitor-framed, spawn_framed}
use Rattle.rules.proofs.Frames.Buses.{AIRED, beside_broadcast, beside_read_off, wrote_make_bus, wrote_sit_down, wrote_stand_up}
use Rattle.rules.proofs.Frames.Calls.{beside_advance, beside_link, beside_next, beside_receive}
use Rattle.rules.proofs.Claims.{AGES, Agreed, Counted, Daily, Framed, Grown, Keeps, Silent, Speaks, Tested}
use Rattle.rules.proofs.Ends.Departs.{beside_depart, exit_agrees, exit_counts, exit_keeps, exit_same}
use Rattle.rules.proofs.Reckoned.Firing.{some_then}
use Rattle.rules.proofs.Lists.Each.{all_one}
use Rattle.rules.proofs.Lists.Notices.{some-those}
use Rattle.rules.proofs.Frames.Wrote.{Beside, beside_of, beside_still, mem, wrote_none, wrote_poke}
use Rattle.rules.proofs.Frames.Actions.{wrote_post, wrote_ready, wrote_tie}
use Rattle.rules.specs.Good.{Good}
use Rattle.rules.proofs.Guards.{Passed, found_well, guarded-all, guarded-heard, guarded-numbers, guarded_yes, one_of, why_found, why_refuses}
use Rattle.rules.proofs.Kept.Buses.{bus_keeps, publish_keeps, read_keeps, subscribe_keeps, unsubscribe_keeps}
use Rattle.rules.proofs.Kept.Messages.{notify_keeps, receive_keeps}
use Rattle.rules.proofs.Reckoned.Buses.{bus_agrees, bus-same, publish_agrees, publish_same, read_agrees, read_same, subscribe_agrees, subscribe_same, unsubscribe_agrees, unsubscribe_same}
use Rattle.rules.proofs.Reckoned.Messages.{notify_agrees, notify_same, receive_agrees, receive-same}
use Rattle.rules.proofs.Reckoned.Pages.{Paged, fires_does, more-some, quietly, reading_else, silently, steadily, within_all, within-but, within_end, Within}
use Rattle.rules.proofs.Kept.Running.{next_keeps, spawn_keeps, yield_keeps}
use Rattle.rules.proofs.Kept.Waits.{advance_waits, exit_waits, notify_waits, receive-waits}
use Rattle.rules.proofs.Reckoned.Running.{next_agrees, next-same, report_counts, shown_same, spawn_agrees, spawn_same, yield_agrees, yield_same}
use Rattle.rules.proofs.Reckoned.Tests.{same_first}
use Rattle.rules.proofs.Ends.Laws.{laws}
use Rattle.rules.proofs.Ends.Steps.{passed_order, passed-people}
use Rattle.rules.proofs.Kept.Ties.{after_keeps, cancel_keeps, demonitor_keeps, every_keeps, link_keeps, monitor_keeps, unlink_keeps}
use Rattle.rules.proofs.Reckoned.Ties.{after_agrees, after_same, cancel_agrees, cancel_same, demonitor_agrees, demonitor_same, every_agrees, every_same}
use Rattle.rules.proofs.Reckoned.Ties.{link_agrees, link_same, monitor_agrees, monitor-same, unlink_agrees, unlink_same}

-- ---- the shapes
-- zeros stand beside a refusal
pub refusal-zeroed : (h : Shape) (n : ℕ) → say h (refusal h n) ≡ zeroed (say h (refusal h n))
refusal-zeroed a_number n = refl
refusal-zeroed an_id n = refl
refusal-zeroed a_turn n = refl
refusal-zeroed a_message n = refl
refusal-zeroed a_part n = refl
refusal-zeroed a_place n = refl
refusal-zeroed an_end n = refl
refusal-zeroed an_advance n = refl
refusal-zeroed a_report n = refl
refusal-zeroed a_copy n = refl

-- ---- WHAT IS PROVED OF A CALL
pub record Proved (o : Op) : Type 0 where
  -- its tests stand in the order 4, 1, 3, 2
  pub in_order : (k : Caps) (s : State) → ordered 0 ((entry o).tests k s) ≡ true
  -- its work answers one of its numbers
  pub works : (k : Caps) (s : State) → one_of (map found (entry o).works) (number (say (entry o).shape ((entry o).work k s).ans)) ≡ true
  -- the work keeps a sound state sound
  pub keeps : Keeps o
  -- and in step with the reckoning
  pub agrees : Agreed o
  -- the counts that it answers are the reckoning's
  pub counts : Counted o
  -- its tests are the reckoning's
  pub same : Tested o
  -- its refusals are heard, or it is showing
  pub speaks : Speaks o ⊎ Silent o
  -- what its work leaves alone
  pub leaves : Framed o
  -- its page
  pub page : Paged o

-- showing: only its part, and "No other call needs any" room
show-silent : Silent show
show-silent = record {
  mute = λ a. (refl, refl);
  still = λ r l. refl;
  roomy = λ l. split (idle l) (λ q. rw q) (λ q. rw q (split (holds l) (λ p. rw p) (λ p. rw p)));
  bare = λ a l. refl;
}

-- receive finds its message, or nothing, or waits
receive_works : (sender class tag : ℕ) (wait : ℤ) (a : ℕ) (s : State) → one_of (map found (all ∷ nothing ∷ waits ∷ [])) (receive_bare sender class tag wait a s).ans.no ≡ true
unfolding receive_bare
receive_works sender class tag wait a s =
    split (ltb (first_match s a sender class tag) (head s ARRIVED)) (λ q. rw q) (λ q. rw q (split (not_at_all wait) (λ p. rw p) (λ p. rw p)))

-- read finds a value, or nothing
read_works : (b room : ℕ) (k : Caps) (s : State) → one_of (map found (all ∷ nothing ∷ [])) ((entry (read b room)).work k s).ans.no ≡ true
read_works b room k s = split (ltb (unread_at s b (runner s)) (head s ISSUED)) (λ q. rw q) (λ q. rw q)

-- where it finds one it writes the columns of values
beside_read : (b room : ℕ) (k : Caps) (s : State) → Beside AIRED s ((entry (read b room)).work k s).state
beside_read b room k s = split (ltb (unread_at s b (runner s)) (head s ISSUED)) (λ q. rw q (beside_read_off s b _ _)) (λ q. rw q (beside_still AIRED s))

-- a row of the table: the order of a call's tests and that its work answers one of its numbers, its counts, its refusals, and the laws of its work
row : (o : Op) → ((k : Caps) (s : State) → (ordered 0 ((entry o).tests k s) ≡ true)
    × (one_of (map found (entry o).works) (number (say (entry o).shape ((entry o).work k s).ans)) ≡ true)) →
    Counted o → Speaks o ⊎ Silent o → Keeps o → Agreed o → Tested o → Framed o → Paged o → Proved o
row o h counts speaks keeps agrees same leaves page = record {
  in_order = λ k s. (h k s).0;
  works = λ k s. (h k s).1;
  keeps = keeps;
  agrees = agrees;
  counts = counts;
  same = same;
  speaks = speaks;
  leaves = leaves;
  page = page;
}

-- ---- THE TABLE
pub proved : (o : Op) → Proved o
unfolding released picked_up end_timers end_links end_monitors departed gone cleared entered aired bus_made issued evicted joined end_readers
proved (spawn n) =
    row (spawn n) (λ k s. (refl, refl)) (λ k s l g a p. refl) (inl (λ m. refl)) (spawn_keeps n) (spawn_agrees n) (spawn_same n) (spawn_framed n) (record {
      order = λ r l. within_end (within_all l.mail.boxes);
      boxes = λ m l. refl;
      knows = λ id r l d e. more-some (λ a. eqb a.id id) l.people.live (record { id = r; priority = n }) e (ne_eqb r id (d n refl));
      knew = λ id m l e. e;
      steady = steadily (spawn n) (λ r l. (refl, refl));
    })
proved next =
    row next (λ k s. (refl, split (ltb (first_head s LEVELS) (head s QUEUED)) (λ q. rw q) (λ q. rw q))) (λ k s l g a p. refl) (inl (λ m. refl))
    next_keeps next_agrees next-same (framed next beside_next refl) (quietly next (λ r l. (refl, refl, refl, refl, refl)))
proved yield =
    row yield (λ k s. (refl, refl)) (λ k s l g a p. refl) (inl (λ m. refl))
    yield_keeps yield_agrees yield_same (framed yield (λ k s. beside_of (wrote_ready (wrote_poke (wrote_none s) RUNNING 0 0) _ 0)) refl)
    (quietly yield (λ r l. (refl, refl, refl, refl, refl)))
proved (notify to tag payload) =
    row (notify to tag payload) (λ k s. (refl, refl)) (λ k s l g a p. refl) (inl (λ m. refl))
    (notify_keeps to tag payload) (notify_agrees to tag payload) (notify_same to tag payload)
    (framed-with (notify to tag payload) (λ k s. beside_of (wrote_post k s _ _ _ payload)) (notify_waits to tag payload) refl) (record {
      order = λ r l. within_all (l.mail.boxes ++ (message to l.people.running (Says.wrote tag payload) ∷ []));
      boxes = λ n l. refl;
      knows = λ id r l d e. e;
      knew = λ id n l e. e;
      steady = steadily (notify to tag payload) (λ r l. (refl, refl));
    })
proved (receive sender class tag wait) =
    row (receive sender class tag wait) (λ k s. (refl, receive_works sender class tag wait (runner s - 1) (let_go s (runner s - 1)))) (λ k s l g a p. refl)
    (inl (λ m. refl))
    (receive_keeps sender class tag wait) (receive_agrees sender class tag wait) (receive-same sender class tag wait)
    (framed-with (receive sender class tag wait) (beside_receive sender class tag wait) (receive-waits sender class tag wait) refl) (record {
      order = λ r l. within_end (within-but (wanted l.people.running sender class tag) l.mail.boxes);
      boxes = λ n l. split (eqb n 5) (λ q. rw q) (λ q. rw q);
      knows = λ id r l d e. e;
      knew = λ id n l e. split (eqb n 5) (λ q. rw q at e) (λ q. rw q at e);
      steady = steadily (receive sender class tag wait) (λ n l. (refl, split (eqb n 5) (λ q. rw q) (λ q. rw q)));
    })
proved show =
    row show (λ k s. (refl, refl)) (λ k s l g a p. refl) (inr show-silent) (λ k s g p. g) (λ k s l g a p. a) shown_same
    (framed show (λ k s. beside_still [] s) refl) (quietly show (λ r l. (refl, refl, refl, refl, refl)))
proved shown =
    row shown (λ k s. (refl, refl)) (λ k s l g a p. refl) (inl (λ m. refl)) (λ k s g p. g) (λ k s l g a p. a) shown_same
    (framed shown (λ k s. beside_still [] s) refl) (quietly shown (λ r l. (refl, refl, refl, refl, refl)))
proved (after n) =
    row (after n) (λ k s. (refl, refl)) (λ k s l g a p. refl) (inl (λ m. refl)) (after_keeps n) (after_agrees n) (after_same n)
    (after-framed n) (silently (after n) (λ r l. (refl, refl, refl, refl))
    (λ me first interval r l m. armed_beats me first interval n 0 r l (m (inl (n, refl))), λ me first interval q l h. h))
proved (every n) =
    row (every n) (λ k s. (refl, refl)) (λ k s l g a p. refl) (inl (λ m. refl)) (every_keeps n) (every_agrees n) (every_same n)
    (every_framed n) (silently (every n) (λ r l. (refl, refl, refl, refl))
    (λ me first interval r l m. armed_beats me first interval n n r l (m (inr (n, refl))), λ me first interval q l h. h))
proved (cancel id) =
    row (cancel id) (λ k s. (refl, refl)) (λ k s l g a p. refl) (inl (λ m. refl)) (cancel_keeps id) (cancel_agrees id) (cancel_same id)
    (framed (cancel id) (λ k s. beside_of (use_ends timer_pool s _).wrote) refl) (silently (cancel id) (λ r l. (refl, refl, refl, refl))
    (λ me first interval r l m. ended_beats me first interval (λ t. eqb t.id id) l, λ me first interval q l h. h))
proved (link id) =
    row (link id) (λ k s. (refl, refl)) (λ k s l g a p. refl) (inl (λ m. refl)) (link_keeps id) (link_agrees id) (link_same id)
    (framed (link id) (beside_link id) refl) (quietly (link id)
    (λ r l. split (linked l l.people.running id) (λ q. rw q (refl, refl, refl, refl, refl)) (λ q. rw q (refl, refl, refl, refl, refl))))
proved (unlink id) =
    row (unlink id) (λ k s. (refl, refl)) (λ k s l g a p. refl) (inl (λ m. refl)) (unlink_keeps id) (unlink_agrees id) (unlink_same id)
    (framed (unlink id) (λ k s. beside_of (wrote_tie (wrote_none s) _ 0 0)) refl) (quietly (unlink id) (λ r l. (refl, refl, refl, refl, refl)))
proved (monitor id) =
    row (monitor id) (λ k s. (refl, refl)) (λ k s l g a p. refl) (inl (λ m. refl)) (monitor_keeps id) (monitor_agrees id) (monitor-same id)
    (monitor-framed id) (quietly (monitor id) (λ r l. (refl, refl, refl, refl, refl)))
proved (demonitor id) =
    row (demonitor id) (λ k s. (refl, refl)) (λ k s l g a p. refl) (inl (λ m. refl)) (demonitor_keeps id) (demonitor_agrees id) (demonitor_same id)
    (framed (demonitor id) (λ k s. beside_of (use_ends monitor_pool s _).wrote) refl) (quietly (demonitor id) (λ r l. (refl, refl, refl, refl, refl)))
proved (exit reason) =
    row (exit reason) (λ k s. (refl, refl)) (exit_counts reason) (inl (λ m. refl)) (exit_keeps reason) (exit_agrees reason) (exit_same reason)
    (framed-with (exit reason) (λ k s. beside_depart k (runner s - 1) reason s) (exit_waits reason) refl) (record {
      order = λ r l. passed_order laws l.people.running reason l;
      boxes = λ n l. refl;
      knows = λ id r l d e.
          let others : Actor → Bool = λ a. not (eqb a.id l.people.running) in
          let there : some (λ a. eqb a.id id) (those others l.people.live) ≡ true =
          subst (λ (x : People). some (λ a. eqb a.id id) (those others x.live) ≡ true) (passed-people laws l.people.running reason l) e in
          some_then (λ a. others a && eqb a.id id) (λ a. eqb a.id id) l.people.live (λ a. and_right (others a) (eqb a.id id))
          (sym (some-those _ others _) ∙ there);
      knew = λ id n l e. e;
      steady = (λ id first interval r l m. ended_beats id first interval (λ t. eqb t.owner l.people.running) l, λ id first interval n l h. h);
    })
proved (advance micros) =
    row (advance micros) (λ k s. (refl, refl)) (advance_counts micros) (inl (λ m. refl)) (advance_keeps micros) (advance_agrees micros) (advance_same micros)
    (framed-with (advance micros) (beside_advance micros) (advance_waits micros) refl) (record {
      order = λ r l. subst (λ (m : List Message). Within m (l.mail.boxes ++ ticks (firings (later micros l)) (later micros l)))
          (sym (fires_does (firings (later micros l)) (later micros l)).0) (within_all (l.mail.boxes ++ ticks (firings (later micros l)) (later micros l)));
      boxes = λ n l. refl;
      knows = λ id r l d e. rw (fires_does (firings (later micros l)) (later micros l)).1 at e;
      knew = λ id n l e. e;
      steady = (λ id first interval r l m. advance_beats id first interval (firings (later micros l)) micros l, λ id first interval n l h. h);
    })
proved report =
    row report (λ k s. (refl, refl)) report_counts (inl (λ m. refl)) (λ k s g p. g) (λ k s l g a p. a) (λ k s l g a. record {})
    (framed report (λ k s. beside_still [] s) refl) (quietly report (λ r l. (refl, refl, refl, refl, refl)))
proved (bus n m r t) =
    row (bus n m r t) (λ k s. (refl, refl)) (λ k s l g a p. refl) (inl (λ m. refl)) (bus_keeps n m r t) (bus_agrees n m r t) (bus-same n m r t)
    (framed (bus n m r t) (λ k s. beside_of (wrote_make_bus s n m r t)) refl) (quietly (bus n m r t) (λ r l. (refl, refl, refl, refl, refl)))
proved (publish b payload) =
    row (publish b payload) (λ k s. (refl, refl)) (λ k s l g a p. refl) (inl (λ m. refl)) (publish_keeps b payload) (publish_agrees b payload) (publish_same b payload)
    (framed (publish b payload) (λ k s. beside_broadcast k s b payload) refl) (quietly (publish b payload)
    (λ r l. split (bus_full l b) (λ q. rw q (refl, refl, refl, refl, refl)) (λ q. rw q (refl, refl, refl, refl, refl))))
proved (subscribe b) =
    row (subscribe b) (λ k s. (refl, refl)) (λ k s l g a p. refl) (inl (λ m. refl)) (subscribe_keeps b) (subscribe_agrees b) (subscribe_same b)
    (framed (subscribe b) (λ k s. beside_of (wrote_sit_down s b _ (runner s))) refl) (quietly (subscribe b) (λ r l. (refl, refl, refl, refl, refl)))
proved (unsubscribe b) =
    row (unsubscribe b) (λ k s. (refl, refl)) (λ k s l g a p. refl) (inl (λ m. refl)) (unsubscribe_keeps b) (unsubscribe_agrees b) (unsubscribe_same b)
    (framed (unsubscribe b) (λ k s. beside_of (wrote_stand_up k s b _)) refl) (quietly (unsubscribe b) (λ r l. (refl, refl, refl, refl, refl)))
proved (read b room) =
    row (read b room) (λ k s. (refl, read_works b room k s)) (λ k s l g a p. refl) (inl (λ m. refl)) (read_keeps b room) (read_agrees b room) (read_same b room)
    (framed (read b room) (beside_read b room) refl) (quietly (read b room)
    (λ r l. let e = reading_else b l.people.running (oldest_unread l b) l in rw (e.0, e.1, e.2) (refl, refl, refl, refl, refl)))

-- ---- WHAT IS SO OF EVERY CALL
-- no work is heard as a refusal
work_well : (fs : List Found) (n : ℕ) → one_of (map found fs) n ≡ true → refuses n ≡ false
work_well [] n e = true_false false e refl
work_well (f ∷ fs) n e =
    split (eqb n (found f)) (λ q. ap refuses (eqb-true n (found f) q) ∙ found_well f) (λ q. work_well fs n (rw q at e))

module _ (o : Op) where
  -- what holds of every refusal, and of the work where no test says yes, holds of the rule
  pub step-all : (k : Caps) (s : State) (P : Out (Ans (entry o).shape) → Type 0) → ((y : Why) → P (out (refusal (entry o).shape (code y)) s)) → (Passed ((entry o).tests k s) → P ((entry o).work k s)) → P (ruled (entry o) k s)
  unfolding ruled
  step-all k s P f g = guarded-all (refusal (entry o).shape) s ((entry o).work k s) P ((entry o).tests k s) f g

  -- its work is not heard as a refusal
  work_done : (k : Caps) (s : State) → refuses (number (say (entry o).shape ((entry o).work k s).ans)) ≡ false
  work_done k s = work_well (entry o).works _ ((proved o).works k s)

  -- a refusal leaves the reckoning as it is
  unmoved : (y : Why) (l : Ledger) → entered (record { call = op o; answer = say (entry o).shape (refusal (entry o).shape (code y)) }) l ≡ l
  unfolding entered
  unmoved y l =
      ⊎_elim (λ h. rw (h (code y), why_found y all, why_found y nothing, why_found y waits))
      (λ h. rw (h.mute (refusal (entry o).shape (code y))).1 (h.still _ l)) (proved o).speaks

  -- every call keeps a sound state sound
  pub step_keeps : (k : Caps) (s : State) → Good k s → Good k (ruled (entry o) k s).state
  step_keeps k s g = step-all k s (λ x. Good k x.state) (λ y. g) ((proved o).keeps k s g)

  -- and in step with the reckoning
  pub step_agrees : (k : Caps) (s : State) (l : Ledger) → Good k s → Agrees k l s → Agrees k (entered (record { call = op o; answer = (step o k s).ans }) l) (step o k s).state
  step_agrees k s l g a =
      step-all k s (λ x. Agrees k (entered (record { call = op o; answer = say (entry o).shape x.ans }) l) x.state)
      (λ y. subst (λ (m : Ledger). Agrees k m s) (sym (unmoved y l)) a) ((proved o).agrees k s l g a)

  -- THE LAW of counts: a call that answers 0 answers the counts that the reckoning works out from what is there alone
  pub step_counts : (k : Caps) (s : State) (l : Ledger) → Good k s → Agrees k l s → number (step o k s).ans ≡ 0 → counted (step o k s).ans ≡ (page o).counts l
  step_counts k s l g a =
      step-all k s (λ x. number (say (entry o).shape x.ans) ≡ 0 → counted (say (entry o).shape x.ans) ≡ (page o).counts l)
      (λ y e. ⊎_elim (λ h. absurd (eqb-false (code y) 0 (why_found y all) (sym (h (code y)) ∙ e))) (λ h. h.bare (refusal (entry o).shape (code y)) l) (proved o).speaks)
      (λ p e. (proved o).counts k s l g a p)

  -- it lowers no age, of whatever pool
  pub ages_grow : (c : ℕ) → mem c AGES ≡ true → (k : Caps) (s : State) → Grown s (step o k s).state c
  ages_grow c m k s = step-all k s (λ x. Grown s x.state c) (λ y i. omega arith) (λ p. all_one (Grown s ((entry o).work k s).state) AGES ((proved o).leaves.ages k s) c m)

  -- it lets nobody wait longer than a day
  pub step_waits : (k : Caps) (s : State) → Daily s → Daily (step o k s).state
  step_waits k s h = step-all k s (λ x. Daily x.state) (λ y. h) (λ p. (proved o).leaves.waits k s p h)

  -- it leaves alone all but the columns that it writes
  pub step_frame : (k : Caps) (s : State) → Beside (proved o).leaves.writes s (step o k s).state
  step_frame k s = step-all k s (λ x. Beside (proved o).leaves.writes s x.state) (λ y. beside_still (proved o).leaves.writes s) (λ p. (proved o).leaves.frame k s)

  -- it answers one of its numbers
  pub step-numbers : (k : Caps) (s : State) → one_of (numbers o k s) (number (step o k s).ans) ≡ true
  unfolding ruled
  step-numbers k s =
      guarded-numbers (refusal (entry o).shape) s ((entry o).work k s) (λ r. number (say (entry o).shape r)) ((entry o).tests k s) (map found (entry o).works) ((proved o).works k s)

  -- THE LAW of refusals: a call that answers 1, 2, 3, 4 or 7 has changed nothing, and zeros stand beside the number
  pub step_refused : (k : Caps) (s : State) → refuses (number (step o k s).ans) ≡ true → ((step o k s).state ≡ s) × ((step o k s).ans ≡ zeroed (step o k s).ans)
  step_refused k s =
      step-all k s (λ x. refuses (number (say (entry o).shape x.ans)) ≡ true → (x.state ≡ s) × (say (entry o).shape x.ans ≡ zeroed (say (entry o).shape x.ans)))
      (λ y e. (refl, refusal-zeroed (entry o).shape (code y)))
      (λ p e. true_false (refuses (number (say (entry o).shape ((entry o).work k s).ans))) e (work_done k s))

  -- no rule answers 7: a host call does so where the buffers are not sound
  pub step-seven : (k : Caps) (s : State) → number (step o k s).ans ≡ 7 → ⊥
  step-seven k s =
      step-all k s (λ x. number (say (entry o).shape x.ans) ≡ 7 → ⊥)
      (λ y e. ⊎_elim (λ h. eqb-false (code y) 7 (why_refuses y).1 (sym (h (code y)) ∙ e))
      (λ h. omega (arith, sym (h.mute (refusal (entry o).shape (code y))).1 ∙ e)) (proved o).speaks)
      (λ p e. true_false (refuses (number (say (entry o).shape ((entry o).work k s).ans))) (ap refuses e) (work_done k s))

  module _ (k : Caps) (s : State) (l : Ledger) (g : Good k s) (a : Agrees k l s) where
    -- the first of its tests that says yes is the reckoning's
    same-verdict : first_yes ((entry o).tests k s) ≡ refusal_due l (op o)
    same-verdict = same_first ((entry o).tests k s) ((page o).tests l) ((proved o).same k s l g a)

    -- THE LAW: where a refusal is due by the reckoning, the answer is that refusal, and nothing changed
    pub step-verdict : (y : Why) → refusal_due l (op o) ≡ code y → step o k s ≡ out (say (entry o).shape (refusal (entry o).shape (code y))) s
    unfolding ruled
    step-verdict y e = ap (said (say (entry o).shape)) (guarded_yes (refusal (entry o).shape) s ((entry o).work k s) y ((entry o).tests k s) (same-verdict ∙ e))

    -- and the number is heard nowhere else
    spoken : Speaks o → (y : Why) → (number (step o k s).ans ≡ code y) ↔ (refusal_due l (op o) ≡ code y)
    unfolding ruled
    spoken h y = (
      λ e. sym same-verdict ∙ guarded-heard (refusal (entry o).shape) s ((entry o).work k s) (λ r. number (say (entry o).shape r)) (code y) ((entry o).tests k s) h
          (λ z. true_false (refuses (code y)) (why_refuses y).0 (ap refuses (sym z) ∙ work_done k s)) e,
      λ e. ap (λ (x : Out Answer). number x.ans) (step-verdict y e) ∙ h (code y),
    )

    -- THE LAW: an answer that has a number has that of a refusal exactly where it is due by the reckoning
    pub step-refusal : (y : Why) → numbered (step o k s).ans ≡ true → (number (step o k s).ans ≡ code y) ↔ (refusal_due l (op o) ≡ code y)
    step-refusal y n = ⊎_elim (λ h. spoken h y) (λ h. true_false (numbered (step o k s).ans) n (h.mute (ruled (entry o) k s).ans).0) (proved o).speaks

    -- "no room" exactly when no earlier refusal applies and a pool has less left by the reckoning than the call needs
    pub step-two : (number (step o k s).ans ≡ 2) ↔ (short l (op o) ≡ true)
    step-two =
        ⊎_elim (λ h. (λ e. eq-eqb (refusal_due l (op o)) 2 ((spoken h full).0 e), λ e. (spoken h full).1 (eqb-true (refusal_due l (op o)) 2 e)))
        (λ h. (λ e. absurd (omega (arith, sym (h.mute (ruled (entry o) k s).ans).1 ∙ e)), λ e. true_false (short l (op o)) e (h.roomy l)))
        (proved o).speaks
