-- What stays so to the end of a story: an ended actor is over until a new start, nothing is aimed at it, and a call that is changes nothing.
use Prim.Native.Nat.{ℕ, ◌-◌, ◌≤◌, ◌<◌}
use native.Mathlib.Omega.{arith}
use mathlib.Core.Path.{◌≡◌, refl, sym, ap, subst, ◌∙◌}
use mathlib.Core.Bool.{true, false, ◌||◌}
use mathlib.Core.List.{List}
use lib.ListN.{length}
use lib.Dec.{eqb, leb, ltb}
use borrow.Author.Tests.{eqb-false, le-ltb, lt-leb, ltb-false, ne_eqb}
use Rattle.ledger.specs.Call.{Answer, Line, Op, number}
use Rattle.ledger.specs.Call.Answer.{ended}
use Rattle.ledger.specs.Call.Call.{op}
use Rattle.ledger.specs.Call.Op.{notify, exit}
use Rattle.ledger.specs.Ended.{Unaimed}
use Rattle.ledger.specs.Ledger.{Ledger}
use Rattle.ledger.specs.Reckon.{departed, entered, reckon}
use Rattle.ledger.specs.Room.{known}
use Rattle.pools.proofs.BoolLaws.{split, true_false}
use Rattle.pools.proofs.SlotLaws.{live_id}
use Rattle.tables.specs.declared.Caps.{Caps}
use Rattle.tables.specs.Columns.{AGE, LINK-ONE, LINK-TWO, MAIL-OWNER, SEAT, STATE, TIMER-OWNER, WATCHED, WATCHER}
use Rattle.tables.specs.Limits.{ACTOR-FACTOR, ANY-TAG, LAST-REASON, PAYLOAD-MOST}
use Rattle.tables.specs.State.{State, at, caps_of, join_p, join_w}
use Rattle.tables.proofs.ViewLaws.{join-view}
use Rattle.rules.specs.Terms.{actor_id, alive, is_actor, runner, runner_id}
use Rattle.rules.specs.Rule.{Holds}
use Rattle.rules.specs.Sound.{sound_rule, view_of}
use Rattle.rules.specs.Calls.{depart, exit_entry, ruled}
use Rattle.rules.specs.Run.{seven, step}
use Rattle.rules.specs.Story.{Aims, Kept, Meets, Story, line, startless}
use Rattle.rules.specs.Agrees.{Agrees, arrivals, box_at, hand_at, letter, link_at, monitor_at, reader_at, timer_at}
use Rattle.rules.proofs.Lists.Columns.{of-alive}
use Rattle.rules.proofs.Ends.Departs.{depart_agrees, depart_keeps, depart_leaves_nothing, exit_leaves_nothing}
use Rattle.rules.specs.Good.{Good}
use Rattle.rules.proofs.Kept.Host.{good_view, host_keeps}
use Rattle.rules.proofs.Reckoned.Ledger.{alive_slot, bond_ends, box_owner, clock_owner, eye_ends, id_not_zero, known_same, palm_owner, runner-alive, running_is, seat_owner, seat_used, some-map, some_no, stranger}
use Rattle.rules.proofs.Stories.Over.{Over, over_once, over_stays}
use Rattle.rules.proofs.Stories.Story.{line_kept, story_kept, story_lasts}
use Rattle.rules.proofs.Stories.Answers.{line-answer}
use Rattle.rules.proofs.Table.{step_agrees, step_keeps}

-- ---- what the reckoning says of an id that is nobody's
module _ (k : Caps) (s : State) (l : Ledger) (g : Good k s) (r : Agrees k l s) (id : ℕ) where
  -- a live slot is another actor's
  another : known l id ≡ false → (a : ℕ) → alive (s STATE) a ≡ true → eqb (actor_id s a) id ≡ false
  another n = stranger k s g id (known_same k s g l r id ∙ n)

  -- THE LAW: at an id that is not that of a live actor nothing is aimed, since all that is in use is a live actor's
  pub nothing_aimed : (id ≡ 0 → ⊥) → known l id ≡ false → Unaimed id l
  nothing_aimed z n = record {
    nothing = record {
      boxes = rw (sym (some-map (λ x. eqb x.to id) letter l.mail.boxes), r.mail.boxes, some-map (λ x. eqb x.to id) (box_at s) (arrivals s))
          (some_no (λ e. eqb (actor_id s (at s MAIL-OWNER e - 1)) id) (arrivals s) (λ e o. another n _ (box_owner k s g l r e o)));
      hands = rw (sym (some-map (λ x. eqb x.to id) letter l.mail.hands), r.mail.hands, some-map (λ x. eqb x.to id) (hand_at s) r.mail.palms)
          (some_no (λ a. eqb (actor_id s a) id) r.mail.palms (λ a o. another n a (palm_owner k s g l r a o)));
      timers = rw (r.time.pool.are, some-map (λ t. eqb t.owner id) (timer_at s) r.time.pool.slots)
          (some_no (λ i. eqb (actor_id s (at s TIMER-OWNER i - 1)) id) r.time.pool.slots (λ i o. another n _ (clock_owner k s g l r i o)));
      links = rw (r.links.links, some-map (λ p. eqb p.one id || eqb p.two id) (link_at s) r.links.bonds)
          (some_no (λ e. eqb (actor_id s (at s LINK-ONE e - 1)) id || eqb (actor_id s (at s LINK-TWO e - 1)) id) r.links.bonds (λ e o.
          let b = bond_ends k s g l r e o in rw (another n _ b.0, another n _ b.1)));
      monitors = rw (r.monitors.are, some-map (λ m. eqb m.target id || eqb m.watcher id) (monitor_at s) r.monitors.slots)
          (some_no (λ i. eqb (actor_id s (at s WATCHED i - 1)) id || eqb (actor_id s (at s WATCHER i - 1)) id) r.monitors.slots (λ i o.
          let b = eye_ends k s g l r i o in rw (another n _ b.1, another n _ b.0)));
      readers = rw (r.buses.readers, some-map (λ x. eqb x.who id) (reader_at s r.buses.cursor) r.buses.seats)
          (some_no (λ i. eqb (actor_id s (at s SEAT i - 1)) id) r.buses.seats (λ i o.
          another n _ (seat_owner k s g i (seat_used k s g l r i o))));
      live = n;
    };
    rests = λ e. split (eqb (runner s) 0)
        (λ q. z (sym e ∙ r.people.running ∙ rw q))
        (λ q. eqb-false (runner_id s) id (another n (runner s - 1) (runner-alive k s g q)) (sym (running_is k s g l r q) ∙ e));
  }

-- THE THEOREM, in words of the reckoning: once an actor ended, whoever it is, nothing of it is left and nothing is aimed at it
pub departed_unaimed : (k : Caps) (s : State) (l : Ledger) (a reason : ℕ) → Good k s → Agrees k l s → alive (s STATE) a ≡ true →
    Unaimed (actor_id s a) (departed (actor_id s a) reason l)
departed_unaimed k s l a reason g r there =
    let id = actor_id s a in
    let u = (depart k a reason s).state in
    let h = depart_keeps k s a reason g there in
    let e = (depart_agrees k s l a reason g r there).agrees in
    nothing_aimed k u (departed id reason l) h e id (eqb-false id 0 (id_not_zero k s g a there))
    (sym (known_same k u h (departed id reason l) e id) ∙ (depart_leaves_nothing k s a reason g there).2)

-- who is alive in the tables is known to the reckoning, and the other way
pub live_known : (l : Ledger) (w p : List ℕ) (id : ℕ) → Kept l w p → is_actor (view_of w p) id ≡ known l id
live_known l w p id h = known_same (caps_of w) (view_of w p) (good_view w p h.sound) l h.agrees id

-- ---- what the buffers hold after a line
-- THE LAW: after a call that is no start the buffers hold the state that its rule leaves, with the same capacities
pub line-state : (o : Op) (w p : List ℕ) (r : Answer) (w' p' : List ℕ) → Meets (op o) w p r w' p' → Holds (sound_rule w p) →
    (view_of w' p' ≡ (step o (caps_of w) (view_of w p)).state) × (caps_of w' ≡ caps_of w)
line-state o w p r w' p' q h = let x = host_keeps (seven o) (step o) (step_keeps o) w p r w' p' q h in (x.2, x.3)

-- ---- an id that is over stays so
-- after any call that is no start
pub over_line : (c : Op) (l : Ledger) (w p : List ℕ) (r : Answer) (w' p' : List ℕ) (id : ℕ) → Meets (op c) w p r w' p' → Kept l w p → Over (view_of w p) id → Over (view_of w' p') id
over_line c l w p r w' p' id m h o =
    let e = line-state c w p r w' p' m h.sound in
    let g = good_view w p h.sound in
    subst (λ (s : State). Over s id) (sym e.0)
    (over_stays c (caps_of w) (view_of w p) l id g h.agrees (step_keeps c (caps_of w) (view_of w p) g) (step_agrees c (caps_of w) (view_of w p) l g h.agrees) o)

-- THE LAW: and so after a whole story in which nothing begins anew
pub story_over : {w p w' p' : List ℕ} {xs : List Line} (l : Ledger) (id : ℕ) → Story w p xs w' p' → startless xs ≡ true → Kept l w p → Over (view_of w p) id → Over (view_of w' p') id
story_over l id = story_lasts (λ l s. Over s id) (λ o l w p r w' p'. over_line o l w p r w' p' id) l

-- ---- an exit
-- the id of the actor that runs is that of a live one
runner_live : (k : Caps) (s : State) → Good k s → eqb (runner s) 0 ≡ false → is_actor s (runner_id s) ≡ true
runner_live k s g q =
    let there = runner-alive k s g q in
    live_id ACTOR-FACTOR (s STATE) (s AGE) (runner s - 1) (omega (arith, alive_slot k s g (runner s - 1) there, g.range.few_actors)) (of-alive (s STATE) (runner s - 1) there)

-- an exit that answered 0: somebody ran, and the reason was well-formed
exit_done : (reason : ℕ) (k : Caps) (s : State) → (ruled (exit_entry reason) k s).ans.no ≡ 0 → (eqb (runner s) 0 ≡ false) × (reason ≤ LAST-REASON)
unfolding ruled
exit_done reason k s =
    split (eqb (runner s) 0) (λ q. rw q (λ e. absurd (omega arith)))
    (λ q. split (ltb LAST-REASON reason) (λ t. rw (q, t) (λ e. absurd (omega arith))) (λ t. rw (q, t) (λ e. (refl, ltb-false LAST-REASON reason t))))

-- the actor that ran is over
exit_over : (reason sent lost : ℕ) (l : Ledger) (w p w₁ p₁ : List ℕ) → Meets (op (exit reason)) w p (ended 0 sent lost) w₁ p₁ → Kept l w p → (l.people.running ≡ 0 → ⊥) × Over (view_of w₁ p₁) l.people.running
exit_over reason sent lost l w p w₁ p₁ m h =
    let k = caps_of w in
    let s = view_of w p in
    let g = good_view w p h.sound in
    let q = exit_done reason k s (sym (ap number (line-answer (exit reason) w p (ended 0 sent lost) w₁ p₁ m h.sound))) in
    let there = runner-alive k s g q.0 in
    let run = running_is k s g l h.agrees q.0 in
    let now = (exit_leaves_nothing reason k s g q.0 q.1).2 in (
      λ z. eqb-false (runner_id s) 0 (id_not_zero k s g (runner s - 1) there) (sym run ∙ z),
      subst (λ (i : ℕ). Over (view_of w₁ p₁) i) (sym run)
          (subst (λ (t : State). Over t (runner_id s)) (sym (line-state (exit reason) w p (ended 0 sent lost) w₁ p₁ m h.sound).0)
          (over_once (exit reason) k s (runner_id s) (runner_live k s g q.0) now)),
    )

-- THE THEOREM: after an exit that answered 0, and any story after it in which nothing begins anew, the ended actor is no live one,
-- and no message, timer, link or monitor is aimed at it
pub ended_stays_ended : {w p w₁ p₁ w' p' : List ℕ} {xs : List Line} (reason sent lost : ℕ) (l : Ledger) → Meets (op (exit reason)) w p (ended 0 sent lost) w₁ p₁ → Kept l w p →
    Story w₁ p₁ xs w' p' → startless xs ≡ true →
    Unaimed l.people.running (reckon (entered (line (op (exit reason)) (ended 0 sent lost)) l) xs) × (is_actor (view_of w' p') l.people.running ≡ false)
ended_stays_ended {w} {p} {w₁} {p₁} {w'} {p'} {xs} reason sent lost l m h y n =
    let id = l.people.running in
    let l₁ = entered (line (op (exit reason)) (ended 0 sent lost)) l in
    let o = exit_over reason sent lost l w p w₁ p₁ m h in
    let j : Kept l₁ w₁ p₁ = line_kept (op (exit reason)) l w p (ended 0 sent lost) w₁ p₁ m h in
    let f : Kept (reckon l₁ xs) w' p' = story_kept l₁ y j in
    let v : is_actor (view_of w' p') id ≡ false = (story_over l₁ id y n j o.1).nobody in (
      nothing_aimed (caps_of w') (view_of w' p') (reckon l₁ xs) (good_view w' p' f.sound) f.agrees id o.0 (sym (live_known (reckon l₁ xs) w' p' id f) ∙ v),
      v,
    )

-- ---- a call aimed at an id that is not that of a live actor
-- THE LAW: it changes nothing, and does not answer 0
pub strange : {c : Op} (k : Caps) (s : State) (id : ℕ) → Aims id c → is_actor s id ≡ false → ((step c k s).state ≡ s) × (number (step c k s).ans ≡ 0 → ⊥)
unfolding ruled
strange k s id (Aims.notifies {tag} {payload}) n =
    split (eqb (runner s) 0) (λ q. rw q (refl, λ e. omega arith))
    (λ q. split (leb ANY-TAG tag || ltb PAYLOAD-MOST (length payload)) (λ y. rw (q, y) (refl, λ e. omega arith)) (λ y. rw (q, y, n) (refl, λ e. omega arith)))
strange k s id Aims.links n =
    split (eqb (runner s) 0) (λ q. rw q (refl, λ e. omega arith))
    (λ q. split (eqb id (runner_id s)) (λ y. rw (q, y) (refl, λ e. omega arith)) (λ y. rw (q, y, n) (refl, λ e. omega arith)))
strange k s id Aims.unlinks n =
    split (eqb (runner s) 0) (λ q. rw q (refl, λ e. omega arith)) (λ q. rw (q, n) (refl, λ e. omega arith))
strange k s id Aims.monitors n =
    split (eqb (runner s) 0) (λ q. rw q (refl, λ e. omega arith))
    (λ q. split (eqb id (runner_id s)) (λ y. rw (q, y) (refl, λ e. omega arith)) (λ y. rw (q, y, n) (refl, λ e. omega arith)))

-- the actor that runs is a live one, so it is another
not-runner : (k : Caps) (s : State) → Good k s → (id : ℕ) → eqb (runner s) 0 ≡ false → is_actor s id ≡ false → eqb id (runner_id s) ≡ false
not-runner k s g id q n = ne_eqb id (runner_id s) (λ e. true_false (is_actor s id) (ap (is_actor s) e ∙ runner_live k s g q) n)

-- THE LAW: where somebody runs, and a notify's tag and payload are well-formed, it answers 3
pub strange_three : {c : Op} (k : Caps) (s : State) (id : ℕ) → Good k s → Aims id c → ((tag : ℕ) (payload : List ℕ) → c ≡ notify id tag payload → (tag < ANY-TAG) × (length payload ≤ PAYLOAD-MOST)) →
    eqb (runner s) 0 ≡ false → is_actor s id ≡ false → number (step c k s).ans ≡ 3
unfolding ruled
strange_three k s id g (Aims.notifies {tag} {payload}) f q n =
    let h = f tag payload refl in rw (q, lt-leb ANY-TAG tag h.0, le-ltb PAYLOAD-MOST (length payload) h.1, n)
strange_three k s id g Aims.links f q n = rw (q, not-runner k s g id q n, n)
strange_three k s id g Aims.unlinks f q n = rw (q, n)
strange_three k s id g Aims.monitors f q n = rw (q, not-runner k s g id q n, n)

-- THE THEOREM, of a line of a story: aimed at an id that the reckoning does not know as a live actor's, it leaves every word and byte as it was, and does not answer 0
pub strange_line : {c : Op} (l : Ledger) (w p : List ℕ) (r : Answer) (w' p' : List ℕ) (id : ℕ) → Aims id c → Meets (op c) w p r w' p' → Kept l w p → known l id ≡ false →
    (w' ≡ w) × (p' ≡ p) × (number r ≡ 0 → ⊥)
strange_line {c} l w p r w' p' id a m h n =
    let z = strange (caps_of w) (view_of w p) id a (live_known l w p id h ∙ n) in
    let v : view_of w' p' ≡ view_of w p = (line-state c w p r w' p' m h.sound).0 ∙ z.0 in
    let i = join-view (caps_of w) w p in
    let j = join-view (caps_of w') w' p' in
    (sym j.0 ∙ ap join_w v ∙ i.0, sym j.1 ∙ ap join_p v ∙ i.1, λ e. z.1 (ap number (sym (line-answer c w p r w' p' m h.sound)) ∙ e))
