-- A story after a start is computed: whatever two buffers it happens on, its lines and what it leaves are those of the rules from a fresh state.
use Prim.Native.Nat.{ℕ, ◌≤◌}
use native.Mathlib.Omega.{arith}
use mathlib.Core.Path.{◌≡◌, refl, sym, ap, ap₂, ◌∙◌}
use mathlib.Core.Bool.{true}
use mathlib.Core.List.{List, [], ◌∷◌, map}
use lib.ListN.{length, drop}
use borrow.Author.Tests.{le-leb}
use Rattle.ledger.specs.Call.{Answer, Call, Line, Op, Sizes, number}
use Rattle.ledger.specs.Call.Answer.{plain}
use Rattle.ledger.specs.Call.Call.{start, op}
use Rattle.pools.proofs.BoolLaws.{split}
use Rattle.tables.specs.declared.Caps.{Caps}
use Rattle.tables.specs.State.{State, caps_of, join_p, join_w, needed, needed_p, view}
use Rattle.tables.proofs.ViewLaws.{join-view}
use Rattle.rules.specs.Rule.{Holds, test}
use Rattle.rules.specs.Sound.{range_rule, sound_rule, view_of}
use Rattle.rules.specs.Host.{can_start, fresh}
use Rattle.rules.specs.Run.{afterwards, lines, step}
use Rattle.rules.specs.Story.{Meets, Story, caps_from, line}
use Rattle.rules.proofs.Kept.Good.{of_good}
use Rattle.rules.proofs.Kept.Host.{good_view, join-sound}
use Rattle.rules.proofs.Kept.Rules.{reads}
use Rattle.rules.proofs.Kept.Start.{can_room, fresh_good}
use Rattle.rules.proofs.Stories.Answers.{line-answer}
use Rattle.rules.proofs.Stories.Ends.{line-state}
use Rattle.rules.proofs.Table.{step_keeps}

-- the buffers are sound, and hold this state with these capacities
pub record Hold (k : Caps) (s : State) (w p : List ℕ) : Type 0 where
  pub sound : Holds (sound_rule w p)
  pub caps : caps_of w ≡ k
  pub state : view_of w p ≡ s

-- sound buffers hold what is seen in them
pub hold : (w p : List ℕ) → Holds (sound_rule w p) → Hold (caps_of w) (view_of w p) w p
hold w p h = record { sound = h; caps = refl; state = refl }

-- the bytes of the payload's buffer are those of the state
pub hold_bytes : {k : Caps} {s : State} {w p : List ℕ} → Hold k s w p → p ≡ join_p s
hold_bytes {k} {s} {w} {p} h = sym (join-view (caps_of w) w p).1 ∙ ap join_p h.state

-- ---- one line
-- a call that is no start answers by its rule, and leaves the rule's state
pub hold_line : {k : Caps} {s : State} (o : Op) (w p : List ℕ) (r : Answer) (w' p' : List ℕ) → Meets (op o) w p r w' p' → Hold k s w p →
    (r ≡ (step o k s).ans) × Hold k (step o k s).state w' p'
hold_line {k} {s} o w p r w' p' m h =
    let a = line-answer o w p r w' p' m h.sound in
    let e = line-state o w p r w' p' m h.sound in
    let g = of_good (caps_of w) (step o (caps_of w) (view_of w p)).state (step_keeps o (caps_of w) (view_of w p) (good_view w p h.sound)) in (
      a ∙ ap₂ (λ (k : Caps) (s : State). (step o k s).ans) h.caps h.state,
      record {
        sound = rw (e.0, e.1) g;
        caps = e.1 ∙ h.caps;
        state = e.0 ∙ ap₂ (λ (k : Caps) (s : State). (step o k s).state) h.caps h.state;
      },
    )

-- ---- lines
-- the first of some calls; of none, any
abbrev first_call : List Call → Call
first_call [] = op Op.next
first_call (c ∷ cs) = c

-- THE THEOREM: on buffers that hold a state, the lines of a story without a start are those that the rules compute from this state, and it leaves the state that they compute
pub story_plays : {w p w' p' : List ℕ} {xs : List Line} (k : Caps) (s : State) (cs : List Op) → Hold k s w p → Story w p xs w' p' → map (λ (x : Line). x.call) xs ≡ map op cs →
    (xs ≡ lines k s cs) × Hold k (afterwards k s cs) w' p'
unfolding lines afterwards
story_plays k s [] h Story.over e = (refl, h)
story_plays k s (c ∷ cs) h Story.over e = absurd (let n = ap length e in omega arith)
story_plays k s [] h (Story.then m y) e = absurd (let n = ap length e in omega arith)
story_plays k s (c ∷ cs) h (Story.then {w} {p} {w₁} {p₁} {x = x} m y) e =
    let f : x.call ≡ op c = ap first_call e in
    let q = hold_line c w p x.answer w₁ p₁ (rw f at m) h in
    let z = story_plays k (step c k s).state cs q.1 y (ap (drop 1) e) in
    (rw (← f, ← q.0, z.0), z.1)

-- ---- a start
-- a start can be done where its capacities are in range and the buffers are long enough for them
pub can_start_lem : (k : Caps) (w p : List ℕ) → test (range_rule k) ≡ true → needed k ≤ length w → needed_p k ≤ length p → can_start k w p ≡ true
can_start_lem k w p r a b = rw (r, le-leb (needed k) (length w) a, le-leb (needed_p k) (length p) b)

-- one that answered 0 could be done
pub did_start : (z : Sizes) (w p w₁ p₁ : List ℕ) → Meets (start z) w p (plain 0) w₁ p₁ → can_start (caps_from z) w p ≡ true
did_start z w p w₁ p₁ m =
    split (can_start (caps_from z) w p) (λ q. q)
    (λ q. absurd (let n : ◌≡◌ {A = ℕ} 0 1 = ap number (rw q at m.ans) in omega arith))

-- THE LAW: a start that can be done answers 0 and leaves a fresh state, of which only what lies past the needed words and bytes is from before
pub start-holds : (z : Sizes) (w p : List ℕ) (r : Answer) (w₁ p₁ : List ℕ) → Meets (start z) w p r w₁ p₁ → can_start (caps_from z) w p ≡ true →
    (r ≡ plain 0) × Hold (caps_from z) (fresh (caps_from z) (view (caps_from z) w p)) w₁ p₁
start-holds z w p r w₁ p₁ m q =
    let k = caps_from z in
    let room = can_room k w p q in
    let j = join-sound k (fresh k (view k w p)) (fresh_good k (view k w p) room.caps) in
    (rw q at m.ans, rw (rw q at m.words, rw q at m.bytes) (record { sound = j.0; caps = j.2; state = j.1 }))

-- THE THEOREM: a story that begins with a start that can be done has exactly the lines that the rules compute from a fresh state, the start's own answer 0 in front, and leaves the state that they compute
pub story_computed : {w p w' p' : List ℕ} {xs : List Line} (z : Sizes) (cs : List Op) → can_start (caps_from z) w p ≡ true →
    Story w p xs w' p' → map (λ (x : Line). x.call) xs ≡ start z ∷ map op cs →
    let k = caps_from z in
    let s = fresh k (view k w p) in
    (xs ≡ line (start z) (plain 0) ∷ lines k s cs) × Hold k (afterwards k s cs) w' p'
story_computed z cs q Story.over e = absurd (let n = ap length e in omega arith)
story_computed z cs q (Story.then {w} {p} {w₁} {p₁} {x = x} m y) e =
    let k = caps_from z in
    let s = fresh k (view k w p) in
    let f : x.call ≡ start z = ap first_call e in
    let h = start-holds z w p x.answer w₁ p₁ (rw f at m) q in
    let t = story_plays k s cs h.1 y (ap (drop 1) e) in
    (rw (← f, ← h.0, ← t.0), t.1)

-- THE THEOREM: a story after a start that answered 0, whatever the buffers were
pub started_computed : {w p w₁ p₁ w' p' : List ℕ} {xs : List Line} (z : Sizes) (cs : List Op) → Meets (start z) w p (plain 0) w₁ p₁ →
    Story w₁ p₁ xs w' p' → map (λ (x : Line). x.call) xs ≡ map op cs →
    let k = caps_from z in
    let s = fresh k (view k w p) in
    (xs ≡ lines k s cs) × Hold k (afterwards k s cs) w' p'
started_computed {w} {p} {w₁} {p₁} z cs m y e =
    let k = caps_from z in
    let h = start-holds z w p (plain 0) w₁ p₁ m (did_start z w p w₁ p₁ m) in
    story_plays k (fresh k (view k w p)) cs h.1 y e

-- ---- and it happens
-- a story with these lines, and the buffers after it
pub record Happens (w p : List ℕ) (xs : List Line) : Type 0 where
  pub words : List ℕ
  pub bytes : List ℕ
  pub story : Story w p xs words bytes

-- on sound buffers a call that is no start can answer by its rule
answers_so : {k : Caps} {s : State} (o : Op) (w p : List ℕ) → Hold k s w p → Meets (op o) w p (step o k s).ans (join_w (step o k s).state) (join_p (step o k s).state)
answers_so {k} {s} o w p h =
    let t = (reads (sound_rule w p)).1 h.sound in
    rw (← h.caps, ← h.state) (record { ans = rw t; words = rw t; bytes = rw t })

-- so the lines that the rules compute are those of a story
lines_happen : {k : Caps} {s : State} (cs : List Op) (w p : List ℕ) → Hold k s w p → Happens w p (lines k s cs)
unfolding lines
lines_happen [] w p h = record { words = w; bytes = p; story = Story.over }
lines_happen {k} {s} (c ∷ cs) w p h =
    let t = (step c k s).state in
    let m = answers_so c w p h in
    let y = lines_happen {s = t} cs (join_w t) (join_p t) (hold_line c w p (step c k s).ans (join_w t) (join_p t) m h).1 in
    record { words = y.words; bytes = y.bytes; story = Story.then m y.story }

-- THE THEOREM: where a start can be done, any calls after it make a story, with just the computed lines
pub story_happens : (z : Sizes) (cs : List Op) (w p : List ℕ) → can_start (caps_from z) w p ≡ true →
    Happens w p (line (start z) (plain 0) ∷ lines (caps_from z) (fresh (caps_from z) (view (caps_from z) w p)) cs)
story_happens z cs w p q =
    let k = caps_from z in
    let s = fresh k (view k w p) in
    let m : Meets (start z) w p (plain 0) (join_w s) (join_p s) = record { ans = rw q; words = rw q; bytes = rw q } in
    let y = lines_happen cs (join_w s) (join_p s) (start-holds z w p (plain 0) (join_w s) (join_p s) m q).1 in
    record { words = y.words; bytes = y.bytes; story = Story.then m y.story }
