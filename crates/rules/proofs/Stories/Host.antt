-- A host call: the two ways through it, that no second answer meets its promise, and when it answers 7.
use Prim.Native.Nat.{ℕ}
use mathlib.Core.Path.{◌≡◌, refl, sym, ap, ◌∙◌}
use mathlib.Core.Bool.{Bool, true, false}
use mathlib.Core.List.{List}
use Rattle.ledger.specs.Call.{Answer, Call, Op}
use Rattle.ledger.specs.Call.Answer.{plain}
use Rattle.ledger.specs.Call.Call.{start, op}
use Rattle.pools.proofs.BoolLaws.{split}
use Rattle.tables.specs.declared.Caps.{Caps}
use Rattle.tables.specs.State.{State, view, caps_of, join_w, join_p, Left, Room}
use Rattle.tables.proofs.ViewLaws.{join-view}
use Rattle.rules.specs.Rule.{test, Holds}
use Rattle.rules.specs.Sound.{fit_rule, range_rule, sound_rule, view_of, Ready}
use Rattle.rules.specs.Calls.{Ans, Out, Shape, entry, ruled}
use Rattle.rules.specs.Calls.Shape.{a_number, an_id, a_turn, a_message, a_part, a_place, an_end, an_advance, a_report, a_copy}
use Rattle.rules.specs.Host.{Called, Gives, Started, answered, can_start, fresh}
use Rattle.rules.specs.Run.{say, seven, step}
use Rattle.rules.specs.Story.{Meets}
use Rattle.rules.proofs.Kept.Rules.{and_same, reads, broken}
use Rattle.rules.proofs.Kept.Sound.{ready_of, room_of, size-test}

-- ---- for any rule
module _ {A : Type 0} (seven : A) (rule : Caps → State → Out A) (w p : List ℕ) where
  -- buffers that hold no sound runtime: the answer is 7's, and nothing has changed
  pub called_broken : {r : A} {w' p' : List ℕ} → (Holds (sound_rule w p) → ⊥) → Called seven rule w p r w' p' → (r ≡ seven) × (w' ≡ w) × (p' ≡ p)
  called_broken n c = let t = broken (sound_rule w p) n in (rw t at c.ans, rw t at c.words, rw t at c.bytes)

  -- others: the answer is the rule's
  pub called_sound : {r : A} {w' p' : List ℕ} → Holds (sound_rule w p) → Called seven rule w p r w' p' →
      (r ≡ (rule (caps_of w) (view_of w p)).ans) × (w' ≡ join_w (rule (caps_of w) (view_of w p)).state) × (p' ≡ join_p (rule (caps_of w) (view_of w p)).state)
  called_sound h c = let t = (reads (sound_rule w p)).1 h in (rw t at c.ans, rw t at c.words, rw t at c.bytes)

-- what the function inside asks
pub called_ready : (w p : List ℕ) {b : Bool} {k : Caps} → b ≡ test (sound_rule w p) → b ≡ true → k ≡ caps_of w → Ready k w p
called_ready w p e q z = rw z (ready_of (caps_of w) w p ((reads (sound_rule w p)).0 (sym e ∙ q)))

-- ---- for any operation
module _ (o : Op) (w p : List ℕ) where
  -- the test said no
  pub meets_no : {b : Bool} → b ≡ test (sound_rule w p) → b ≡ false → Meets (op o) w p (seven o) w p
  meets_no e q = let t = sym e ∙ q in record { ans = rw t; words = rw t; bytes = rw t }

  -- the test said yes, and the function inside followed the rule
  pub meets_yes : {b : Bool} {k : Caps} {r : Ans (entry o).shape} {w' p' : List ℕ} →
      b ≡ test (sound_rule w p) → b ≡ true → k ≡ caps_of w → Gives (ruled (entry o)) k w p r w' p' → Meets (op o) w p (say (entry o).shape r) w' p'
  meets_yes {b} {k} {r} {w'} {p'} e q z g =
      let t = sym e ∙ q in
      let v : view k w' p' ≡ (step o (caps_of w) (view_of w p)).state = g.1.is ∙ ap (λ (j : Caps). (step o j (view j w p)).state) z in
      let j = join-view k w' p' in
      record {
        ans = rw t (ap (say (entry o).shape) g.0 ∙ ap (λ (j : Caps). (step o j (view j w p)).ans) z);
        words = rw t (sym j.0 ∙ ap join_w v);
        bytes = rw t (sym j.1 ∙ ap join_p v);
      }

  -- the same of a rule that changes nothing
  pub meets_still : {b : Bool} {k : Caps} {r : Ans (entry o).shape} → ((k : Caps) (s : State) → (ruled (entry o) k s).state ≡ s) →
      b ≡ test (sound_rule w p) → b ≡ true → k ≡ caps_of w → Room k w p → r ≡ (ruled (entry o) k (view k w p)).ans → Meets (op o) w p (say (entry o).shape r) w p
  meets_still {b} {k} {r} still e q z room a = meets_yes e q z (a, record { is = sym (still k (view k w p)); room = room })

-- buffers that hold no sound runtime: 7, and nothing has changed
pub meets_broken : (o : Op) (w p : List ℕ) {r : Answer} {w' p' : List ℕ} → (Holds (sound_rule w p) → ⊥) → Meets (op o) w p r w' p' → (r ≡ seven o) × (w' ≡ w) × (p' ≡ p)
meets_broken o w p = called_broken (seven o) (step o) w p

-- ---- FIRMNESS, of every call, start among them
-- no second answer and no second pair of buffers meets the promise
pub meets_once : (c : Call) (w p : List ℕ) {r r₂ : Answer} {w' w₂ p' p₂ : List ℕ} → Meets c w p r w' p' → Meets c w p r₂ w₂ p₂ → (r ≡ r₂) × (w' ≡ w₂) × (p' ≡ p₂)
meets_once (start z) w p = λ c d. (c.ans ∙ sym d.ans, c.words ∙ sym d.words, c.bytes ∙ sym d.bytes)
meets_once (op o) w p = λ c d. (c.ans ∙ sym d.ans, c.words ∙ sym d.words, c.bytes ∙ sym d.bytes)

-- as the reckoning has it, an answer has lost nothing of the struct that C gets
pub say-once : (h : Shape) (a b : Ans h) → say h a ≡ say h b → a ≡ b
say-once a_number a b e = cc
say-once an_id a b e = let f : ◌≡◌ {A = Ans an_id} (record { no = a.no; id = a.id }) (record { no = b.no; id = b.id }) = cc in f
say-once a_turn a b e = let f : ◌≡◌ {A = Ans a_turn} (record { no = a.no; id = a.id; reason = a.reason; sleep = a.sleep }) (record { no = b.no; id = b.id; reason = b.reason; sleep = b.sleep }) = cc in f
say-once a_message a b e = let f : ◌≡◌ {A = Ans a_message} (record { no = a.no; sender = a.sender; class = a.class; tag = a.tag; length = a.length })
    (record { no = b.no; sender = b.sender; class = b.class; tag = b.tag; length = b.length }) = cc in f
say-once a_part a b e = cc
say-once a_place a b e = let f : ◌≡◌ {A = Ans a_place} (record { no = a.no; offset = a.offset; length = a.length }) (record { no = b.no; offset = b.offset; length = b.length }) = cc in f
say-once an_end a b e = let f : ◌≡◌ {A = Ans an_end} (record { no = a.no; sent = a.sent; lost = a.lost }) (record { no = b.no; sent = b.sent; lost = b.lost }) = cc in f
say-once an_advance a b e = let f : ◌≡◌ {A = Ans an_advance} (record { no = a.no; fired = a.fired }) (record { no = b.no; fired = b.fired }) = cc in f
say-once a_report a b e = let f : ◌≡◌ {A = Ans a_report} (record { no = a.no; free = a.free }) (record { no = b.no; free = b.free }) = cc in f
say-once a_copy a b e = let f : ◌≡◌ {A = Ans a_copy} (record { no = a.no; bytes = a.bytes }) (record { no = b.no; bytes = b.bytes }) = cc in f

-- so what C gets is the answer of the rule, or 7's
pub meets_answered : (o : Op) (w p : List ℕ) (a : Ans (entry o).shape) {w' p' : List ℕ} → Meets (op o) w p (say (entry o).shape a) w' p' → a ≡ answered (entry o) w p
meets_answered o w p a c =
    let e = entry o in
    say-once e.shape a (answered e w p) (split (test (sound_rule w p)) (λ t. rw t (rw t at c.ans)) (λ t. rw t (rw t at c.ans)))

-- and no second struct
pub struct_once : (o : Op) (w p : List ℕ) (a b : Ans (entry o).shape) {w' w₂ p' p₂ : List ℕ} →
    Meets (op o) w p (say (entry o).shape a) w' p' → Meets (op o) w p (say (entry o).shape b) w₂ p₂ → a ≡ b
struct_once o w p a b c d = say-once (entry o).shape a b (meets_once (op o) w p c d).0

-- ---- start
-- the capacities fit the buffers exactly where a start can be done
can_fit : (k : Caps) (w p : List ℕ) → can_start k w p ≡ test (fit_rule k (view k w p))
can_fit k w p = and_same {a = test (range_rule k)} refl (sym (size-test k w p))

module _ (k : Caps) (w p : List ℕ) where
  -- they do, and the buffers were begun afresh
  pub started_yes : {b : Bool} {w' p' : List ℕ} → b ≡ test (fit_rule k (view k w p)) → b ≡ true → Left k (fresh k (view k w p)) w' p' → Started k w p (plain 0) w' p'
  started_yes {b} {w'} {p'} e q l =
      let t : can_start k w p ≡ true = can_fit k w p ∙ sym e ∙ q in
      let j = join-view k w' p' in
      record { ans = rw t; words = rw t (sym j.0 ∙ ap join_w l.is); bytes = rw t (sym j.1 ∙ ap join_p l.is) }

  -- they do not
  pub started_no : {b : Bool} → b ≡ test (fit_rule k (view k w p)) → b ≡ false → Started k w p (plain 1) w p
  started_no e q =
      let t : can_start k w p ≡ false = can_fit k w p ∙ sym e ∙ q in
      record { ans = rw t; words = rw t; bytes = rw t }

  -- what beginning afresh asks
  pub start_room : {b : Bool} → b ≡ test (fit_rule k (view k w p)) → b ≡ true → Room k w p
  start_room e q = room_of k w p ((reads (fit_rule k (view k w p))).0 (sym e ∙ q))
