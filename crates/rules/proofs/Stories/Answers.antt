-- The answers of a line: never 7 on sound buffers, 1, 2, 3 and 4 exactly when they are due by the reckoning, its counts beside a 0, what is shown, and what stands beside a number that is not 0.
use Prim.Native.Nat.{ℕ, ◌-◌}
use native.Mathlib.Omega.{arith}
use mathlib.Core.Path.{◌≡◌, refl, sym, ap, ◌∙◌}
use mathlib.Core.Logic.{◌↔◌, ⊎_elim}
use mathlib.Core.Bool.{Bool, true, false}
use mathlib.Core.List.{List, [], ◌∷◌}
use lib.IntN.{ℤ}
use lib.Dec.{eqb, ltb}
use Rattle.ledger.specs.Call.{Answer, Call, Op, Sizes, Why, code, counted, number, numbered, refuses, zeroed}
use Rattle.ledger.specs.Call.Answer.{part}
use Rattle.ledger.specs.Call.Call.{start, op}
use Rattle.ledger.specs.Call.Op.{read, receive, show}
use Rattle.ledger.specs.Ledger.{Ledger, Message}
use Rattle.ledger.specs.Lists.{some}
use Rattle.ledger.specs.Reckon.{leaf, short, refusal_due}
use Rattle.ledger.specs.Room.{holds, idle, in_hand}
use Rattle.pools.proofs.BoolLaws.{split, true_false}
use Rattle.tables.specs.declared.Caps.{Caps}
use Rattle.tables.specs.Columns.{ARRIVED, ISSUED}
use Rattle.tables.specs.State.{State, caps_of, head, join_p, join_w}
use Rattle.tables.proofs.ViewLaws.{join-view}
use Rattle.rules.specs.Rule.{Holds, test}
use Rattle.rules.specs.Sound.{sound_rule, view_of}
use Rattle.rules.specs.Terms.{runner}
use Rattle.rules.specs.Actions.{let_go}
use Rattle.rules.specs.Agrees.{shows, spelled}
use Rattle.rules.specs.Buses.{oldest_unread}
use Rattle.rules.specs.Calls.{Out, entry, first_match, not_at_all, receive_bare}
use Rattle.rules.specs.Host.{can_start}
use Rattle.rules.specs.Run.{say, say_received, seven, step}
use Rattle.rules.specs.Story.{Kept, Meets, caps_from}
use Rattle.rules.proofs.Reckoned.Firing.{first_either, none_first}
use Rattle.rules.proofs.Stories.Host.{called_broken, called_sound}
use Rattle.rules.proofs.Kept.Host.{good_view}
use Rattle.rules.proofs.Kept.Rules.{reads}
use Rattle.rules.proofs.Kept.Start.{start_refused}
use Rattle.rules.proofs.Reckoned.Running.{show_hand}
use Rattle.rules.proofs.Table.{refusal-zeroed, step-all, step_counts, step-refusal, step_refused, step-seven, step-two, step-verdict}

-- a start answers 0 or 1
start-answer : (z : Sizes) (w p : List ℕ) (r : Answer) (w' p' : List ℕ) → Meets (start z) w p r w' p' → (n : ℕ) → number r ≡ n → (n ≡ 0 → ⊥) → (n ≡ 1 → ⊥) → ⊥
start-answer z w p r w' p' q n e a b =
    split (can_start (caps_from z) w p) (λ y. a (sym e ∙ ap number (rw y at q.ans))) (λ y. b (sym e ∙ ap number (rw y at q.ans)))

-- ---- the answer of a line is the rule's
pub line-answer : (o : Op) (w p : List ℕ) (r : Answer) (w' p' : List ℕ) → Meets (op o) w p r w' p' → Holds (sound_rule w p) → r ≡ (step o (caps_of w) (view_of w p)).ans
line-answer o w p r w' p' q h = (called_sound (seven o) (step o) w p h q).0

-- THE THEOREM: on sound buffers no call answers 7
pub line-seven : (c : Call) (w p : List ℕ) (r : Answer) (w' p' : List ℕ) → Meets c w p r w' p' → Holds (sound_rule w p) → number r ≡ 7 → ⊥
line-seven (start z) = λ w p r w' p' m h e. start-answer z w p r w' p' m 7 e (λ q. absurd (omega arith)) (λ q. absurd (omega arith))
line-seven (op o) = λ w p r w' p' m h e. step-seven o (caps_of w) (view_of w p) (ap number (sym (line-answer o w p r w' p' m h)) ∙ e)

-- THE THEOREM: "no room" exactly when no earlier refusal applies and a pool has less left by the reckoning than the call needs
pub line-two : (c : Call) (l : Ledger) (w p : List ℕ) (r : Answer) (w' p' : List ℕ) → Meets c w p r w' p' → Kept l w p → (number r ≡ 2) ↔ (short l c ≡ true)
line-two (start z) l = λ w p r w' p' m h. (λ e. absurd (start-answer z w p r w' p' m 2 e (λ q. absurd (omega arith)) (λ q. absurd (omega arith))), λ e. true_false false e refl)
line-two (op o) l = λ w p r w' p' m h. rw (line-answer o w p r w' p' m h.sound) (step-two o (caps_of w) (view_of w p) l (good_view w p h.sound) h.agrees)

-- THE THEOREM: of an answer that has a number, each refusal exactly when it is the first that applies, by the reckoning alone
pub line-refusal : (o : Op) (y : Why) (l : Ledger) (w p : List ℕ) (r : Answer) (w' p' : List ℕ) → Meets (op o) w p r w' p' → Kept l w p → numbered r ≡ true →
    (number r ≡ code y) ↔ (refusal_due l (op o) ≡ code y)
line-refusal o y l w p r w' p' m h n =
    let e = line-answer o w p r w' p' m h.sound in
    rw e (step-refusal o (caps_of w) (view_of w p) l (good_view w p h.sound) h.agrees y (rw e at n))

-- THE THEOREM: showing, which has no number, gives an empty part where a refusal applies, by the reckoning alone
pub line_unshown : (y : Why) (l : Ledger) (w p : List ℕ) (r : Answer) (w' p' : List ℕ) → Meets (op show) w p r w' p' → Kept l w p → refusal_due l (op show) ≡ code y → r ≡ part []
line_unshown y l w p r w' p' m h e =
    line-answer show w p r w' p' m h.sound ∙ ap (λ (x : Out Answer). x.ans) (step-verdict show (caps_of w) (view_of w p) l (good_view w p h.sound) h.agrees y e)

-- THE THEOREM: it gives exactly the bytes of the message that is in the caller's hand, by the reckoning alone; none where nobody runs or nothing is in hand
pub line_shown : (l : Ledger) (w p : List ℕ) (r : Answer) (w' p' : List ℕ) → Meets (op show) w p r w' p' → Kept l w p → r ≡ part (shows (in_hand l))
line_shown l w p r w' p' m h = line-answer show w p r w' p' m h.sound ∙ ap part (show_hand (caps_of w) (view_of w p) l (good_view w p h.sound) h.agrees)

-- showing is not refused: the caller has a message in hand
shown_holds : (l : Ledger) → refusal_due l (op show) ≡ 0 → holds l ≡ true
shown_holds l e =
    split (idle l) (λ q. absurd (let n : 4 ≡ 0 = rw q at e in omega arith)) (λ q. split (holds l) (λ p. p) (λ p. absurd (let n : 3 ≡ 0 = rw (q, p) at e in omega arith)))

-- THE THEOREM: and where no refusal applies, the bytes of the one message that is there
pub line-in_hand : (l : Ledger) (w p : List ℕ) (r : Answer) (w' p' : List ℕ) → Meets (op show) w p r w' p' → Kept l w p → refusal_due l (op show) ≡ 0 → (m : Message) × (in_hand l ≡ m ∷ []) × (r ≡ part (spelled m.says))
line-in_hand l w p r w' p' m h e =
    let mine : Message → Bool = λ x. eqb x.to l.people.running in
    let hs = l.mail.hands in
    let f = ⊎_elim (λ z. true_false (some mine hs) (shown_holds l e) (none_first mine hs z)) (λ x. x) (first_either mine hs) in
    (f.0, f.1, line_shown l w p r w' p' m h ∙ ap (λ (ms : List Message). part (shows ms)) f.1)

-- THE THEOREM: the counts beside a 0 are those that the reckoning works out, from what is there alone
pub line_counts : (c : Call) (l : Ledger) (w p : List ℕ) (r : Answer) (w' p' : List ℕ) → Meets c w p r w' p' → Kept l w p → number r ≡ 0 → counted r ≡ (leaf c).counts l
line_counts (start z) l = λ w p r w' p' m h n. split (can_start (caps_from z) w p) (λ y. ap counted (rw y at m.ans)) (λ y. ap counted (rw y at m.ans))
line_counts (op o) l = λ w p r w' p' m h n.
    let e = line-answer o w p r w' p' m h.sound in
    ap counted e ∙ step_counts o (caps_of w) (view_of w p) l (good_view w p h.sound) h.agrees (ap number (sym e) ∙ n)

-- THE THEOREM: "1, 2, 3, 4 and 7 are refusals": on any buffers, a call that answers one has changed no word and no byte, and every other number answered is 0
pub line_refused : (c : Call) (w p : List ℕ) (r : Answer) (w' p' : List ℕ) → Meets c w p r w' p' → refuses (number r) ≡ true → (w' ≡ w) × (p' ≡ p) × (r ≡ zeroed r)
line_refused (start z) = λ w p r w' p' m e.
    let h = start_refused (caps_from z) w p r w' p' m (λ q. true_false (refuses (number r)) e (ap refuses q)) in
    (h.1, h.2, rw h.0)
line_refused (op o) = λ w p r w' p' m e.
    split (test (sound_rule w p))
    (λ t. let d = called_sound (seven o) (step o) w p ((reads (sound_rule w p)).0 t) m in
    let f = step_refused o (caps_of w) (view_of w p) (rw d.0 at e) in
    let i = join-view (caps_of w) w p in
    (d.1 ∙ ap join_w f.0 ∙ i.0, d.2 ∙ ap join_p f.0 ∙ i.1, rw d.0 f.1))
    (λ t. let d = called_broken (seven o) (step o) w p (λ h. true_false (test (sound_rule w p)) ((reads (sound_rule w p)).1 h) t) m in
    (d.1, d.2, rw d.0 (refusal-zeroed (entry o).shape 7)))

-- where the work of a call answers 0 or has zeros beside its number, so has the call on any buffers
unmet_zeros : (o : Op) → ((k : Caps) (s : State) → let x = say (entry o).shape ((entry o).work k s).ans in (number x ≡ 0 → ⊥) → x ≡ zeroed x) →
    (w p : List ℕ) (r : Answer) (w' p' : List ℕ) → Meets (op o) w p r w' p' → (number r ≡ 0 → ⊥) → r ≡ zeroed r
unmet_zeros o zeros w p r w' p' m n =
    let said = say (entry o).shape in
    split (test (sound_rule w p))
    (λ t. let e = (called_sound (seven o) (step o) w p ((reads (sound_rule w p)).0 t) m).0 in
    rw e (step-all o (caps_of w) (view_of w p) (λ x. (number (said x.ans) ≡ 0 → ⊥) → said x.ans ≡ zeroed (said x.ans))
    (λ y z. refusal-zeroed (entry o).shape (code y)) (λ q. zeros (caps_of w) (view_of w p)) (rw e at n)))
    (λ t. rw (called_broken (seven o) (step o) w p (λ h. true_false (test (sound_rule w p)) ((reads (sound_rule w p)).1 h) t) m).0 (refusal-zeroed (entry o).shape 7))

-- once the hand is empty, receive finds its message, or answers 5 or 6 with zeros
bare-zeros : (sender class tag : ℕ) (wait : ℤ) (a : ℕ) (s : State) → let x = say_received (receive_bare sender class tag wait a s).ans in (number x ≡ 0 → ⊥) → x ≡ zeroed x
unfolding receive_bare
bare-zeros sender class tag wait a s =
    split (ltb (first_match s a sender class tag) (head s ARRIVED)) (λ q. rw q (λ n. absurd (n refl)))
    (λ q. split (not_at_all wait) (λ b. rw (q, b) (λ n. refl)) (λ b. rw (q, b) (λ n. refl)))

-- THE THEOREM: "every other number answered is 0, as is any not named": on any buffers, beside receive's 5 and 6 too
pub line_unmet : (sender class tag : ℕ) (wait : ℤ) (w p : List ℕ) (r : Answer) (w' p' : List ℕ) → Meets (op (receive sender class tag wait)) w p r w' p' → (number r ≡ 0 → ⊥) → r ≡ zeroed r
line_unmet sender class tag wait = unmet_zeros (receive sender class tag wait) (λ k s. bare-zeros sender class tag wait (runner s - 1) (let_go s (runner s - 1)))

-- THE THEOREM: and beside read's 5 nothing is copied
pub line-not_new : (b room : ℕ) (w p : List ℕ) (r : Answer) (w' p' : List ℕ) → Meets (op (read b room)) w p r w' p' → (number r ≡ 0 → ⊥) → r ≡ zeroed r
line-not_new b room =
    unmet_zeros (read b room) (λ k s. split (ltb (oldest_unread s b (runner s)) (head s ISSUED)) (λ q. rw q (λ n. absurd (n refl))) (λ q. rw q (λ n. refl)))
