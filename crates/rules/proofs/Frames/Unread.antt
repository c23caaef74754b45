-- What lies past the needed words and bytes is not read: no answer depends on it, nor does any needed word or byte after a call. For every call, on any buffers.
use Prim.Native.Nat.{ℕ, zero, suc, ◌+◌, ◌≤◌, ◌<◌}
use native.Mathlib.Nat.{le_of_suc-le-suc}
use native.Mathlib.Omega.{arith}
use mathlib.Core.Path.{◌≡◌, refl, sym, subst, ap, ap₂, ◌∙◌, fun_ext}
use mathlib.Core.Bool.{true, false}
use mathlib.Core.List.{List, [], ◌∷◌, ◌++◌, append-nil}
use lib.ListN.{length, get_or, take, drop}
use lib.Seq.{get_or-take, take-append-add, take_at, take-take}
use lib.Dec.{eqb, lit<, ltb}
use borrow.Author.Tests.{eqb-false, eqb-true, ltb-false, ltb-true, ne_eqb}
use Rattle.ledger.specs.Call.{Answer, Call, Op, Sizes}
use Rattle.ledger.specs.Call.Answer.{plain}
use Rattle.ledger.specs.Call.Call.{start, op}
use Rattle.pools.proofs.BoolLaws.{and_left, split}
use Rattle.pools.proofs.ListLaws.{part-take}
use Rattle.tables.specs.declared.Caps.{Caps}
use Rattle.tables.specs.Columns.{ACTORS, DATAS, LINKS, MAILS, MONITORS, PAST, PAYLOAD, REST, TIMERS}
use Rattle.tables.specs.Sizes.{FIXED}
use Rattle.tables.specs.State.{Sized, State, caps_of, cut, glue, join_p, join_w, needed, needed_p, sizes, sum, view}
use Rattle.tables.proofs.ViewLaws.{needed-sum, view-past, view-word}
use Rattle.rules.specs.Rule.{test}
use Rattle.rules.specs.Sound.{across_rules, pair_rule, plain_rules, range_rule, size_rule, sound_at, sound_rule, view_of}
use Rattle.rules.specs.Host.{can_start, fresh}
use Rattle.rules.specs.Run.{step}
use Rattle.rules.specs.Story.{Meets, caps_for, caps_from}
use Rattle.rules.specs.Trim.{NeededSame, past, trim}
use Rattle.rules.proofs.Kept.Host.{good_view}
use Rattle.rules.proofs.Kept.Rules.{all_same, and_same, reads}
use Rattle.rules.proofs.Kept.Sound.{size-test}
use Rattle.rules.proofs.Kept.Start.{can_room, fresh_good}
use Rattle.rules.proofs.Stories.Plays.{can_start_lem, did_start}
use Rattle.rules.proofs.Table.{step_keeps}
use Rattle.rules.proofs.Frames.Trim.{trim-fresh, trim-step}

-- ---- soundness: its rules say the same of a state without what lies past
-- a column of needed words is none of what lies past
before_rest : (c : ℕ) → c < REST → past c ≡ false
before_rest c l = rw (ne_eqb c REST (λ e. omega arith), ne_eqb c PAST (λ e. omega arith))

-- the rule of sizes, which asks for no size of what lies past
trim-size : (k : Caps) (s : State) → test (size_rule k (trim s)) ≡ test (size_rule k s)
unfolding size_rule
trim-size k s = and_same (all_same REST _ _ (λ c l. rw (before_rest c l))) refl

-- the rules that read a word where it stands
trim-plain : (k : Caps) (s : State) → test (plain_rules k (trim s)) ≡ test (plain_rules k s)
unfolding plain_rules
trim-plain k s = refl

-- THE LAW: a state is sound exactly where it is sound without what lies past
pub trim-sound : (k : Caps) (s : State) → test (sound_at k (trim s)) ≡ test (sound_at k s)
unfolding sound_at across_rules pair_rule
trim-sound k s = and_same (and_same {a = test (range_rule k)} refl (trim-size k s)) (and_same (trim-plain k s) refl)

-- ---- rows of columns
-- two buffers with the same words for all of the columns have the same columns
cut-same : (ns w v : List ℕ) → take (sum ns) v ≡ take (sum ns) w → (c : ℕ) → c < length ns → cut ns v c ≡ cut ns w c
unfolding cut
cut-same [] w v e c l = absurd (omega arith)
cut-same (n ∷ ns) w v e zero l = sym (take-take n (n + sum ns) v (omega arith)) ∙ ap (take n) e ∙ take-take n (n + sum ns) w (omega arith)
cut-same (n ∷ ns) w v e (suc c) l =
    cut-same ns (drop n w) (drop n v)
    (sym (part-take n (sum ns) (n + sum ns) v (omega arith)) ∙ ap (λ (u : List ℕ). take (sum ns) (drop n u)) e ∙ part-take n (sum ns) (n + sum ns) w (omega arith))
    c (le_of_suc-le-suc l)

-- the first words of a row of columns that have their sizes are the same row with nothing past it
take-glue : (ns : List ℕ) (f g : State) → ((c : ℕ) → c < length ns → length (f c) ≡ get_or ns c 0) → ((c : ℕ) → c < length ns → g c ≡ f c) → g (length ns) ≡ [] →
    take (sum ns) (glue (length ns) f) ≡ glue (length ns) g
unfolding glue
take-glue [] f g h e z = sym z
take-glue (n ∷ ns) f g h e z =
    ap (λ (m : ℕ). take (m + sum ns) (f 0 ++ glue (length ns) (λ c. f (suc c)))) (sym (h 0 (omega arith)))
    ∙ take-append-add (f 0) _ (sum ns)
    ∙ rw (e 0 (omega arith), take-glue ns (λ c. f (suc c)) (λ c. g (suc c)) (λ c l. h (suc c) (omega arith)) (λ c l. e (suc c) (omega arith)) z)

-- ---- this runtime's buffers
module _ (k : Caps) (w p v q : List ℕ) (e : NeededSame k w p v q) where
  -- the same payload
  area_same : view k v q PAYLOAD ≡ view k w p PAYLOAD
  unfolding view cut
  area_same = e.1

  -- and the same columns of words, so what they hold is the same without what lies past
  view-same : trim (view k v q) ≡ trim (view k w p)
  view-same = fun_ext (λ c.
      split (eqb c REST) (λ a. rw a)
      (λ a. split (eqb c PAST) (λ b. rw (a, b))
      (λ b. rw (a, b) (split (ltb c REST)
      (λ l. let m = ltb-true c REST l in
      rw (view-word k v q c (omega arith), view-word k w p c (omega arith)) (cut-same (sizes k) w v (rw (needed-sum k) e.0) c m))
      (λ l. split (eqb c PAYLOAD) (λ d. rw (eqb-true c PAYLOAD d) area_same)
      (λ d. let m : PAST < c = omega (arith, eqb-false c REST a, eqb-false c PAST b, ltb-false c REST l, eqb-false c PAYLOAD d) in view-past k v q c m ∙ sym (view-past k w p c m)))))))

-- the needed words and bytes of a state in its buffers are those of the state without what lies past
join-needed : (k : Caps) (s : State) → Sized k s → (take (needed k) (join_w s) ≡ join_w (trim s)) × (take (needed_p k) (join_p s) ≡ join_p (trim s))
unfolding join_w join_p glue
join-needed k s z = (
  ap (λ (n : ℕ). take n (glue REST s)) (sym (needed-sum k)) ∙ take-glue (sizes k) s (trim s) z.words (λ c l. rw (before_rest c l)) refl,
  take_at (s PAYLOAD) (s PAST) (needed_p k) z.bytes ∙ sym (append-nil (s PAYLOAD)),
)

-- so they are the same for states that are the same without it
join-same : (k : Caps) (s t : State) → Sized k s → Sized k t → trim t ≡ trim s → NeededSame k (join_w s) (join_p s) (join_w t) (join_p t)
join-same k s t a b e =
    let x = join-needed k s a in
    let y = join-needed k t b in
    (y.0 ∙ ap join_w e ∙ sym x.0, y.1 ∙ ap join_p e ∙ sym x.1)

-- ---- the calls
-- what a rule leaves of sound buffers has its sizes
left-sized : (o : Op) (w p : List ℕ) → test (sound_rule w p) ≡ true → Sized (caps_of w) (step o (caps_of w) (view_of w p)).state
left-sized o w p t = (step_keeps o (caps_of w) (view_of w p) (good_view w p ((reads (sound_rule w p)).0 t))).sized

module _ (w p v q : List ℕ) (e : NeededSame (caps_of w) w p v q) where
  -- the head's words are among the needed ones
  head-same : (i : ℕ) → i < FIXED → get_or v i 0 ≡ get_or w i 0
  head-same i l =
      let n = needed (caps_of w) in
      sym (get_or-take n v i 0 (omega arith)) ∙ ap (λ (u : List ℕ). get_or u i 0) e.0 ∙ get_or-take n w i 0 (omega arith)

  -- so both pairs state the same capacities
  caps-same : caps_of v ≡ caps_of w
  caps-same = rw (head-same ACTORS (lit< tt), head-same MAILS (lit< tt), head-same DATAS (lit< tt), head-same LINKS (lit< tt), head-same MONITORS (lit< tt), head-same TIMERS (lit< tt))

  -- what they hold is the same without what lies past
  seen_same : trim (view_of v q) ≡ trim (view_of w p)
  seen_same = ap (λ (k : Caps). trim (view k v q)) caps-same ∙ view-same (caps_of w) w p v q e

  -- both are sound or neither is
  sound-same : test (sound_rule v q) ≡ test (sound_rule w p)
  sound-same = sym (trim-sound (caps_of v) (view_of v q)) ∙ ap₂ (λ (k : Caps) (s : State). test (sound_at k s)) caps-same seen_same ∙ trim-sound (caps_of w) (view_of w p)

  module _ (o : Op) where
    -- a rule answers the same on both, and leaves the same needed words and bytes, where both are sound
    left-same : test (sound_rule w p) ≡ true → test (sound_rule v q) ≡ true →
        let x = step o (caps_of w) (view_of w p) in
        let y = step o (caps_of v) (view_of v q) in
        (y.ans ≡ x.ans) × NeededSame (caps_of w) (join_w x.state) (join_p x.state) (join_w y.state) (join_p y.state)
    left-same a b =
        let x = trim-step o (caps_of w) (view_of w p) in
        let y = trim-step o (caps_of v) (view_of v q) in
        let t = (step o (caps_of v) (view_of v q)).state in (
          sym y.0 ∙ ap₂ (λ (k : Caps) (s : State). (step o k s).ans) caps-same seen_same ∙ x.0,
          join-same (caps_of w) _ t (left-sized o w p a) (subst (λ (k : Caps). Sized k t) caps-same (left-sized o v q b))
              (sym y.1 ∙ ap₂ (λ (k : Caps) (s : State). (step o k s).state) caps-same seen_same ∙ x.1),
        )

    -- THE LAW of every call but start
    op_unread : (r r₂ : Answer) (w' p' v' q' : List ℕ) → Meets (op o) w p r w' p' → Meets (op o) v q r₂ v' q' → (r₂ ≡ r) × NeededSame (caps_of w) w' p' v' q'
    op_unread r r₂ w' p' v' q' m n =
        split (test (sound_rule w p))
        (λ a. let b = sound-same ∙ a in
        rw (rw a at m.ans, rw a at m.words, rw a at m.bytes, rw b at n.ans, rw b at n.words, rw b at n.bytes) (left-same a b))
        (λ a. let b = sound-same ∙ a in rw (rw a at m.ans, rw a at m.words, rw a at m.bytes, rw b at n.ans, rw b at n.words, rw b at n.bytes) (refl, e))

-- ---- start
-- it can be done on both pairs or on neither
can_same : (k : Caps) (w p v q : List ℕ) → NeededSame k w p v q → can_start k v q ≡ can_start k w p
can_same k w p v q e =
    and_same {a = test (range_rule k)} refl
    (sym (size-test k v q) ∙ sym (trim-size k (view k v q)) ∙ ap (λ (s : State). test (size_rule k s)) (view-same k w p v q e) ∙ trim-size k (view k w p) ∙ size-test k w p)

-- a fresh runtime has the same needed words and bytes, whatever the buffers held
fresh-same : (k : Caps) (w p v q : List ℕ) → can_start k w p ≡ true → let s = fresh k (view k w p) in let t = fresh k (view k v q) in NeededSame k (join_w s) (join_p s) (join_w t) (join_p t)
fresh-same k w p v q c =
    let r = (can_room k w p c).caps in
    join-same k (fresh k (view k w p)) (fresh k (view k v q)) (fresh_good k (view k w p) r).sized (fresh_good k (view k v q) r).sized (trim-fresh k (view k v q) ∙ sym (trim-fresh k (view k w p)))

-- THE LAW: a start that answered 0 on some buffers answers 0 on any that are long enough for its capacities, and leaves the same needed words and bytes, whatever was there before
pub fresh_alike : (z : Sizes) (w p v q : List ℕ) (r : Answer) (w' p' v' q' : List ℕ) → Meets (start z) w p (plain 0) w' p' → Meets (start z) v q r v' q' →
    needed (caps_from z) ≤ length v → needed_p (caps_from z) ≤ length q → (r ≡ plain 0) × NeededSame (caps_from z) w' p' v' q'
fresh_alike z w p v q r w' p' v' q' m n g h =
    let k = caps_from z in
    let a = did_start z w p w' p' m in
    let b = can_start_lem k v q (and_left (test (range_rule k)) _ a) g h in
    rw (rw a at m.words, rw a at m.bytes, rw b at n.ans, rw b at n.words, rw b at n.bytes) (refl, fresh-same k w p v q a)

-- THE LAW of any two starts on buffers with the same needed words and bytes
start-unread : (z : Sizes) (w p v q : List ℕ) → NeededSame (caps_from z) w p v q → (r r₂ : Answer) (w' p' v' q' : List ℕ) → Meets (start z) w p r w' p' → Meets (start z) v q r₂ v' q' →
    (r₂ ≡ r) × NeededSame (caps_from z) w' p' v' q'
start-unread z w p v q e r r₂ w' p' v' q' m n =
    let k = caps_from z in
    split (can_start k w p)
    (λ a. let b = can_same k w p v q e ∙ a in
    rw (rw a at m.ans, rw a at m.words, rw a at m.bytes, rw b at n.ans, rw b at n.words, rw b at n.bytes) (refl, fresh-same k w p v q a))
    (λ a. let b = can_same k w p v q e ∙ a in rw (rw a at m.ans, rw a at m.words, rw a at m.bytes, rw b at n.ans, rw b at n.words, rw b at n.bytes) (refl, e))

-- ---- THE THEOREM, for every call on any two pairs of buffers with the same needed words and bytes: the answers are the same, and so are the needed words and bytes after it
pub line-unread : (c : Call) (w p v q : List ℕ) → NeededSame (caps_for c w) w p v q → (r r₂ : Answer) (w' p' v' q' : List ℕ) → Meets c w p r w' p' → Meets c v q r₂ v' q' →
    (r₂ ≡ r) × NeededSame (caps_for c w) w' p' v' q'
line-unread (start z) w p v q e = start-unread z w p v q e
line-unread (op o) w p v q e = op_unread w p v q e o
