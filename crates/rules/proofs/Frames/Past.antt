-- "Words and bytes past the needed ones are never changed": for every call, on any buffers, which both stay as long as they were.
use Prim.Native.Nat.{ℕ}
use mathlib.Core.Path.{◌≡◌, refl}
use mathlib.Core.List.{List, [], ◌∷◌}
use Rattle.ledger.specs.Call.{Answer, Call, Op}
use Rattle.ledger.specs.Call.Call.{start, op}
use Rattle.pools.proofs.BoolLaws.{split, true_false}
use Rattle.tables.specs.declared.Caps.{Caps}
use Rattle.tables.specs.Columns.{PAST, REST}
use Rattle.tables.specs.State.{State, PastSame, caps_of, poke, view, with_col}
use Rattle.tables.proofs.ViewLaws.{past_same, sized-view}
use Rattle.rules.specs.Rule.{test}
use Rattle.rules.specs.Sound.{sound_rule, view_of}
use Rattle.rules.specs.Calls.{Out}
use Rattle.rules.specs.Host.{Called, Started, can_start, fresh, freed, stated, zeroed}
use Rattle.rules.specs.Run.{seven, step}
use Rattle.rules.specs.Story.{Meets, caps_for, caps_from}
use Rattle.rules.proofs.Frames.Wrote.{apart-at}
use Rattle.rules.specs.Good.{Good}
use Rattle.rules.proofs.Stories.Host.{called_broken, called_sound}
use Rattle.rules.proofs.Kept.Host.{good_view}
use Rattle.rules.proofs.Kept.Rules.{reads}
use Rattle.rules.proofs.Kept.Start.{can_room, fresh_good}
use Rattle.rules.proofs.Table.{proved, step_frame, step_keeps}

-- what is past the needed words and bytes is left alone
abbrev pub PastLeft : (s t : State) → Type 0
PastLeft s t = (t REST ≡ s REST) × (t PAST ≡ s PAST)

-- ---- the calls
-- THE LAW: no call writes there, whatever the state
pub step_past : (o : Op) (k : Caps) (s : State) → PastLeft s (step o k s).state
step_past o k s =
    let f = (proved o).leaves in
    let w = step_frame o k s in
    (w.cols REST (apart-at (REST ∷ PAST ∷ []) f.writes f.past REST refl), w.cols PAST (apart-at (REST ∷ PAST ∷ []) f.writes f.past PAST refl))

-- ---- in the buffers
module _ {A : Type 0} (seven : A) (rule : Caps → State → Out A) (keeps : (k : Caps) (s : State) → Good k s → Good k (rule k s).state) (spares : (k : Caps) (s : State) → PastLeft s (rule k s).state) where
  -- sound ones, for any rule that keeps them so and does not write there, and any others, of which nothing changes
  pub called_past : (w p : List ℕ) (r : A) (w' p' : List ℕ) → Called seven rule w p r w' p' → PastSame (caps_of w) w p w' p'
  called_past w p r w' p' c =
      split (test (sound_rule w p))
      (λ t. let h = (reads (sound_rule w p)).0 t in
      let d = called_sound seven rule w p h c in
      let g = good_view w p h in
      rw (d.1, d.2) (past_same (caps_of w) w p _ g.sized (keeps (caps_of w) (view_of w p) g).sized (spares (caps_of w) (view_of w p))))
      (λ t. let d = called_broken seven rule w p (λ h. true_false (test (sound_rule w p)) ((reads (sound_rule w p)).1 h) t) c in rw (d.1, d.2) (refl, refl, refl, refl))

-- ---- start
-- it does not write there
pub fresh-past : (k : Caps) (s : State) → PastLeft s (fresh k s)
unfolding fresh freed stated zeroed with_col poke
fresh-past k s = (refl, refl)

-- on any buffers
pub started_past : (k : Caps) (w p : List ℕ) (r : Answer) (w' p' : List ℕ) → Started k w p r w' p' → PastSame k w p w' p'
started_past k w p r w' p' c =
    split (can_start k w p)
    (λ q. let r = can_room k w p q in
    let s = view k w p in
    rw (rw q at c.words, rw q at c.bytes) (past_same k w p (fresh k s) (sized-view k w p r) (fresh_good k s r.caps).sized (fresh-past k s)))
    (λ q. rw (rw q at c.words, rw q at c.bytes) (refl, refl, refl, refl))

-- ---- THE THEOREM, for every call on any buffers: both are as long as they were, and what is past the needed words and bytes is as it was
pub line-past : (c : Call) (w p : List ℕ) (r : Answer) (w' p' : List ℕ) → Meets c w p r w' p' → PastSame (caps_for c w) w p w' p'
line-past (start z) = started_past (caps_from z)
line-past (op o) = called_past (seven o) (step o) (step_keeps o) (step_past o)
