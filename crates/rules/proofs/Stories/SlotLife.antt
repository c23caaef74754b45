-- The whole life of a slot: used again and again it gives its ids one after the other, and after the last the next slot is taken.
use Prim.Native.Nat.{ℕ, zero, suc, ◌+◌, ◌*◌, ◌≤◌, ◌<◌}
use native.Mathlib.Omega.{arith}
use mathlib.Core.Path.{◌≡◌, refl, sym, ap, ap₂, subst, ◌∙◌}
use mathlib.Core.List.{List, [], ◌∷◌, ◌++◌}
use lib.IntN.{pos}
use borrow.Author.Tests.{lt-ltb}
use Rattle.ledger.specs.Call.{Answer, Op}
use Rattle.ledger.specs.Call.Answer.{made, turn, ended}
use Rattle.ledger.specs.Call.Op.{spawn, next, exit}
use Rattle.pools.specs.Pool.{lowest}
use Rattle.tables.specs.declared.Caps.{Caps}
use Rattle.tables.specs.Columns.{AGE, PRIORITY}
use Rattle.tables.specs.Limits.{ACTOR-FACTOR, OLDEST}
use Rattle.tables.specs.State.{Sized, State, at, glue, join_p, join_w, poke, view, with_col}
use Rattle.tables.specs.Action.{pull, push}
use Rattle.tables.proofs.ViewLaws.{view-join}
use Rattle.pools.specs.Slot.{id_of}
use Rattle.rules.specs.Aged.{end_own, end_use}
use Rattle.rules.specs.Sound.{range_rule}
use Rattle.rules.specs.Terms.{joins}
use Rattle.rules.specs.Actions.{let_go, ready}
use Rattle.rules.specs.Buses.{leave_buses}
use Rattle.rules.specs.Calls.{cut_link, cut_links, cut_monitors, depart, drop_all, first_head, loosen, out, Out, ruled, run, slot_for, vacate}
use Rattle.rules.specs.Host.{fresh, freed, stated, zeroed}
use Rattle.rules.specs.Run.{lines, play, step}
use Rattle.rules.specs.Story.{caps_from}
use Rattle.rules.specs.Examples.{NORMAL, SMALL, uses, uses_from}
use Rattle.rules.proofs.Frames.Wrote.{wrote_none, wrote_poke, wrote_sized}
use Rattle.rules.specs.Good.{Good}
use Rattle.rules.proofs.Kept.Rules.{reads}
use Rattle.rules.proofs.Kept.Sound.{range_of}
use Rattle.rules.proofs.Kept.Start.{fresh_good}
use Rattle.rules.proofs.Table.{step_keeps}

-- states that lie in buffers are the same where the words and bytes are
same-state : (k : Caps) (s t : State) → Sized k s → Sized k t → join_w s ≡ join_w t → join_p s ≡ join_p t → s ≡ t
same-state k s t a b e f = sym (view-join k s a) ∙ ap₂ (view k) e f ∙ view-join k t b

-- the capacities of the small pools
abbrev k : Caps
k = caps_from SMALL

-- where the lowest slot that can be taken is slot 0, a spawn takes it
first_slot : (t : State) → slot_for k t ≡ 0 →
    step (spawn 0) k t ≡ out (made 0 (id_of ACTOR-FACTOR (at t AGE 0 + 1) 0)) (ready (poke (poke t AGE 0 (at t AGE 0 + 1)) PRIORITY 0 0) 0 0)
unfolding ruled
first_slot t e = rw e

-- what next and then an exit leave
abbrev ran : State → State
ran t = (step (exit NORMAL) k (step next k t).state).state

module _ (s : State) where
  -- a fresh state is sound
  start_good : Good k (fresh k s)
  start_good = fresh_good k s (range_of k ((reads (range_rule k)).0 refl))

  -- a fresh state, but for the age of slot 0
  unfoldable aged : ℕ → State
  aged g = poke (fresh k s) AGE 0 g

  -- the same once an actor was spawned in it
  unfoldable taken : ℕ → State
  taken g = ready (poke (poke (aged g) AGE 0 (g + 1)) PRIORITY 0 0) 0 0

  -- slot 0 can be taken up to its last age
  slot : (g : ℕ) → g < OLDEST → slot_for k (aged g) ≡ 0
  unfolding aged lowest poke with_col fresh freed stated zeroed
  slot g l = rw (lt-ltb g OLDEST l)

  -- it has that age
  age : (g : ℕ) → at (aged g) AGE 0 ≡ g
  unfolding aged poke with_col fresh freed stated zeroed
  age g = refl

  -- so a spawn takes it, and gives the id of the next age
  spawned : (g : ℕ) → g < OLDEST → step (spawn 0) k (aged g) ≡ out (made 0 ((g + 1) * 256)) (taken g)
  unfolding taken
  spawned g l =
      first_slot (aged g) (slot g l)
      ∙ ap (λ (x : ℕ). out (made 0 (id_of ACTOR-FACTOR (x + 1) 0)) (ready (poke (poke (aged g) AGE 0 (x + 1)) PRIORITY 0 0) 0 0)) (age g)
      ∙ ap (λ (i : ℕ). out (made 0 i) (ready (poke (poke (aged g) AGE 0 (g + 1)) PRIORITY 0 0) 0 0)) (omega arith)

  -- the actor runs
  turned : (g : ℕ) → (step next k (taken g)).ans ≡ turn 0 ((g + 1) * 256) 0 (pos 0)
  unfolding aged taken ruled lowest poke with_col fresh freed stated zeroed ready push pull run first_head
  turned g = ap (λ (i : ℕ). turn 0 i 0 (pos 0)) (omega arith)

  -- and ends, with nobody to tell
  done : (g : ℕ) → (step (exit NORMAL) k (step next k (taken g)).state).ans ≡ ended 0 0 0
  unfolding aged taken ruled lowest poke with_col fresh freed stated zeroed ready push pull run first_head depart cut_links cut_link cut_monitors drop_all let_go joins
  done g = refl

  -- then every word and byte is that of a slot one older
  same : (g : ℕ) → (join_w (ran (taken g)) ≡ join_w (aged (g + 1))) × (join_p (ran (taken g)) ≡ join_p (aged (g + 1)))
  unfolding join_w join_p glue aged taken ruled lowest poke with_col fresh freed stated zeroed ready push pull run first_head depart cut_links cut_link cut_monitors drop_all end_own leave_buses let_go joins loosen vacate end_use
  same g = (refl, refl)

  -- each such state lies in buffers
  sized : (g : ℕ) → Sized k (aged g)
  unfolding aged
  sized g = wrote_sized k (wrote_poke (wrote_none (fresh k s)) AGE 0 g) start_good.sized

  -- a fresh state is the one of age 0
  new : fresh k s ≡ aged 0
  unfolding join_w join_p glue aged poke with_col fresh freed stated zeroed
  new = same-state k (fresh k s) (aged 0) start_good.sized (sized 0) refl refl

  -- where the state before was sound, so is what a use leaves
  ran_good : (g : ℕ) → g < OLDEST → Good k (aged g) → Good k (ran (taken g))
  ran_good g l h =
      let t = subst (Good k) (ap (λ (x : Out Answer). x.state) (spawned g l)) (step_keeps (spawn 0) k (aged g) h) in
      step_keeps (exit NORMAL) k (step next k (taken g)).state (step_keeps next k (taken g) t)

  -- one use leaves the slot one older, and nothing else
  older : (g : ℕ) → g < OLDEST → Good k (aged g) → ran (taken g) ≡ aged (g + 1)
  older g l h = same-state k (ran (taken g)) (aged (g + 1)) (ran_good g l h).sized (sized (g + 1)) (same g).0 (same g).1

  -- the answers of one use, and what comes after it
  one_use : (g : ℕ) (cs : List Op) → g < OLDEST → Good k (aged g) →
      play k (aged g) (spawn 0 ∷ next ∷ exit NORMAL ∷ cs) ≡ made 0 ((g + 1) * 256) ∷ turn 0 ((g + 1) * 256) 0 (pos 0) ∷ ended 0 0 0 ∷ play k (aged (g + 1)) cs
  unfolding lines
  one_use g cs l h =
      ap (λ (x : Out Answer). x.ans ∷ (step next k x.state).ans ∷ (step (exit NORMAL) k (step next k x.state).state).ans ∷ play k (ran x.state) cs) (spawned g l)
      ∙ ap₂ (λ (a b : Answer). made 0 ((g + 1) * 256) ∷ a ∷ b ∷ play k (ran (taken g)) cs) (turned g) (done g)
      ∙ ap (λ (t : State). made 0 ((g + 1) * 256) ∷ turn 0 ((g + 1) * 256) 0 (pos 0) ∷ ended 0 0 0 ∷ play k t cs) (older g l h)

  -- THE LAW: n uses, from any age on, give the next n ids of the slot, and leave it n uses older
  life : (n g : ℕ) (cs : List Op) → g + n ≤ OLDEST → Good k (aged g) → play k (aged g) (uses n ++ cs) ≡ uses_from (g + 1) n ++ play k (aged (g + n)) cs
  unfolding uses uses_from
  life zero g cs l h = ap (λ (x : ℕ). play k (aged x) cs) (omega arith)
  life (suc n) g cs l h =
      let m : g < OLDEST = omega arith in
      one_use g (uses n ++ cs) m h
      ∙ ap (λ (ys : List Answer). made 0 ((g + 1) * 256) ∷ turn 0 ((g + 1) * 256) 0 (pos 0) ∷ ended 0 0 0 ∷ ys)
      (life n (g + 1) cs (omega arith) (subst (Good k) (older g m h) (ran_good g m h)) ∙ ap (λ (x : ℕ). uses_from (g + 1 + 1) n ++ play k (aged x) cs) (omega arith))

  -- its last use, after which slot 1 is the lowest
  last_use : play k (aged 1099511627775) (spawn 0 ∷ next ∷ exit NORMAL ∷ spawn 0 ∷ []) ≡ made 0 281474976710656 ∷ turn 0 281474976710656 0 (pos 0) ∷ ended 0 0 0 ∷ made 0 257 ∷ []
  unfolding aged ruled lowest poke with_col fresh freed stated zeroed ready push pull run first_head depart cut_links cut_link cut_monitors drop_all end_own leave_buses let_go joins loosen vacate lines end_use
  last_use = refl

  -- THE THEOREM: from a fresh state on, slot 0 gives an id at each of 33,000,000 uses, the last of them 2,112,000,000; the spawn after that takes slot 1
  pub whole_life : play k (fresh k s) (uses 1099511627775 ++ (spawn 0 ∷ next ∷ exit NORMAL ∷ spawn 0 ∷ []))
      ≡ uses_from 1 1099511627775 ++ (made 0 281474976710656 ∷ turn 0 281474976710656 0 (pos 0) ∷ ended 0 0 0 ∷ made 0 257 ∷ [])
  whole_life =
      let cs : List Op = spawn 0 ∷ next ∷ exit NORMAL ∷ spawn 0 ∷ [] in
      ap (λ (t : State). play k t (uses 1099511627775 ++ cs)) new
      ∙ life 1099511627775 0 cs (omega arith) (subst (Good k) new start_good)
      ∙ ap (λ (ys : List Answer). uses_from 1 1099511627775 ++ ys) last_use
