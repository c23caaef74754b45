-- THE THEOREMS of an actor that ends, for any live slot: the runtime stays sound, nothing of it is left, and the reckoning says the same.
use Prim.Native.Nat.{ℕ, suc, ◌-◌, ◌≤◌, ◌<◌}
use native.Mathlib.Omega.{arith}
use mathlib.Core.Path.{◌≡◌, refl, sym, ap, ap₂, subst, ◌∙◌}
use mathlib.Core.Bool.{true, false, cond}
use mathlib.Core.List.{List, [], ◌∷◌, ◌++◌}
use lib.ListN.{get_or}
use lib.Dec.{eqb, lit<}
use borrow.Author.Tests.{eqb-true, eqb-false, eq-eqb, le-ltb, ne_eqb}
use Rattle.ledger.specs.Call.Op.{exit}
use Rattle.ledger.specs.Ledger.{Ledger}
use Rattle.ledger.specs.Reckon.{departed, entered, gone, losses, notices, parts, passed, sendings}
use Rattle.pools.proofs.BoolLaws.{split}
use Rattle.pools.proofs.SlotLaws.{slot_of_id}
use Rattle.tables.specs.declared.Caps.{Caps}
use Rattle.tables.specs.Columns.{AGE, STATE}
use Rattle.tables.specs.Limits.{ACTOR-FACTOR, LAST-REASON}
use Rattle.tables.specs.State.{State, at}
use Rattle.rules.specs.Terms.{FREE, actor_id, alive, is_actor, runner, runner_id}
use Rattle.rules.specs.Agrees.{Agrees, actor_at, run_id}
use Rattle.rules.specs.Calls.{depart, exit_entry, ruled, steps, through, vacate}
use Rattle.rules.specs.Aged.{actor_pool}
use Rattle.rules.proofs.Reckoned.Pools.{pool_ends}
use Rattle.rules.proofs.Lists.Ties
use Rattle.rules.proofs.Reckoned.Parts.{agrees_people}
use Rattle.rules.proofs.Claims.{Agreed, Counted, Keeps, Tested}
use Rattle.rules.proofs.Lists.Columns.{set-zero}
use Rattle.rules.proofs.Lists.Each.{all-within}
use Rattle.rules.proofs.Frames.Wrote.{Beside, beside_of, beside_over}
use Rattle.rules.specs.Good.{Ending, Good}
use Rattle.rules.proofs.Reckoned.Ledger.{alive_slot, actor_id-eqb, id_not_zero, idle-same, runner-alive, running_is}
use Rattle.rules.proofs.Lists.Ids.{id_free}
use Rattle.rules.proofs.Lists.Ties.{down, set-cond}
use Rattle.rules.proofs.Ends.Leaving.{LEFT, OWNED, Vacated, beside_vacate, vacate_leaves, vacated_keeps, zero_else}
use Rattle.rules.proofs.Ends.Steps.{Bared, Gone, after, bared_still, through_beside, through_keeps, through_reckoned, written}
use Rattle.rules.proofs.Ends.Laws.{laws}

-- ---- once all the steps are done
module _ (k : Caps) (s : State) (a reason : ℕ) (g : Good k s) (there : alive (s STATE) a ≡ true) where
  -- the actor is about to leave
  begins : Ending k a (actor_id s a) s
  begins = record { good = g; there = there; id = refl }

  -- it is alive in a sound runtime, and owns nothing
  pub through-ends : Ending k a (actor_id s a) (through steps k a (actor_id s a) reason s).state × Bared OWNED a (through steps k a (actor_id s a) reason s).state
  through-ends =
      let h = through_keeps laws k a (actor_id s a) reason s [] refl begins tt in
      let u = (through steps k a (actor_id s a) reason s).state in
      (h.0, all-within (λ c. Gone c a (u c)) OWNED (after laws []) refl h.1)

  -- its slot is given back
  slot_left : Vacated k a (through steps k a (actor_id s a) reason s).state (depart k a reason s).state
  unfolding depart
  slot_left = let h = through-ends.0 in vacate_leaves k (through steps k a (actor_id s a) reason s).state a h.good h.there

  -- THE THEOREM: the runtime stays sound, whoever ends
  pub depart_keeps : Good k (depart k a reason s).state
  depart_keeps = let h = through-ends in vacated_keeps k (through steps k a (actor_id s a) reason s).state (depart k a reason s).state a h.0.good
      h.1 slot_left

  -- THE THEOREM: nothing of it is left: it owns nothing, nothing is aimed at it, its slot is free and its id is nobody's
  pub depart_leaves_nothing : Bared OWNED a (depart k a reason s).state × (at (depart k a reason s).state STATE a ≡ FREE) × (is_actor (depart k a reason s).state (actor_id s a) ≡ false)
  depart_leaves_nothing =
      let u = (through steps k a (actor_id s a) reason s).state in
      let t = (depart k a reason s).state in
      let f : at t STATE a ≡ FREE = ap (λ (c : List ℕ). get_or c a 0) slot_left.state ∙ set-zero (u STATE) a in
      let l : a < ACTOR-FACTOR = omega (arith, alive_slot k s g a there, g.range.few_actors) in (
        bared_still OWNED a (beside_of slot_left.wrote) refl through-ends.1,
        f,
        id_free t (actor_id s a) (ap (λ (i : ℕ). at t STATE i) (slot_of_id ACTOR-FACTOR (at s AGE a) a l) ∙ f),
      )

-- ---- the slot, and the reckoning
module _ (k : Caps) (s u : State) (l : Ledger) (a : ℕ) (g : Good k s) (r : Agrees k l s) (there : alive (s STATE) a ≡ true) (v : Vacated k a s u) where
  -- nobody runs where it ran, and else the same
  still-runs : cond (eqb l.people.running (actor_id s a)) 0 l.people.running ≡ run_id u
  still-runs =
      let c = v.wrote.cols AGE refl in
      split (eqb (runner s) (suc a))
      (λ q. let e = eqb-true (runner s) (suc a) q in
      let i : run_id s ≡ actor_id s a = rw (e, ne_eqb (suc a) 0 (λ z. omega arith)) (ap (actor_id s) (down a)) in
      let z : runner u ≡ 0 = v.runs ∙ rw q in
      rw (r.people.running ∙ i, eq-eqb (actor_id s a) (actor_id s a) refl, z))
      (λ q. let z : runner u ≡ runner s = v.runs ∙ rw q in
      rw (z, c) (split (eqb (runner s) 0)
      (λ n. let i : l.people.running ≡ 0 = r.people.running ∙ rw n in
      rw (n, i, ne_eqb 0 (actor_id s a) (λ e. eqb-false (actor_id s a) 0 (id_not_zero k s g a there) (sym e))))
      (λ n. let i : l.people.running ≡ runner_id s = r.people.running ∙ rw n in
      let d : eqb (runner s - 1) a ≡ false = ne_eqb (runner s - 1) a (λ e. eqb-false (runner s) (suc a) q (omega (arith, eqb-false (runner s) 0 n))) in
      rw (n, i, actor_id-eqb k s g (runner s - 1) a (runner-alive k s g n) there ∙ d))))

  -- THE LAW of the slot: the reckoning has the actor no more
  pub vacated_agrees : Agrees k (gone (actor_id s a) l) u
  unfolding gone alive
  vacated_agrees =
      let c = v.wrote.cols AGE refl in
      let m = alive_slot k s g a there in
      let few : k.actors ≤ ACTOR-FACTOR = omega (arith, g.range.few_actors) in
      let zero : (e : ℕ) → at u STATE e ≡ cond (eqb e a) 0 (at s STATE e) =
      λ e. ap (λ (l : List ℕ). get_or l e 0) v.state ∙ set-cond (s STATE) a 0 e (omega (arith, g.sized.words STATE (lit< tt))) in
      agrees_people v.wrote r _ refl (record {
        running = still-runs;
        pool = pool_ends actor_pool s k.actors (g.sized.words STATE (lit< tt)) few r.people.pool u (actor_at u) (λ x. x.id) (λ e. eqb e a)
            (λ x. eqb x.id (actor_id s a)) zero c (λ e. refl) (λ e d n. Ties.slot_id_eqb ACTOR-FACTOR (s AGE) e a (omega arith) (omega arith))
            (λ e q. rw (c, zero_else v.level e q));
      })

-- ---- ALL OF IT
pub record Ended_so (k : Caps) (a reason : ℕ) (s : State) (l : Ledger) : Type 0 where
  -- the tables hold what the reckoning says
  pub agrees : Agrees k (departed (actor_id s a) reason l) (depart k a reason s).state
  -- as many notices were sent, and as many lost, as the reckoning sends and loses
  pub sent : (depart k a reason s).sent ≡ sendings (actor_id s a) reason l
  pub lost : (depart k a reason s).lost ≡ losses (actor_id s a) reason l

-- THE THEOREM, and the reckoning, whoever ends
pub depart_agrees : (k : Caps) (s : State) (l : Ledger) (a reason : ℕ) → Good k s → Agrees k l s → alive (s STATE) a ≡ true → Ended_so k a reason s l
unfolding depart departed notices sendings
depart_agrees k s l a reason g r there =
    let me = actor_id s a in
    let t = through steps k a me reason s in
    let h = (through-ends k s a reason g there).0 in
    let z = through_reckoned laws k a me reason s l [] refl (begins k s a reason g there) tt r in
    record {
      agrees = subst (λ (i : ℕ). Agrees k (gone i (passed parts me reason l)) (vacate t.state a)) h.id
          (vacated_agrees k t.state (vacate t.state a) (passed parts me reason l) a h.good z.agrees h.there (slot_left k s a reason g there));
      sent = z.sent;
      lost = omega (arith, z.sent, z.due);
    }

-- it writes the columns of its steps and of its slot; nothing is asked
pub beside_depart : (k : Caps) (a reason : ℕ) (s : State) → Beside (written laws ++ LEFT) s (depart k a reason s).state
unfolding depart
beside_depart k a reason s = beside_over (written laws ++ LEFT) (through_beside laws k a (actor_id s a) reason s) (beside_vacate _ a) refl

-- ---- EXIT: the one that runs
-- THE THEOREM: the runtime stays sound
pub exit_keeps : (reason : ℕ) → Keeps (exit reason)
exit_keeps reason k s g p = depart_keeps k s (runner s - 1) reason g (runner-alive k s g p.0)

-- THE THEOREM: the reckoning says the same
pub exit_agrees : (reason : ℕ) → Agreed (exit reason)
unfolding entered
exit_agrees reason k s l g r p =
    let a = runner s - 1 in
    subst (λ (i : ℕ). Agrees k (departed i reason l) (depart k a reason s).state) (sym (running_is k s g l r p.0))
    (depart_agrees k s l a reason g r (runner-alive k s g p.0)).agrees

-- THE LAW: it answers as many sent and lost as the reckoning sends and loses
pub exit_counts : (reason : ℕ) → Counted (exit reason)
exit_counts reason k s l g r p =
    let t = depart k (runner s - 1) reason s in
    let e = depart_agrees k s l (runner s - 1) reason g r (runner-alive k s g p.0) in
    subst (λ (i : ℕ). t.sent ∷ t.lost ∷ [] ≡ sendings i reason l ∷ losses i reason l ∷ []) (sym (running_is k s g l r p.0))
    (ap₂ (λ (x y : ℕ). x ∷ y ∷ []) e.sent e.lost)

-- its tests are the reckoning's
pub exit_same : (reason : ℕ) → Tested (exit reason)
exit_same reason k s l g r = (idle-same k s g l r, refl, λ h. (refl, refl, λ z. record {}))

-- THE THEOREM: "Nothing of an ended actor is left"
pub exit_leaves_nothing : (reason : ℕ) (k : Caps) (s : State) → Good k s → eqb (runner s) 0 ≡ false → reason ≤ LAST-REASON →
    let t = (ruled (exit_entry reason) k s).state in
    Bared OWNED (runner s - 1) t × (at t STATE (runner s - 1) ≡ FREE) × (is_actor t (runner_id s) ≡ false)
unfolding ruled
exit_leaves_nothing reason k s g q h = rw (q, le-ltb LAST-REASON reason h) (depart_leaves_nothing k s (runner s - 1) reason g (runner-alive k s g q))
