-- A metronome does not drift: for as long as a periodic timer lives, until a new start, each of its due times is its first plus a whole number of its intervals.
use Prim.Native.Nat.{ℕ, ◌+◌, ◌<◌}
use native.Mathlib.Nat.{mul-zero}
use native.Mathlib.Omega.{arith}
use mathlib.Core.Path.{◌≡◌, refl, sym, ap, subst, ◌∙◌}
use mathlib.Core.Logic.{⊎_elim}
use mathlib.Core.Bool.{Bool, true, false, ◌||◌}
use mathlib.Core.List.{List, [], ◌∷◌}
use lib.Dec.{eqb, ltb, lit<}
use borrow.Author.Tests.{eqb-false, eqb-true, ltb-true, ne_eqb, not-false}
use Rattle.ledger.specs.Beat.{OnBeat}
use Rattle.ledger.specs.Call.{Answer, Line, Op, code, id_told, number, refuses}
use Rattle.ledger.specs.Call.Answer.{made}
use Rattle.ledger.specs.Call.Call.{op}
use Rattle.ledger.specs.Call.Op.{every}
use Rattle.ledger.specs.Ledger.{Ledger, Timer}
use Rattle.ledger.specs.Lists.{some}
use Rattle.ledger.specs.Reckon.{entered, reckon}
use Rattle.pools.specs.Slot.{age_of, slot_of}
use Rattle.pools.proofs.BoolLaws.{split, true_false}
use Rattle.pools.proofs.SlotLaws.{age_of_id, slot_of_id}
use Rattle.tables.specs.declared.Caps.{Caps}
use Rattle.tables.specs.Columns.{CLOCK, TIMER-AGE, TIMER-OWNER}
use Rattle.tables.specs.Limits.{LONGEST, TIMER-FACTOR}
use Rattle.tables.specs.State.{State, at, caps_of, head}
use Rattle.rules.specs.declared.Made.{Made}
use Rattle.rules.specs.Aged.{timer_pool}
use Rattle.rules.specs.Agrees.{timer_at}
use Rattle.rules.specs.Calls.{Out, arm_entry, bad_interval, refusal, ruled, timer_for}
use Rattle.rules.specs.Calls.Shape.{an_id}
use Rattle.rules.specs.Good.{Good}
use Rattle.rules.specs.Run.{step}
use Rattle.rules.specs.Sound.{view_of}
use Rattle.rules.specs.Story.{Kept, Meets, Story, line, startless}
use Rattle.rules.specs.Terms.{timer_id}
use Rattle.rules.proofs.Frames.Ages.{arm_raised}
use Rattle.rules.proofs.Frames.Wrote.{All}
use Rattle.rules.proofs.Guards.{guarded-all, third_passed, why_refuses}
use Rattle.rules.proofs.Kept.Host.{good_view}
use Rattle.rules.proofs.Lists.Each.{all_both, all_read, all_stands, all_then, none_all}
use Rattle.rules.proofs.Reckoned.Beats.{Beating}
use Rattle.rules.proofs.Reckoned.Ledger.{some-map, some_no}
use Rattle.rules.proofs.Reckoned.Pages.{Arms}
use Rattle.rules.proofs.Reckoned.Ties.{clock_used}
use Rattle.rules.proofs.Stories.Answers.{line-answer}
use Rattle.rules.proofs.Stories.Ends.{line-state}
use Rattle.rules.proofs.Stories.Over.{WasGiven, given_stays, next_given, next_new}
use Rattle.rules.proofs.Stories.Story.{line_kept, story_kept, story_lasts}
use Rattle.rules.proofs.Table.{proved}

-- ---- the id of a timer
-- what a call that armed a timer gave: an id of an age that its slot never had before, and has had now
abbrev New : State → Out Made → Type 0
New s x = x.ans.no ≡ 0 → (at s TIMER-AGE (slot_of TIMER-FACTOR x.ans.id) < age_of TIMER-FACTOR x.ans.id) × WasGiven timer_pool x.state x.ans.id

arm_new : (delay interval : ℕ) (bad : Bool) (k : Caps) (s : State) → Good k s → New s (ruled (arm_entry delay interval bad) k s)
unfolding ruled
arm_new delay interval bad k s g =
    guarded-all (refusal an_id) s ((arm_entry delay interval bad).work k s) (New s) ((arm_entry delay interval bad).tests k s)
    (λ y e. true_false (refuses (code y)) (why_refuses y).0 (ap refuses e))
    (λ p e. let i = timer_for k s in
    let m = ltb-true i k.timers (not-false (ltb i k.timers) (third_passed p)) in
    let b : i < TIMER-FACTOR = omega (arith, m, g.range.few_timers) in
    (next_new timer_pool s i b, next_given timer_pool s i b ((arm_entry delay interval bad).work k s).state (arm_raised delay interval bad k s) (omega (arith, m, g.sized.words TIMER-AGE (lit< tt)))))

-- so it is no id that was given before
another : (delay interval : ℕ) (bad : Bool) (k : Caps) (s : State) (id : ℕ) → Good k s → WasGiven timer_pool s id →
    (ruled (arm_entry delay interval bad) k s).ans.no ≡ 0 → (ruled (arm_entry delay interval bad) k s).ans.id ≡ id → ⊥
another delay interval bad k s id g given z e = omega (arith, given, rw e at (arm_new delay interval bad k s g z).0)

-- whichever call arms it
arms_another : (o : Op) (k : Caps) (s : State) (id : ℕ) → Good k s → WasGiven timer_pool s id → number (step o k s).ans ≡ 0 → id_told (step o k s).ans ≡ id → Arms o → ⊥
arms_another o k s id g given z e =
    let Same : Op → Type 0 = λ c. (number (step c k s).ans ≡ 0) × (id_told (step c k s).ans ≡ id) in
    ⊎_elim
    (λ x. let (a, b) = subst Same x.1 (z, e) in another x.0 0 (ltb LONGEST x.0) k s id g given a b)
    (λ x. let (a, b) = subst Same x.1 (z, e) in another x.0 x.0 (bad_interval x.0) k s id g given a b)

-- ---- a metronome on buffers
-- its id was given, and every timer of that id is on its beat
record Metronome (id first interval : ℕ) (l : Ledger) (s : State) : Type 0 where
  given : WasGiven timer_pool s id
  beats : Beating id first interval l.time

module _ (id first interval : ℕ) where
  -- every call but start leaves it so
  op_steady : (o : Op) (l : Ledger) (w p : List ℕ) (r : Answer) (w' p' : List ℕ) → Meets (op o) w p r w' p' → Kept l w p → Metronome id first interval l (view_of w p) →
      Metronome id first interval (entered (line (op o) r) l) (view_of w' p')
  unfolding entered
  op_steady o l w p r w' p' m h t =
      let k = caps_of w in
      let s = view_of w p in
      let e = line-answer o w p r w' p' m h.sound in
      let others : number r ≡ 0 → Arms o → id_told r ≡ id → ⊥ = λ z a i.
      arms_another o k s id (good_view w p h.sound) t.given (ap number (sym e) ∙ z) (ap id_told (sym e) ∙ i) a in
      record {
        given = subst (λ (u : State). WasGiven timer_pool u id) (sym (line-state o w p r w' p' m h.sound).0) (given_stays timer_pool refl o k s id t.given);
        beats = split (eqb (number r) 0)
            (λ q. rw q ((proved o).page.steady.0 id first interval (id_told r) l (others (eqb-true (number r) 0 q)) t.beats))
            (λ q. rw q (split (eqb (number r) 5 || eqb (number r) 6)
            (λ y. rw y ((proved o).page.steady.1 id first interval (number r) l t.beats))
            (λ y. rw y t.beats)));
      }

  -- what the reckoning says of the timers of that id, the tables say
  tabled : (l : Ledger) (w p : List ℕ) → Kept l w p → Beating id first interval l.time →
      let s = view_of w p in (i : ℕ) → (at s TIMER-OWNER i ≡ 0 → ⊥) → timer_id s i ≡ id → OnBeat first interval (head s CLOCK) (timer_at s i)
  tabled l w p h b i used =
      let s = view_of w p in
      let a = h.agrees.time in
      let P : Timer → Type 0 = λ t. t.id ≡ id → OnBeat first interval (head s CLOCK) t in
      let c = subst (λ (clock : ℕ). All (λ (t : Timer). t.id ≡ id → OnBeat first interval clock t) l.time.timers) a.clock b in
      let d = subst (All P) a.pool.are c in
      all_stands (λ e. P (timer_at s e)) a.pool.slots (all_read P (timer_at s) a.pool.slots d) i (rw (a.pool.all_slots i, ne_eqb (at s TIMER-OWNER i) 0 used) (omega arith))

-- ---- where it begins
-- of the timers that are there none has an id of an age that its slot never had
none_has : (l : Ledger) (w p : List ℕ) (id : ℕ) → Kept l w p → at (view_of w p) TIMER-AGE (slot_of TIMER-FACTOR id) < age_of TIMER-FACTOR id → some (λ t. eqb t.id id) l.time.timers ≡ false
none_has l w p id h new =
    let k = caps_of w in
    let s = view_of w p in
    let g = good_view w p h.sound in
    let a = h.agrees.time.pool in
    ap (some (λ t. eqb t.id id)) a.are ∙ some-map (λ t. eqb t.id id) (timer_at s) a.slots
    ∙ some_no (λ e. eqb (timer_id s e) id) a.slots (λ e o.
    let b : e < TIMER-FACTOR = omega (arith, (clock_used k l s s g.sized g.range h.agrees e o).1, g.range.few_timers) in
    ne_eqb (timer_id s e) id (λ z. omega (arith, rw (sym z, slot_of_id TIMER-FACTOR (at s TIMER-AGE e) e b, age_of_id TIMER-FACTOR (at s TIMER-AGE e) e b) at new)))

-- a periodic timer that was just armed is on its beat: it is due at its first time
every_begins : (interval id : ℕ) (l : Ledger) (w p w₁ p₁ : List ℕ) → Meets (op (every interval)) w p (made 0 id) w₁ p₁ → Kept l w p →
    Metronome id (l.time.clock + interval) interval (entered (line (op (every interval)) (made 0 id)) l) (view_of w₁ p₁)
unfolding entered
every_begins interval id l w p w₁ p₁ m h =
    let s = view_of w p in
    let e = line-answer (every interval) w p (made 0 id) w₁ p₁ m h.sound in
    let first = l.time.clock + interval in
    let f = arm_new interval interval (bad_interval interval) (caps_of w) s (good_view w p h.sound) (ap number (sym e)) in
    let new : at s TIMER-AGE (slot_of TIMER-FACTOR id) < age_of TIMER-FACTOR id = subst (λ (i : ℕ). at s TIMER-AGE (slot_of TIMER-FACTOR i) < age_of TIMER-FACTOR i) (ap id_told (sym e)) f.0 in
    let P : Timer → Type 0 = λ t. t.id ≡ id → OnBeat first interval l.time.clock t in
    record {
      given = subst (λ (u : State). WasGiven timer_pool u id) (sym (line-state (every interval) w p (made 0 id) w₁ p₁ m h.sound).0)
          (subst (λ (i : ℕ). WasGiven timer_pool (step (every interval) (caps_of w) s).state i) (ap id_told (sym e)) f.1);
      beats = all_both P l.time.timers (_ ∷ [])
          (all_then (λ t. eqb t.id id ≡ false) P l.time.timers (λ t n z. absurd (eqb-false t.id id n z)) (none_all (λ t. eqb t.id id) l.time.timers (none_has l w p id h new)))
          (λ z. record { kept = refl; times = 0; whole = omega (arith, mul-zero interval); soon = omega arith }, tt);
    }

-- THE THEOREM: for as long as it lives, until a new start, a periodic timer is due a whole number of its intervals after its first due time, and one interval from now at most
pub stays_on_beat : (interval id : ℕ) (l : Ledger) {w p w₁ p₁ w₂ p₂ : List ℕ} {xs : List Line} → Meets (op (every interval)) w p (made 0 id) w₁ p₁ → Kept l w p → Story w₁ p₁ xs w₂ p₂ → startless xs ≡ true →
    let s = view_of w₂ p₂ in (i : ℕ) → (at s TIMER-OWNER i ≡ 0 → ⊥) → timer_id s i ≡ id → OnBeat (l.time.clock + interval) interval (head s CLOCK) (timer_at s i)
stays_on_beat interval id l {w} {p} {w₁} {p₁} {w₂} {p₂} {xs} m h y n =
    let l₁ = entered (line (op (every interval)) (made 0 id)) l in
    let j : Kept l₁ w₁ p₁ = line_kept (op (every interval)) l w p (made 0 id) w₁ p₁ m h in
    let first = l.time.clock + interval in
    tabled id first interval (reckon l₁ xs) w₂ p₂ (story_kept l₁ y j) (story_lasts (Metronome id first interval) (op_steady id first interval) l₁ y n j (every_begins interval id l w p w₁ p₁ m h)).beats
