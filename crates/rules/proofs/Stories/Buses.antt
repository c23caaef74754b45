-- What stories say of buses. Each theorem speaks of buffers that hold exactly what a reckoning says (`Kept`), as those of any story after a start do.
use Prim.Native.Nat.{ℕ, ◌+◌, ◌-◌, ◌≤◌, ◌<◌}
use native.Mathlib.Omega.{arith}
use mathlib.Core.Path.{◌≡◌, refl, sym, ap, subst, ◌∙◌}
use mathlib.Core.Logic.{◌⊎◌, ⊎_elim}
use mathlib.Core.Bool.{Bool, true, false, cond, not, ◌&&◌}
use mathlib.Core.List.{List, [], ◌∷◌, ◌++◌, map, map-map}
use lib.ListN.{length, length-map}
use lib.Dec.{eqb, ltb, lit<, leb}
use borrow.Author.Tests.{eqb-true, ne_eqb, lt-leb}
use Rattle.ledger.specs.Call.{Answer, Line, Op, Why, code, first_yes, id_told, number, numbered, refuses, when}
use Rattle.ledger.specs.Call.Why.{full, malformed, moment, unknown}
use Rattle.ledger.specs.Call.Answer.{copied, made, plain, advanced}
use Rattle.ledger.specs.Call.Call.{op}
use Rattle.ledger.specs.Call.Op.{bus, publish, read, spawn, subscribe, advance}
use Rattle.ledger.specs.Ledger.{Ledger, Value}
use Rattle.ledger.specs.Limits.{PAYLOAD-MOST}
use Rattle.ledger.specs.Lists.{but_first, some, those}
use Rattle.ledger.specs.Reckon.{entered, evicted, issued, one_more_of, read_out_of, reading, reckon, refusal_due, short, aired, firings, later, stale}
use Rattle.ledger.specs.Room.{bus_full, datas_left, heard, idle, is_bus, is_reader, oldest_unread, subscribed, unread}
use Rattle.pools.specs.Slot.{age_of, slot_of}
use Rattle.pools.proofs.BoolLaws.{split, true_false}
use Rattle.pools.proofs.SlotLaws.{age_of_id, slot_of_id}
use Rattle.tables.specs.Columns.{AGE, BUSES, ISSUED, SEAT, STATE}
use Rattle.tables.specs.Limits.{ACTOR-FACTOR}
use Rattle.tables.specs.State.{at, caps_of, head}
use Rattle.rules.specs.Sound.{view_of}
use Rattle.rules.specs.Agrees.{Ascending, bus_at, reader_at, up_to, value_said, values_in}
use Rattle.rules.specs.Terms.{actor_id}
use Rattle.rules.specs.Buses.{value_at}
use Rattle.rules.specs.Run.{say}
use Rattle.rules.specs.Calls.{entry}
use Rattle.rules.specs.Story.{Kept, Meets, Story, line, startless}
use Rattle.rules.proofs.Frames.Wrote.{All}
use Rattle.rules.proofs.Guards.{why_refuses}
use Rattle.rules.proofs.Kept.Host.{good_view}
use Rattle.rules.proofs.Kept.Row.{value_there}
use Rattle.rules.proofs.Reckoned.Cursors.{Beyond, sole-rank, joined_beyond, reading_passes, story_beyond, unread_beyond, fires-still}
use Rattle.rules.proofs.Reckoned.Firing.{first_either}
use Rattle.rules.proofs.Lists.Columns.{alive-below}
use Rattle.rules.proofs.Lists.Each.{all_first, all_map, all-up_to, all_none, all_then}
use Rattle.rules.proofs.Lists.Values.{up_to-length}
use Rattle.rules.proofs.Reckoned.Ledger.{seat_owner, seat_used, some-map, some_no}
use Rattle.rules.proofs.Reckoned.Buses.{read_answers}
use Rattle.rules.proofs.Stories.Answers.{line-answer, line-refusal, line-two}
use Rattle.rules.proofs.Stories.Over.{spawn_new}
use Rattle.rules.proofs.Stories.Story.{line_kept, story_kept}
use Rattle.rules.proofs.Table.{step-all}

-- a call that answers 0 is due no refusal
none_due : (o : Op) (l : Ledger) (w p : List ℕ) (r : Answer) (w' p' : List ℕ) → Meets (op o) w p r w' p' → Kept l w p → numbered r ≡ true → number r ≡ 0 →
    (y : Why) → refusal_due l (op o) ≡ code y → ⊥
none_due o l w p r w' p' m h n z y e = true_false (refuses (code y)) (why_refuses y).0 (ap refuses (sym ((line-refusal o y l w p r w' p' m h n).1 e) ∙ z))

-- ---- the buses
-- THE THEOREM: buses are "numbered from 0": the number of a new one is how many there were
pub bus-numbered : (entries subscribers reads age id : ℕ) (l : Ledger) (w p w' p' : List ℕ) → Meets (op (bus entries subscribers reads age)) w p (made 0 id) w' p' → Kept l w p →
    id ≡ length l.buses.made
bus-numbered entries subscribers reads age id l w p w' p' m h =
    let o = bus entries subscribers reads age in
    let e = line-answer o w p (made 0 id) w' p' m h.sound in
    let n = head (view_of w p) BUSES in
    ap id_told e
    ∙ step-all o (caps_of w) (view_of w p) (λ x. x.ans.no ≡ 0 → x.ans.id ≡ n) (λ y f. true_false (refuses (code y)) (why_refuses y).0 (ap refuses f)) (λ q f. refl) (sym (ap number e))
    ∙ sym (ap length h.agrees.buses.made ∙ length-map (up_to n) (bus_at (view_of w p)) ∙ up_to-length n)

-- ---- what a read answers
-- THE THEOREM: where it is not refused, a read answers what is heard of the oldest unread value
pub line_read : (b room : ℕ) (l : Ledger) (w p : List ℕ) (r : Answer) (w' p' : List ℕ) → Meets (op (read b room)) w p r w' p' → Kept l w p → refuses (number r) ≡ false → r ≡ heard (oldest_unread l b)
line_read b room l w p r w' p' m h n =
    let o = read b room in
    let e = line-answer o w p r w' p' m h.sound in
    e ∙ step-all o (caps_of w) (view_of w p) (λ x. refuses (number (say (entry o).shape x.ans)) ≡ false → say (entry o).shape x.ans ≡ heard (oldest_unread l b))
    (λ y f. true_false (refuses (code y)) (why_refuses y).0 f)
    (λ q f. read_answers b room (caps_of w) (view_of w p) l (good_view w p h.sound) h.agrees q) (rw e at n)

-- the oldest unread value stands alone, or there is none
unread_either : (l : Ledger) (b : ℕ) → (oldest_unread l b ≡ []) ⊎ ((v : Value) × (oldest_unread l b ≡ v ∷ []))
unfolding oldest_unread
unread_either l b = first_either _ l.buses.values

-- beside 0: the value that is there, and its payload
read_found : (b room : ℕ) (l : Ledger) (w p bytes w' p' : List ℕ) → Meets (op (read b room)) w p (copied 0 bytes) w' p' → Kept l w p →
    (v : Value) × (oldest_unread l b ≡ v ∷ []) × (bytes ≡ v.payload)
read_found b room l w p bytes w' p' m h =
    let e = line_read b room l w p (copied 0 bytes) w' p' m h refl in
    ⊎_elim (λ z. absurd (let n : 0 ≡ 5 = ap number (e ∙ ap heard z) in omega (arith, n)))
    (λ x. (x.0, x.1, let same : copied 0 bytes ≡ copied 0 x.0.payload = e ∙ ap heard x.1 in cc)) (unread_either l b)

-- ---- the order of reading
-- every value's rank is below how many were ever published
pub ranks_below : (l : Ledger) (w p : List ℕ) → Kept l w p → All (λ (v : Value). v.rank < l.buses.published) l.buses.values
ranks_below l w p h =
    let s = view_of w p in
    let u = h.agrees.buses in
    let low : ℕ → Type 0 = λ d. u.rank d < l.buses.published in
    subst (λ (vs : List Value). All (λ (v : Value). v.rank < l.buses.published) vs) (sym u.values)
    (all_map (λ v. v.rank < l.buses.published) (value_said s u.rank) low (values_in s) (λ d m. m)
    (all_map low (value_at s) (λ i. i < head s ISSUED) (up_to (head s ISSUED)) (λ i q. u.before (value_at s i) (value_there (caps_of w) s (good_view w p h.sound) i q)) (all-up_to (head s ISSUED))))

-- so none is at it or above
pub ranks_known : (l : Ledger) (w p : List ℕ) → Kept l w p → some (λ v. leb l.buses.published v.rank) l.buses.values ≡ false
ranks_known l w p h =
    all_none (λ v. leb l.buses.published v.rank) l.buses.values
    (all_then (λ v. v.rank < l.buses.published) (λ v. leb l.buses.published v.rank ≡ false) l.buses.values (λ v q. lt-leb l.buses.published v.rank q) (ranks_below l w p h))

-- who may subscribe was not subscribed
new_subscriber : (b : ℕ) (l : Ledger) (w p w₁ p₁ : List ℕ) → Meets (op (subscribe b)) w p (plain 0) w₁ p₁ → Kept l w p → subscribed l b ≡ false
new_subscriber b l w p w₁ p₁ m h =
    split (idle l)
    (λ q. absurd (none_due (subscribe b) l w p (plain 0) w₁ p₁ m h refl refl moment (rw q)))
    (λ q. split (subscribed l b) (λ y. absurd (none_due (subscribe b) l w p (plain 0) w₁ p₁ m h refl refl malformed (rw (q, y)))) (λ y. y))

-- the rank of an unread value is below how many were ever published
unread-rank : (b : ℕ) (l : Ledger) (w p : List ℕ) (v : Value) → Kept l w p → oldest_unread l b ≡ v ∷ [] → v.rank < l.buses.published
unfolding oldest_unread
unread-rank b l w p v h e =
    let mine : Value → Bool = λ u. some (λ x. is_reader b l.people.running x && unread x u) l.buses.readers in
    (subst (λ (vs : List Value). All (λ (x : Value). x.rank < l.buses.published) vs) e
    (all_first (λ x. x.rank < l.buses.published) mine l.buses.values (ranks_below l w p h))).0

module _ (b : ℕ) (l : Ledger) {w p w₁ p₁ w₂ p₂ : List ℕ} {xs : List Line} (h : Kept l w p) where
  -- what one that runs again reads after a line that set its mark at n
  module _ (c : Op) (a : Answer) (n : ℕ) (m : Meets (op c) w p a w₁ p₁) (s : Story w₁ p₁ xs w₂ p₂) (e : startless xs ≡ true) where
    -- the reckoning once those lines are entered
    abbrev then_reckoned : Ledger
    then_reckoned = reckon (entered (line (op c) a) l) xs

    -- it has a rank of n or more
    reads_beyond : Beyond n b l.people.running (entered (line (op c) a) l).buses → then_reckoned.people.running ≡ l.people.running →
        (room : ℕ) (bytes w₃ p₃ : List ℕ) → Meets (op (read b room)) w₂ p₂ (copied 0 bytes) w₃ p₃ → (u : Value) × (oldest_unread then_reckoned b ≡ u ∷ []) × (bytes ≡ u.payload) × (n ≤ u.rank)
    reads_beyond k r room bytes w₃ p₃ q =
        let f = read_found b room then_reckoned w₂ p₂ bytes w₃ p₃ q (story_kept _ s (line_kept (op c) l w p a w₁ p₁ m h)) in
        let g = unread_beyond n b l.people.running then_reckoned r (story_beyond n b l.people.running xs _ e k) in
        (f.0, f.1, f.2, (rw f.1 at g).0)

  -- THE THEOREM: a new subscriber reads nothing that was published before it subscribed: whatever it reads later on that bus has a rank that no value had then_reckoned
  pub nothing-before : (m : Meets (op (subscribe b)) w p (plain 0) w₁ p₁) (s : Story w₁ p₁ xs w₂ p₂) (e : startless xs ≡ true) → let l' = reckon (entered (line (op (subscribe b)) (plain 0)) l) xs in
      l'.people.running ≡ l.people.running → (room : ℕ) (bytes w₃ p₃ : List ℕ) → Meets (op (read b room)) w₂ p₂ (copied 0 bytes) w₃ p₃ →
      (u : Value) × (oldest_unread l' b ≡ u ∷ []) × (bytes ≡ u.payload) × (l.buses.published ≤ u.rank)
  unfolding entered
  nothing-before m s e = reads_beyond (subscribe b) (plain 0) l.buses.published m s e (joined_beyond b l.people.running l (new_subscriber b l w p w₁ p₁ m h))

  -- THE THEOREM: what one reads on a bus was published after all that it read there before: in the order of publishing, and nothing twice
  pub reads_on : (before : ℕ) (first : List ℕ) (m : Meets (op (read b before)) w p (copied 0 first) w₁ p₁) (s : Story w₁ p₁ xs w₂ p₂) (e : startless xs ≡ true) →
      let l' = reckon (entered (line (op (read b before)) (copied 0 first)) l) xs in
      l'.people.running ≡ l.people.running → (room : ℕ) (bytes w₃ p₃ : List ℕ) → Meets (op (read b room)) w₂ p₂ (copied 0 bytes) w₃ p₃ →
      (v : Value) × (u : Value) × (oldest_unread l b ≡ v ∷ []) × (first ≡ v.payload) × (oldest_unread l' b ≡ u ∷ []) × (bytes ≡ u.payload) × (v.rank < u.rank)
  unfolding entered
  reads_on before first m s e r room bytes w₃ p₃ q =
      let f = read_found b before l w p first w₁ p₁ m h in
      let v = f.0 in
      let k : Beyond (v.rank + 1) b l.people.running (reading b l.people.running (oldest_unread l b) l).buses =
      rw f.1 (reading_passes b l.people.running v [] l (unread-rank b l w p v h f.1)) in
      let g = reads_beyond (read b before) (copied 0 first) (v.rank + 1) m s e k r room bytes w₃ p₃ q in
      (v, g.0, f.1, f.2, g.1, g.2, omega (arith, g.3))

-- ---- publishing
-- THE THEOREM: publishing to a full bus never lacks room
pub full-has_room : (b : ℕ) (payload : List ℕ) (l : Ledger) (w p : List ℕ) (r : Answer) (w' p' : List ℕ) → Meets (op (publish b payload)) w p r w' p' → Kept l w p →
    bus_full l b ≡ true → number r ≡ 2 → ⊥
full-has_room b payload l w p r w' p' m h f e =
    true_false (short l (op (publish b payload))) ((line-two (op (publish b payload)) l w p r w' p' m h).0 e) (roomy (idle l) (ltb PAYLOAD-MOST (length payload)) (not (is_bus l b)))
  where
    -- whatever else refuses it
    roomy : (x y z : Bool) → eqb (first_yes (when x moment ∷ when y malformed ∷ when z unknown ∷ when (not (bus_full l b) && eqb (datas_left l) 0) full ∷ [])) 2 ≡ false
    roomy true y z = refl
    roomy false true z = refl
    roomy false false true = refl
    roomy false false false = rw f

-- THE THEOREM: what is published comes last, read by nobody; a full bus loses just its oldest value, any other none
pub publish_ends_oldest : (b : ℕ) (payload : List ℕ) (l : Ledger) →
    (entered (line (op (publish b payload)) (plain 0)) l).buses.values
    ≡ cond (bus_full l b) (but_first (λ v. eqb v.bus b) l.buses.values) l.buses.values
    ++ (record { bus = b; payload = payload; time = l.time.clock; reads = 0; rank = l.buses.published } ∷ [])
unfolding entered issued evicted
publish_ends_oldest b payload l = split (bus_full l b) (λ q. rw q) (λ q. rw q)

-- ---- ageing
-- THE THEOREM: an advance ends just the values that have reached their age by the clock that it leaves; the others stay as they are, in their order
pub ages_end : (micros n : ℕ) (l : Ledger) →
    (entered (line (op (advance micros)) (advanced 0 n)) l).buses.values ≡ those (λ v. not (stale (later micros l) v)) l.buses.values
unfolding entered aired
ages_end micros n l =
    let h = fires-still (firings (later micros l)) (later micros l) in
    rw (h.0, h.1)

-- ---- reading often
-- the ranks of the values ascend
ranks_ascend : (l : Ledger) (w p : List ℕ) → Kept l w p → Ascending (map (λ v. v.rank) l.buses.values)
ranks_ascend l w p h =
    let u = h.agrees.buses in
    subst Ascending
    (sym (map-map (λ v. v.rank) (value_said (view_of w p) u.rank) (values_in (view_of w p))) ∙ ap (map (λ v. v.rank)) (sym u.values))
    u.ascending

-- THE THEOREM: a value with a limit of reads ends at the read that reaches it: none of its rank is left
pub read-out-ends : (b room : ℕ) (l : Ledger) (w p bytes : List ℕ) (v : Value) → Kept l w p → oldest_unread l b ≡ v ∷ [] → read_out_of l (one_more_of v) ≡ true →
    some (λ u. eqb u.rank v.rank) (entered (line (op (read b room)) (copied 0 bytes)) l).buses.values ≡ false
unfolding entered reading oldest_unread those
read-out-ends b room l w p bytes v h e q = rw e (all_none (λ u. eqb u.rank v.rank) _ (left l.buses.values (sole-rank _ l.buses.values v (ranks_ascend l w p h) e)))
  where
    -- of values of which it alone has its rank
    left : (vs : List Value) → All (λ (u : Value). u.rank ≡ v.rank → u ≡ v) vs →
        All (λ (u : Value). eqb u.rank v.rank ≡ false) (those (λ u. not (eqb u.rank v.rank && read_out_of l u)) (map (λ u. cond (eqb u.rank v.rank) (one_more_of u) u) vs))
    left [] o = tt
    left (x ∷ vs) o =
        split (eqb x.rank v.rank)
        (λ y. let r : read_out_of l (one_more_of x) ≡ true = subst (λ (u : Value). read_out_of l (one_more_of u) ≡ true) (sym (o.0 (eqb-true x.rank v.rank y))) q in
        rw y (rw (y, r) (left vs o.1)))
        (λ y. rw y (rw y (y, left vs o.1)))

-- ---- who comes into a slot
-- THE THEOREM: an actor that is spawned is subscribed to no bus: the next one in a slot has nothing of the one before it
pub spawned_unsubscribed : (priority id : ℕ) (l : Ledger) (w p w' p' : List ℕ) → Meets (op (spawn priority)) w p (made 0 id) w' p' → Kept l w p →
    some (λ x. eqb x.who id) (entered (line (op (spawn priority)) (made 0 id)) l).buses.readers ≡ false
unfolding entered
spawned_unsubscribed priority id l w p w' p' m h =
    let k = caps_of w in
    let s = view_of w p in
    let g = good_view w p h.sound in
    let e = line-answer (spawn priority) w p (made 0 id) w' p' m h.sound in
    let new : at s AGE (slot_of ACTOR-FACTOR id) < age_of ACTOR-FACTOR id =
    subst (λ (i : ℕ). at s AGE (slot_of ACTOR-FACTOR i) < age_of ACTOR-FACTOR i) (sym (ap id_told e)) (spawn_new priority k s g (sym (ap number e))) in
    ap (some (λ x. eqb x.who id)) h.agrees.buses.readers
    ∙ some-map (λ x. eqb x.who id) (reader_at s h.agrees.buses.cursor) h.agrees.buses.seats
    ∙ some_no _ h.agrees.buses.seats (λ i o.
    let x = at s SEAT i - 1 in
    let there = seat_owner k s g i (seat_used k s g l h.agrees i o) in
    let b : x < ACTOR-FACTOR = omega (arith, alive-below (s STATE) x there, g.sized.words STATE (lit< tt), g.range.few_actors) in
    ne_eqb (actor_id s x) id (λ z. omega (arith, rw (sym z, slot_of_id ACTOR-FACTOR (at s AGE x) x b, age_of_id ACTOR-FACTOR (at s AGE x) x b) at new)))
