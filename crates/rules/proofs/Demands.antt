-- THE THEOREMS, on one page. Somebody lends two buffers, whatever they hold. All that is known of a call on them is its promise, `Meets`, which is the contract of its function in
-- runtime/src; nobody else writes the buffers. Nothing else is assumed. w and p are the words and bytes before a call, w' and p' those after it; c is a call, o one but start, r its answer,
-- z the sizes that a start asks for, k capacities, s a state, l what the reckoning says.
use Prim.Native.Nat.{ℕ, ◌+◌, ◌*◌, ◌≤◌, ◌<◌}
use mathlib.Core.Path.{◌≡◌}
use mathlib.Core.Logic.{◌↔◌}
use mathlib.Core.Bool.{true, false, cond, not}
use mathlib.Core.List.{List, [], ◌∷◌, ◌++◌, map}
use lib.IntN.{ℤ}
use lib.ListN.{drop, length, take}
use lib.Dec.{eqb, leb}
use Rattle.ledger.specs.Beat.{OnBeat}
use Rattle.ledger.specs.Call.{Answer, Call, Line, Op, Sizes, Why, code, counted, number, numbered, refuses, zeroed}
use Rattle.ledger.specs.Call.Answer.{advanced, copied, ended, made, part, plain, turn}
use Rattle.ledger.specs.Call.Call.{start, op}
use Rattle.ledger.specs.Call.Op.{advance, bus, every, exit, next, publish, read, receive, show, shown, spawn, subscribe}
use Rattle.ledger.specs.Ended.{Unaimed}
use Rattle.ledger.specs.Ledger.{Ledger, Message, Value, nothing}
use Rattle.ledger.specs.Lists.{but_first, some, those}
use Rattle.ledger.specs.Reckon.{entered, fired_timers, firings, later, leaf, notices, one_more_of, page, read_out_of, reckon, short, refusal_due, stale}
use Rattle.ledger.specs.Room.{bus_full, heard, in_hand, known, oldest_unread}
use Rattle.pools.specs.Pool.{occurs}
use Rattle.tables.specs.Columns.{CLOCK, DEADLINE, DUE, INTERVAL, TIMER-OWNER}
use Rattle.tables.specs.Limits.{CLOCK-END, DUE-END, LONGEST, LONGEST-WAIT, SHORTEST-INTERVAL}
use Rattle.tables.specs.State.{PastSame, at, caps_of, head, needed, needed_p}
use Rattle.rules.specs.declared.Shown.{Shown}
use Rattle.rules.specs.Rule.{Holds}
use Rattle.rules.specs.Terms.{is_actor, timer_id}
use Rattle.rules.specs.Sound.{sound_rule, view_of}
use Rattle.rules.specs.Agrees.{spelled, timer_at}
use Rattle.rules.specs.Calls.{Sleeps, next_beat}
use Rattle.rules.specs.Run.{say_shown, seven}
use Rattle.rules.specs.Story.{Aims, Kept, Meets, Story, caps_for, caps_from, line, startless}
use Rattle.rules.specs.Trim.{NeededSame}
use Rattle.rules.proofs.Reckoned.Beats.{beat_ends, smallest}
use Rattle.rules.proofs.Reckoned.Counts.{advance_once, line-notices, line-ticks}
use Rattle.rules.proofs.Stories.Host.{meets_broken, meets_once}
use Rattle.rules.proofs.Kept.Clauses.{due-fits, interval_right}
use Rattle.rules.proofs.Kept.Host.{good_view}
use Rattle.rules.proofs.Frames.Past.{line-past}
use Rattle.rules.proofs.Stories.Showing.{show_is_shown}
use Rattle.rules.proofs.Reckoned.Sleep.{line-sleep}
use Rattle.rules.proofs.Stories.Story.{begun_kept, story_kept}
use Rattle.rules.proofs.Stories.Answers.{line_counts, line-in_hand, line-not_new, line-refusal, line_refused, line-seven, line-two, line_unmet, line_unshown}
use Rattle.rules.proofs.Stories.Buses.{ages_end, bus-numbered, full-has_room, line_read, nothing-before, publish_ends_oldest, ranks_known, read-out-ends, reads_on, spawned_unsubscribed}
use Rattle.rules.proofs.Stories.Ends.{ended_stays_ended, strange_line}
use Rattle.rules.proofs.Stories.Metronome.{stays_on_beat}
use Rattle.rules.proofs.Stories.Waits.{story_daily}
use Rattle.rules.proofs.Frames.Unread.{fresh_alike, line-unread}

-- ---- DEMAND 1, of every call on any two buffers
module _ (c : Call) (w p : List ℕ) (r : Answer) (w' p' : List ℕ) (meets : Meets c w p r w' p') where
  -- a refusal, 1, 2, 3, 4 or 7, changes not one word or byte, and zeros stand beside the number
  pub refusals_change_nothing : refuses (number r) ≡ true → (w' ≡ w) × (p' ≡ p) × (r ≡ zeroed r)
  refusals_change_nothing = line_refused c w p r w' p' meets

  -- what is past the needed words and bytes stays, and both buffers are as long as they were
  pub past_stays : PastSame (caps_for c w) w p w' p'
  past_stays = line-past c w p r w' p' meets

  -- nor is it read: on other buffers with the same needed words and bytes, whatever is past them, the call answers the same and leaves the same needed words and bytes
  pub past-unread : (v q : List ℕ) → NeededSame (caps_for c w) w p v q → (r₂ : Answer) (v' q' : List ℕ) → Meets c v q r₂ v' q' → (r₂ ≡ r) × NeededSame (caps_for c w) w' p' v' q'
  past-unread v q e r₂ v' q' = line-unread c w p v q e r r₂ w' p' v' q' meets

  -- DEMAND 2 is `Meets` itself, the rule of each call (specs/Calls.antt): no other answer and no other buffers meet the promise
  pub only_one : (r₂ : Answer) (w₂ p₂ : List ℕ) → Meets c w p r₂ w₂ p₂ → (r ≡ r₂) × (w' ≡ w₂) × (p' ≡ p₂)
  only_one r₂ w₂ p₂ = meets_once c w p meets

-- buffers that hold no sound runtime: every call but start answers 7, zeros beside it, and changes nothing
pub unsound_seven : (o : Op) (w p : List ℕ) (r : Answer) (w' p' : List ℕ) → Meets (op o) w p r w' p' → (Holds (sound_rule w p) → ⊥) → (r ≡ seven o) × (w' ≡ w) × (p' ≡ p)
unsound_seven o w p r w' p' m n = meets_broken o w p n m

-- a start that answered 0 on some buffers does so on any that are long enough, and leaves the same needed words and bytes: nothing that was there before counts
pub start_forgets : (z : Sizes) (w p v q : List ℕ) (r : Answer) (w' p' v' q' : List ℕ) → Meets (start z) w p (plain 0) w' p' → Meets (start z) v q r v' q' →
    needed (caps_from z) ≤ length v → needed_p (caps_from z) ≤ length q → (r ≡ plain 0) × NeededSame (caps_from z) w' p' v' q'
start_forgets = fresh_alike

-- "every other number answered is 0": beside receive's 5 and 6 too
pub zeros_beside : (sender class tag : ℕ) (wait : ℤ) (w p : List ℕ) (r : Answer) (w' p' : List ℕ) → Meets (op (receive sender class tag wait)) w p r w' p' → (number r ≡ 0 → ⊥) → r ≡ zeroed r
zeros_beside = line_unmet

-- and beside read's 5 nothing is copied
pub nothing_beside : (b room : ℕ) (w p : List ℕ) (r : Answer) (w' p' : List ℕ) → Meets (op (read b room)) w p r w' p' → (number r ≡ 0 → ⊥) → r ≡ zeroed r
nothing_beside = line-not_new

-- on the same buffers, sound or not, `show` gives the part of the payload area at the offset and of the length that fg_shown answers
pub shown_where : (w p bytes : List ℕ) (q : Shown) (w₁ p₁ w₂ p₂ : List ℕ) → Meets (op show) w p (part bytes) w₁ p₁ → Meets (op shown) w p (say_shown q) w₂ p₂ →
    (bytes ≡ take q.length (drop q.offset p)) × (length bytes ≡ q.length)
shown_where w p bytes q w₁ p₁ w₂ p₂ = show_is_shown w p bytes q

-- ---- A METRONOME, of request C-14. The rule of a periodic timer that fires (`rearm`) is `next_beat`
module _ (due interval clock : ℕ) (periodic : interval ≡ 0 → ⊥) (come : due ≤ clock) where
  -- the next due time is the old one plus the smallest whole number of intervals that brings it past the clock
  pub next_beat_lem : (n : ℕ) × (next_beat due interval clock ≡ due + interval * n) × (clock < due + interval * n) × ((m : ℕ) → clock < due + interval * m → n ≤ m)
  next_beat_lem = smallest due interval clock periodic come

  -- and it cannot pass 2^62 + 2^32
  pub next_beat-ends : clock ≤ CLOCK-END → interval ≤ LONGEST → next_beat due interval clock ≤ DUE-END
  next_beat-ends = beat_ends due interval clock periodic come

-- ---- DEMAND 3: a start that answered 0, and any story after it
module _ (z : Sizes) {w p w₁ p₁ w₂ p₂ : List ℕ} {xs : List Line} (began : Meets (start z) w p (plain 0) w₁ p₁) (story : Story w₁ p₁ xs w₂ p₂) where
  -- who and what is there, by the calls and answers alone
  abbrev there : Ledger
  there = reckon (nothing z) xs

  -- the buffers are sound, and hold exactly that
  pub demand_three : Kept there w₂ p₂
  demand_three = story_kept (nothing z) story (begun_kept z w p w₁ p₁ began)

  -- one more call, and its answer
  module _ (c : Call) (r : Answer) (w₃ p₃ : List ℕ) (meets : Meets c w₂ p₂ r w₃ p₃) where
    -- it is never 7
    pub never_seven : number r ≡ 7 → ⊥
    never_seven = line-seven c w₂ p₂ r w₃ p₃ meets demand_three.sound

    -- it is 2, "no room", exactly when the reckoning says so
    pub no_room : (number r ≡ 2) ↔ (short there c ≡ true)
    no_room = line-two c there w₂ p₂ r w₃ p₃ meets demand_three

    -- the counts beside a 0, notices sent and lost, timers fired, free entries, are what the reckoning works out
    pub counts_right : number r ≡ 0 → counted r ≡ (leaf c).counts there
    counts_right = line_counts c there w₂ p₂ r w₃ p₃ meets demand_three

  -- every refusal of every call but start, exactly when it is the first that applies, by what is there
  pub refusal-due : (o : Op) (r : Answer) (w₃ p₃ : List ℕ) → Meets (op o) w₂ p₂ r w₃ p₃ → numbered r ≡ true → (y : Why) → (number r ≡ code y) ↔ (refusal_due there (op o) ≡ code y)
  refusal-due o r w₃ p₃ m n y = line-refusal o y there w₂ p₂ r w₃ p₃ m demand_three n

  -- what is shown: nothing where a refusal applies, that is where nobody runs or the hand is empty
  pub shown_empty : (y : Why) (r : Answer) (w₃ p₃ : List ℕ) → Meets (op show) w₂ p₂ r w₃ p₃ → refusal_due there (op show) ≡ code y → r ≡ part []
  shown_empty y r w₃ p₃ m = line_unshown y there w₂ p₂ r w₃ p₃ m demand_three

  -- else the bytes of the message in the caller's hand
  pub shown_exactly : (r : Answer) (w₃ p₃ : List ℕ) → Meets (op show) w₂ p₂ r w₃ p₃ → refusal_due there (op show) ≡ 0 → (m : Message) × (in_hand there ≡ m ∷ []) × (r ≡ part (spelled m.says))
  shown_exactly r w₃ p₃ m = line-in_hand there w₂ p₂ r w₃ p₃ m demand_three

  -- beside next's 6 stands the time to sleep: until then nothing is to be done, and then something is; -1 where nothing ever is
  pub sleeps_right : (r : Answer) (w₃ p₃ : List ℕ) → Meets (op next) w₂ p₂ r w₃ p₃ → number r ≡ 6 → (t : ℤ) × (r ≡ turn 6 0 0 t) × Sleeps (caps_of w₂) (view_of w₂ p₂) t
  sleeps_right r w₃ p₃ m = line-sleep w₂ p₂ r w₃ p₃ m demand_three.sound

  -- as many ticks arrive as an advance answers, behind all that was there: as many as timers are due and find room
  pub ticks_arrive : (micros n : ℕ) (w₃ p₃ : List ℕ) → Meets (op (advance micros)) w₂ p₂ (advanced 0 n) w₃ p₃ →
      ((entered (line (op (advance micros)) (advanced 0 n)) there).mail.boxes ≡ there.mail.boxes ++ (page (advance micros)).sends there)
      × (n ≡ length ((page (advance micros)).sends there))
      × (n ≡ firings (later micros there))
  ticks_arrive micros n w₃ p₃ = line-ticks there w₂ p₂ w₃ p₃ demand_three micros n

  -- as many notices arrive as an exit sent, and with those that were lost they are all of its partners and watchers
  pub notices_arrive : (reason sent lost : ℕ) (w₃ p₃ : List ℕ) → Meets (op (exit reason)) w₂ p₂ (ended 0 sent lost) w₃ p₃ →
      ((entered (line (op (exit reason)) (ended 0 sent lost)) there).mail.boxes ≡ those (λ m. not (eqb m.to there.people.running)) there.mail.boxes ++ (page (exit reason)).sends there)
      × (sent ≡ length ((page (exit reason)).sends there))
      × (sent + lost ≡ length (notices there there.people.running reason))
  notices_arrive reason sent lost w₃ p₃ = line-notices there w₂ p₂ w₃ p₃ demand_three reason sent lost

  -- no timer fires twice in one advance, as the reckoning has it; `ticks_arrive` ties it to the call
  pub fires-once : (micros id : ℕ) → occurs id (map (λ t. t.id) (fired_timers (firings (later micros there)) (later micros there))) ≤ 1
  fires-once micros id = advance_once (caps_of w₂) (view_of w₂ p₂) there (good_view w₂ p₂ demand_three.sound) demand_three.agrees micros id

  -- no due time passes 2^62 + 2^32
  pub due_times_end : (i : ℕ) → at (view_of w₂ p₂) DUE i ≤ DUE-END
  due_times_end = due-fits (good_view w₂ p₂ demand_three.sound)

  -- a metronome does not drift: for as long as a periodic timer lives, until a new start, each of its due times is its first, an interval after it was armed, plus a whole number of intervals, and one interval from now at most
  pub never_drifts : (interval id : ℕ) {w₃ p₃ w₄ p₄ : List ℕ} {ys : List Line} → Meets (op (every interval)) w₂ p₂ (made 0 id) w₃ p₃ → Story w₃ p₃ ys w₄ p₄ → startless ys ≡ true →
      let s = view_of w₄ p₄ in (i : ℕ) → (at s TIMER-OWNER i ≡ 0 → ⊥) → timer_id s i ≡ id → OnBeat (there.time.clock + interval) interval (head s CLOCK) (timer_at s i)
  never_drifts interval id m = stays_on_beat interval id there m demand_three

  -- ---- NO ENDLESS WAITS, of request C-16
  -- whoever waits, but for ever, waits 86,400,000 milliseconds, a day, at most: no deadline is later than that, in microseconds; 0 is none
  pub waits_end : (a : ℕ) → at (view_of w₂ p₂) DEADLINE a ≤ head (view_of w₂ p₂) CLOCK + 1000 * LONGEST-WAIT
  waits_end = story_daily z began story

  -- the interval of a metronome is at least 100 µs, so that no two of its beats (`never_drifts`) are nearer; 0 is a one-shot's
  pub beats_apart : (i : ℕ) → (at (view_of w₂ p₂) INTERVAL i ≡ 0 → ⊥) → SHORTEST-INTERVAL ≤ at (view_of w₂ p₂) INTERVAL i
  beats_apart i = (interval_right (good_view w₂ p₂ demand_three.sound) i).1

  -- ---- ENDS
  -- after an exit, until a new start: the actor that ended is nobody, owns nothing, and nothing is aimed at it
  pub after_exit : (reason sent lost : ℕ) {w₃ p₃ w₄ p₄ : List ℕ} {ys : List Line} → Meets (op (exit reason)) w₂ p₂ (ended 0 sent lost) w₃ p₃ → Story w₃ p₃ ys w₄ p₄ → startless ys ≡ true →
      Unaimed there.people.running (reckon (entered (line (op (exit reason)) (ended 0 sent lost)) there) ys) × (is_actor (view_of w₄ p₄) there.people.running ≡ false)
  after_exit reason sent lost m s n = ended_stays_ended reason sent lost there m demand_three s n

  -- a call that is aimed at such an id, or at any that is not a live actor's, changes nothing and does not answer 0: it never reaches the next one in the slot
  pub never_reaches : {o : Op} (r : Answer) (w₃ p₃ : List ℕ) (id : ℕ) → Aims id o → known there id ≡ false → Meets (op o) w₂ p₂ r w₃ p₃ → (w₃ ≡ w₂) × (p₃ ≡ p₂) × (number r ≡ 0 → ⊥)
  never_reaches r w₃ p₃ id a n m = strange_line there w₂ p₂ r w₃ p₃ id a m demand_three n

  -- ---- BUSES, of request C-11. A value is what was published and still stands on a bus; its rank is how many were published before it
  -- the number of a new bus is how many there were
  pub buses-numbered : (entries subscribers reads age id : ℕ) (w₃ p₃ : List ℕ) → Meets (op (bus entries subscribers reads age)) w₂ p₂ (made 0 id) w₃ p₃ → id ≡ length there.buses.made
  buses-numbered entries subscribers reads age id w₃ p₃ m = bus-numbered entries subscribers reads age id there w₂ p₂ w₃ p₃ m demand_three

  -- a read that is not refused answers 0 with the payload of the oldest value that its reader has not come to, or 5 where there is none
  pub read_exactly : (b room : ℕ) (r : Answer) (w₃ p₃ : List ℕ) → Meets (op (read b room)) w₂ p₂ r w₃ p₃ → refuses (number r) ≡ false → r ≡ heard (oldest_unread there b)
  read_exactly b room r w₃ p₃ m = line_read b room there w₂ p₂ r w₃ p₃ m demand_three

  -- a new subscriber reads nothing that was published before: whatever it reads on that bus, until a new start, has a rank that no value had when it subscribed
  pub no_history : (b : ℕ) {w₃ p₃ w₄ p₄ : List ℕ} {ys : List Line} → Meets (op (subscribe b)) w₂ p₂ (plain 0) w₃ p₃ → Story w₃ p₃ ys w₄ p₄ → startless ys ≡ true →
      let later = reckon (entered (line (op (subscribe b)) (plain 0)) there) ys in
      later.people.running ≡ there.people.running → (room : ℕ) (bytes w₅ p₅ : List ℕ) → Meets (op (read b room)) w₄ p₄ (copied 0 bytes) w₅ p₅ →
      (u : Value) × (oldest_unread later b ≡ u ∷ []) × (bytes ≡ u.payload) × (there.buses.published ≤ u.rank)
  no_history b = nothing-before b there demand_three

  -- where no value has a rank as high
  pub ranks_below_it : some (λ v. leb there.buses.published v.rank) there.buses.values ≡ false
  ranks_below_it = ranks_known there w₂ p₂ demand_three

  -- each reads the values of a bus in the order of publishing, none twice: what one reads there after another has a higher rank, whatever happens between, until a new start
  pub reads_in_order : (b before : ℕ) (first : List ℕ) {w₃ p₃ w₄ p₄ : List ℕ} {ys : List Line} → Meets (op (read b before)) w₂ p₂ (copied 0 first) w₃ p₃ → Story w₃ p₃ ys w₄ p₄ → startless ys ≡ true →
      let later = reckon (entered (line (op (read b before)) (copied 0 first)) there) ys in
      later.people.running ≡ there.people.running → (room : ℕ) (bytes w₅ p₅ : List ℕ) → Meets (op (read b room)) w₄ p₄ (copied 0 bytes) w₅ p₅ →
      (v : Value) × (u : Value) × (oldest_unread there b ≡ v ∷ []) × (first ≡ v.payload) × (oldest_unread later b ≡ u ∷ []) × (bytes ≡ u.payload) × (v.rank < u.rank)
  reads_in_order b before first = reads_on b there demand_three before first

  -- publishing to a full bus is never refused for want of room
  pub full-bus_has_room : (b : ℕ) (payload : List ℕ) (r : Answer) (w₃ p₃ : List ℕ) → Meets (op (publish b payload)) w₂ p₂ r w₃ p₃ → bus_full there b ≡ true → number r ≡ 2 → ⊥
  full-bus_has_room b payload r w₃ p₃ m = full-has_room b payload there w₂ p₂ r w₃ p₃ m demand_three

  -- and ends just its oldest value; to any other it ends none. What is published comes last
  pub oldest_evicted : (b : ℕ) (payload : List ℕ) → (entered (line (op (publish b payload)) (plain 0)) there).buses.values
      ≡ cond (bus_full there b) (but_first (λ v. eqb v.bus b) there.buses.values) there.buses.values
      ++ (record { bus = b; payload = payload; time = there.time.clock; reads = 0; rank = there.buses.published } ∷ [])
  oldest_evicted b payload = publish_ends_oldest b payload there

  -- a value with a limit of reads ends at the read that reaches it
  pub read_out : (b room : ℕ) (bytes : List ℕ) (v : Value) → oldest_unread there b ≡ v ∷ [] → read_out_of there (one_more_of v) ≡ true →
      some (λ u. eqb u.rank v.rank) (entered (line (op (read b room)) (copied 0 bytes)) there).buses.values ≡ false
  read_out b room bytes v = read-out-ends b room there w₂ p₂ bytes v demand_three

  -- an advance ends just the values that have reached their age by the clock that it leaves
  pub ages_ended : (micros n : ℕ) →
      (entered (line (op (advance micros)) (advanced 0 n)) there).buses.values ≡ those (λ v. not (stale (later micros there) v)) there.buses.values
  ages_ended micros n = ages_end micros n there

  -- after an exit no bus names the ended actor (`after_exit`: `readers` of `Nothing`), and the next one in its slot is subscribed to nothing
  pub next_unsubscribed : (priority id : ℕ) (w₃ p₃ : List ℕ) → Meets (op (spawn priority)) w₂ p₂ (made 0 id) w₃ p₃ →
      some (λ x. eqb x.who id) (entered (line (op (spawn priority)) (made 0 id)) there).buses.readers ≡ false
  next_unsubscribed priority id w₃ p₃ m = spawned_unsubscribed priority id there w₂ p₂ w₃ p₃ m demand_three
