-- The beat of a periodic timer: its due times lie whole numbers of intervals apart. The rule works the next one out by a division, the reckoning goes an interval at a time; both come to the same.
use Prim.Native.Nat.{ℕ, zero, suc, ◌+◌, ◌-◌, ◌*◌, ◌/◌, ◌≤◌, ◌<◌}
use native.Mathlib.Nat.{div-mul-le_self, le-mul_of_pos_right, lt-mul-div-succ, mul-add, mul_comm, mul-le-mul_left, mul-suc, mul-zero}
use native.Mathlib.Omega.{arith}
use mathlib.Core.Path.{◌≡◌, refl, ap, ◌∙◌}
use mathlib.Core.Bool.{Bool, not}
use mathlib.Core.List.{List, [], ◌∷◌}
use lib.Dec.{eqb, ltb}
use borrow.Author.Tests.{le-ltb, lt-ltb, ltb-false, ltb-true}
use Rattle.ledger.specs.Beat.{OnBeat}
use Rattle.ledger.specs.Ledger.{Ledger, Time, Timer}
use Rattle.ledger.specs.Reckon.{armed, due_again, end_timers, fires, firing, later, past_clock, rearmed, redue, sent, soonest, tick}
use Rattle.pools.proofs.BoolLaws.{split}
use Rattle.tables.specs.Limits.{CLOCK-END, DUE-END, LONGEST}
use Rattle.rules.specs.Calls.{next_beat}
use Rattle.rules.proofs.Frames.Wrote.{All}
use Rattle.rules.proofs.Lists.Each.{all_both, all_map, all_then, all-those}

-- ---- the rule's next beat
module _ (due interval clock : ℕ) (periodic : interval ≡ 0 → ⊥) where
  -- how many intervals fit between the due time and the clock
  abbrev fit : ℕ
  fit = (clock - due) / interval

  -- so many do
  within : interval * fit ≤ clock - due
  within = omega (arith, div-mul-le_self (clock - due) interval, mul_comm interval fit)

  -- one more do not
  over : clock - due < interval * (fit + 1)
  over = lt-mul-div-succ (clock - due) (omega arith)

  -- and are too long by one interval at most
  pub fit_long : interval * (fit + 1) ≤ clock - due + interval
  fit_long = omega (arith, within, mul-suc interval fit)

  -- no more fit than there are microseconds
  pub fit-few : fit ≤ clock - due
  fit-few = omega (arith, within, mul_comm interval fit, le-mul_of_pos_right {m = interval} fit (omega arith))

  -- THE LAW: the next beat is past the clock
  pub beat_past : clock < next_beat due interval clock
  unfolding next_beat
  beat_past = omega (arith, over)

  module _ (come : due ≤ clock) where
    -- THE LAW: it is past the clock by one interval at most
    pub beat_most : next_beat due interval clock ≤ clock + interval
    unfolding next_beat
    beat_most = omega (arith, fit_long)

    -- so it cannot pass the end of due times
    pub beat_ends : clock ≤ CLOCK-END → interval ≤ LONGEST → next_beat due interval clock ≤ DUE-END
    beat_ends c i = omega (arith, beat_most, c, i)

    -- fewer intervals than one more than fit do not bring the due time past the clock
    fewest : (m : ℕ) → clock < due + interval * m → fit + 1 ≤ m
    fewest m h =
        split (ltb fit m) (λ q. omega (arith, ltb-true fit m q)) (λ q. absurd (omega (arith, within, h, mul-le-mul_left interval (ltb-false fit m q))))

    -- THE LAW: it is the old due time plus the smallest whole number of intervals that brings it past the clock
    pub smallest : (n : ℕ) × (next_beat due interval clock ≡ due + interval * n) × (clock < due + interval * n) × ((m : ℕ) → clock < due + interval * m → n ≤ m)
    unfolding next_beat
    smallest = (fit + 1, refl, omega (arith, over), fewest)

-- ---- an interval at a time
module _ (clock interval : ℕ) where
  -- it comes past the clock where the steps are enough
  pub steps-past : (n due : ℕ) → (interval ≡ 0 → ⊥) → clock < due + n → clock < past_clock clock interval n due
  unfolding past_clock
  steps-past zero due periodic h = omega (arith, h)
  steps-past (suc n) due periodic h =
      split (ltb clock due) (λ q. rw q (ltb-true clock due q)) (λ q. rw q (steps-past n (due + interval) periodic (omega arith)))

  -- by one interval at most, where it was no further before
  pub steps_most : (n due : ℕ) → due ≤ clock + interval → past_clock clock interval n due ≤ clock + interval
  unfolding past_clock
  steps_most zero due h = h
  steps_most (suc n) due h =
      split (ltb clock due) (λ q. rw q h) (λ q. rw q (steps_most n (due + interval) (omega (arith, ltb-false clock due q))))

  -- by a whole number of intervals
  pub steps-whole : (n due : ℕ) → (m : ℕ) × (past_clock clock interval n due ≡ due + interval * m)
  unfolding past_clock
  steps-whole zero due = (0, omega (arith, mul-zero interval))
  steps-whole (suc n) due =
      split (ltb clock due) (λ q. rw q (0, omega (arith, mul-zero interval)))
      (λ q. let (m, e) = steps-whole n (due + interval) in rw q (suc m, omega (arith, e, mul-suc interval m)))

  -- it stays where it is past the clock
  steps_stay : (n due : ℕ) → clock < due → past_clock clock interval n due ≡ due
  unfolding past_clock
  steps_stay zero due h = refl
  steps_stay (suc n) due h = rw (lt-ltb clock due h)

  -- where m intervals fit before the clock, and one more do not, it comes to that one
  steps_to : (m n due : ℕ) → due + interval * m ≤ clock → clock < due + interval * suc m → m ≤ n → past_clock clock interval (suc n) due ≡ due + interval * suc m
  unfolding past_clock
  steps_to zero n due a b h =
      rw (le-ltb clock due (omega (arith, a))) (steps_stay n (due + interval) (omega (arith, b, mul-suc interval 0, mul-zero interval)) ∙ omega (arith, mul-suc interval 0, mul-zero interval))
  steps_to (suc m) zero due a b h = absurd (omega arith)
  steps_to (suc m) (suc n) due a b h =
      rw (le-ltb clock due (omega (arith, a)))
      (steps_to m n (due + interval) (omega (arith, a, mul-suc interval m)) (omega (arith, b, mul-suc interval (suc m))) (omega arith) ∙ omega (arith, mul-suc interval (suc m)))

-- THE LAW: the reckoning's next due time is the rule's
pub beat_same : (due interval clock : ℕ) → (interval ≡ 0 → ⊥) → due ≤ clock → past_clock clock interval (suc clock) due ≡ next_beat due interval clock
unfolding next_beat
beat_same due interval clock periodic come =
    let m = fit due interval clock periodic in
    steps_to clock interval m clock due (omega (arith, within due interval clock periodic)) (omega (arith, over due interval clock periodic))
    (omega (arith, fit-few due interval clock periodic))
    ∙ ap (λ (x : ℕ). due + interval * x) (omega arith)

-- ---- a metronome in the reckoning
-- every timer of that id is on its beat
abbrev pub Beating : (id first interval : ℕ) → Time → Type 0
Beating id first interval x = All (λ (t : Timer). t.id ≡ id → OnBeat first interval x.clock t) x.timers

module _ (id first interval : ℕ) where
  -- it is so still once the clock is raised
  later_beats : (micros : ℕ) (l : Ledger) → Beating id first interval l.time → Beating id first interval (later micros l).time
  later_beats micros l h =
      all_then (λ t. t.id ≡ id → OnBeat first interval l.time.clock t) (λ t. t.id ≡ id → OnBeat first interval (l.time.clock + micros) t) l.time.timers
      (λ t b e. record { kept = (b e).kept; times = (b e).times; whole = (b e).whole; soon = omega (arith, (b e).soon) }) h

  -- a timer that is due again is on its beat where it was
  again : (clock : ℕ) (t : Timer) → OnBeat first interval clock t → OnBeat first interval clock (due_again clock t)
  again clock t b =
      let (m, e) = steps-whole clock t.interval (suc clock) t.due in
      record {
        kept = b.kept;
        times = b.times + m;
        whole = e ∙ rw (b.kept, b.whole) (omega (arith, mul-add interval b.times m));
        soon = rw b.kept (steps_most clock interval (suc clock) t.due b.soon);
      }

  -- where one fires
  rearmed_beats : (l : Ledger) (t : Timer) → Beating id first interval l.time → Beating id first interval (rearmed l t).time
  unfolding rearmed end_timers
  rearmed_beats l t h =
      let clock = l.time.clock in
      let P : Timer → Type 0 = λ u. u.id ≡ id → OnBeat first interval clock u in
      split (eqb t.interval 0)
      (λ q. rw q (all-those P (λ u. not (eqb u.id t.id)) l.time.timers h))
      (λ q. rw q (all_map P (redue clock t.id) P l.time.timers
      (λ u b. split (eqb u.id t.id) (λ r. rw r (λ e. again clock u (b e))) (λ r. rw r b)) h))

  -- where some fire, one after the other
  firing_beats : (ts : List Timer) (l : Ledger) → Beating id first interval l.time → Beating id first interval (firing ts l).time
  unfolding firing
  firing_beats [] l h = h
  firing_beats (t ∷ ts) l h = firing_beats ts (sent (tick t ∷ []) (rearmed l t)) (rearmed_beats l t h)

  -- n times the soonest
  fires_beats : (n : ℕ) (l : Ledger) → Beating id first interval l.time → Beating id first interval (fires n l).time
  unfolding fires
  fires_beats zero l h = h
  fires_beats (suc n) l h = let ts = soonest l.time.clock l.time.timers in fires_beats n (firing ts l) (firing_beats ts l h)

  -- THE LAW: an advance leaves it on its beat, however late it is
  pub advance_beats : (n micros : ℕ) (l : Ledger) → Beating id first interval l.time → Beating id first interval (fires n (later micros l)).time
  advance_beats n micros l h = fires_beats n (later micros l) (later_beats micros l h)

  -- where another is armed
  pub armed_beats : (delay period r : ℕ) (l : Ledger) → (r ≡ id → ⊥) → Beating id first interval l.time → Beating id first interval (armed delay period r l).time
  armed_beats delay period r l other h = all_both (λ t. t.id ≡ id → OnBeat first interval l.time.clock t) l.time.timers (_ ∷ []) h (λ e. absurd (other e), tt)

  -- where some end
  pub ended_beats : (p : Timer → Bool) (l : Ledger) → Beating id first interval l.time → Beating id first interval (end_timers p l).time
  unfolding end_timers
  ended_beats p l h = all-those (λ t. t.id ≡ id → OnBeat first interval l.time.clock t) (λ t. not (p t)) l.time.timers h
