-- What a sound state says, clause by clause: names for the clauses of the rules of specs/Sound.antt that others cite.
use Prim.Native.Nat.{ℕ, suc, ◌-◌, ◌≤◌, ◌<◌}
use native.Mathlib.Decide.{dec_lt}
use native.Mathlib.Omega.{arith}
use mathlib.Core.Path.{◌≡◌, refl, subst, sym}
use mathlib.Core.Bool.{Bool, true, false, not}
use mathlib.Core.List.{List}
use lib.ListN.{get_or, set, get_or-eq_default}
use lib.Seq.{get_or-set_same}
use lib.Dec.{T, eqb, ltb, lit<}
use borrow.Author.Tests.{eqb-true, eqb-false, ltb-true, ltb-false, not-true, not-false}
use Rattle.pools.specs.Bits.{free}
use Rattle.pools.specs.Slot.{unused}
use Rattle.pools.proofs.BoolLaws.{split}
use Rattle.tables.specs.declared.Caps.{Caps}
use Rattle.tables.specs.Columns.{ACTORS, AGE, ARRIVED, CLOCK, DATA-FREE, DATAS, DEADLINE, DUE, HAND, INTERVAL, LENGTH, LINK-ONE, LINK-TWO, LINKS, MAIL-DATA}
use Rattle.tables.specs.Columns.{MAIL-FREE, MAIL-OWNER, MAILS, MONITOR-AGE, MONITORS, QUEUE, QUEUED, REST, STATE, TIMER-AGE, TIMER-OWNER, TIMERS, WANT-CLASS}
use Rattle.tables.specs.Columns.{BUS-AGE, BUS-SEATS, BUS-SIZE, BUSES, ISSUE, ISSUED, PUBLISHED, VALUE-BUS, WANT-SENDER, WANT-TAG, WATCHED, WATCHER}
use Rattle.tables.specs.Limits.{CLOCK-END, DEADLINE-END, DUE-END, LONGEST, LONGEST-AGE, MOST-BUSES, MOST-SEATS, OLDEST, PAYLOAD-MOST}
use Rattle.tables.specs.State.{State, at, head, size, with_col}
use Rattle.rules.specs.Rule.{Holds}
use Rattle.rules.specs.Sound.{ends_rule, interval_rule, link_rule, mail_rule, monitor_rule, row_rule, timer_rule}
use Rattle.rules.specs.Buses.{in_seat}
use Rattle.rules.specs.Terms.{WAITS, alive, runner}
use Rattle.rules.specs.Good.{Good}

-- the two ends of a link or monitor, each written one up
pub record Ends (states : List ℕ) (a b : ℕ) : Type 0 where
  pub one : 1 ≤ a
  pub one_lives : alive states (a - 1) ≡ true
  pub two : 1 ≤ b
  pub two_lives : alive states (b - 1) ≡ true
  pub differ : a ≡ b → ⊥

-- what the rule says of them
pub ends_of : (states : List ℕ) (a b : ℕ) → Holds (ends_rule states a b) → Ends states a b
ends_of states a b h =
    let ((one, one_lives), ((two, two_lives), differ)) = h in
    record { one = one; one_lives = one_lives; two = two; two_lives = two_lives; differ = differ }

-- a one-shot's interval, 0, is in range
pub interval_none : Holds (interval_rule 0)
interval_none = (omega arith, λ n. absurd (n refl))

module _ {k : Caps} {s : State} (g : Good k s) where
  -- what is so of 0, and of every word that a column has, asks nothing of the place: past the column 0 is read
  every_so : (P : ℕ → Type 0) → P 0 → (c : ℕ) → c < REST → ((i : ℕ) → i < size k c → P (at s c i)) → (i : ℕ) → P (at s c i)
  every_so P none c h f i =
      split (ltb i (size k c))
      (λ q. f i (ltb-true i (size k c) q))
      (λ q. let z : at s c i ≡ 0 = get_or-eq_default (s c) 0 {n = i} (omega (arith, g.sized.words c h, ltb-false i (size k c) q)) in subst P (sym z) none)

  -- nor where a word is 0 unless it is used
  used_so : (P : ℕ → Type 0) → P 0 → (c : ℕ) → c < REST → (idle : ℕ → Bool) → ((i : ℕ) → i < size k c → idle i ≡ true → at s c i ≡ 0)
      → ((i : ℕ) → i < size k c → idle i ≡ false → P (at s c i)) → (i : ℕ) → P (at s c i)
  used_so P none c h idle z f = every_so P none c h (λ i l. split (idle i) (λ q. subst P (sym (z i l q)) none) (f i l))

  -- so a bound on a word asks nothing of its place
  every_word : (c n : ℕ) → c < REST → ((i : ℕ) → i < size k c → at s c i ≤ n) → (i : ℕ) → at s c i ≤ n
  every_word c n = every_so (λ (x : ℕ). x ≤ n) (omega arith) c

  used_word : (c n : ℕ) → c < REST → (idle : ℕ → Bool) → ((i : ℕ) → i < size k c → idle i ≡ true → at s c i ≡ 0)
      → ((i : ℕ) → i < size k c → idle i ≡ false → at s c i ≤ n) → (i : ℕ) → at s c i ≤ n
  used_word c n = used_so (λ (x : ℕ). x ≤ n) (omega arith) c

  -- a word that is written is read back
  pub read_back : (c i v : ℕ) → T (ltb c REST) → i < size k c → get_or (set (s c) i v) i 0 ≡ v
  read_back c i v t l = get_or-set_same (s c) i v 0 (omega (arith, l, g.sized.words c (lit< t)))

  -- and so is what it names, one up
  pub read_down : (c i v : ℕ) → T (ltb c REST) → i < size k c → get_or (set (s c) i (suc v)) i 0 - 1 ≡ v
  read_down c i v t l = omega (arith, read_back c i (suc v) t l)

  -- ---- caps_rule: the head states the capacities
  pub states_actors : head s ACTORS ≡ k.actors
  states_actors = g.caps.0.0

  pub states_mails : head s MAILS ≡ k.mails
  states_mails = g.caps.0.1.0

  pub states_datas : head s DATAS ≡ k.datas
  states_datas = g.caps.0.1.1

  pub states_links : head s LINKS ≡ k.links
  states_links = g.caps.1.0

  pub states_monitors : head s MONITORS ≡ k.monitors
  states_monitors = g.caps.1.1.0

  pub states_timers : head s TIMERS ≡ k.timers
  states_timers = g.caps.1.1.1

  -- ---- head_rule: the clock, the runner, the lengths of the three lists and the number of buses are in range
  pub clock_fits : head s CLOCK ≤ CLOCK-END
  clock_fits = g.head.0.0

  pub runner-fits : runner s ≤ k.actors
  runner-fits = g.head.0.1

  pub queue-fits : head s QUEUED ≤ k.actors
  queue-fits = g.head.1.0.0

  pub arrivals-fit : head s ARRIVED ≤ k.mails
  arrivals-fit = g.head.1.0.1

  pub values-fit : head s ISSUED ≤ k.datas
  values-fit = g.head.1.1.0

  pub buses-fit : head s BUSES ≤ MOST-BUSES
  buses-fit = g.head.1.1.1

  -- ---- actor_rule: the words of an actor are in range
  pub age_fits : (a : ℕ) → at s AGE a ≤ OLDEST
  age_fits = every_word AGE OLDEST (omega arith) (λ a l. (g.actors a l).1.0.0)

  -- a hand names a data entry
  pub hand_fits : (a : ℕ) → at s HAND a ≤ k.datas
  hand_fits = every_word HAND k.datas (omega arith) (λ a l. (g.actors a l).1.1)

  -- ---- idle_rule: what an actor does not use is 0
  -- the three words of its filter and its deadline, where it does not wait
  pub wait_unused : (a : ℕ) → a < k.actors → (at s STATE a ≡ WAITS → ⊥)
      → ((at s WANT-SENDER a ≡ 0) × (at s WANT-CLASS a ≡ 0)) × ((at s WANT-TAG a ≡ 0) × (at s DEADLINE a ≡ 0))
  wait_unused a l = (g.unused_words a l).1.1

  pub deadline_unused : (a : ℕ) → a < k.actors → (at s STATE a ≡ WAITS → ⊥) → at s DEADLINE a ≡ 0
  deadline_unused a l n = (wait_unused a l n).1.1

  -- ---- wait_rule: a deadline is in range
  pub deadline_fits : (a : ℕ) → at s DEADLINE a ≤ DEADLINE-END
  deadline_fits =
      used_word DEADLINE DEADLINE-END (omega arith) (λ a. eqb (at s DEADLINE a) 0) (λ a l q. eqb-true _ _ q) (λ a l q. ((g.waits a l).1.1 (eqb-false _ _ q)).1)

  -- ---- list_rule: who is queued has one of the slots
  pub queued_fits : (i : ℕ) → i < head s QUEUED → at s QUEUE i < k.actors
  queued_fits i h = (g.queue i (omega (arith, queue-fits))).0 h

  -- ---- mail_rule: a mailbox entry in use
  pub mail_owner_lives : (e : ℕ) → e < k.mails → not (free (s MAIL-FREE) e) ≡ true → alive (s STATE) (at s MAIL-OWNER e - 1) ≡ true
  mail_owner_lives e l u = ((g.mails e l).1 u).0.1

  -- it names a data entry
  pub mail-fits : (e : ℕ) → at s MAIL-DATA e ≤ k.datas
  mail-fits = used_word MAIL-DATA k.datas (omega arith) (free (s MAIL-FREE)) (λ e l q. ((g.mails e l).0 q).1) (λ e l q. ((g.mails e l).1 (rw q)).1.1)

  -- ---- data_rule: "Payloads are 0 to 252 bytes"
  pub length-fits : (d : ℕ) → at s LENGTH d ≤ PAYLOAD-MOST
  length-fits =
      used_word LENGTH PAYLOAD-MOST (omega arith) (free (s DATA-FREE)) (λ d l q. ((g.datas d l).0 q).0.1)
      (λ d l q. split (eqb (at s VALUE-BUS d) 0) (λ z. (((g.datas d l).1 (rw q)).0 (eqb-true _ _ z)).0.1.0) (λ z. (((g.datas d l).1 (rw q)).1 (eqb-false _ _ z)).1.0))

  -- ---- link_rule
  pub link_ends : (e : ℕ) → e < k.links → (at s LINK-ONE e ≡ 0 → ⊥) → Ends (s STATE) (at s LINK-ONE e) (at s LINK-TWO e)
  link_ends e l n = ends_of (s STATE) (at s LINK-ONE e) (at s LINK-TWO e) ((g.links e l).1 n)

  -- ---- monitor_rule
  pub monitor_age_fits : (i : ℕ) → at s MONITOR-AGE i ≤ OLDEST
  monitor_age_fits = every_word MONITOR-AGE OLDEST (omega arith) (λ i l. (g.monitors i l).0.0)

  pub monitor-ends : (i : ℕ) → i < k.monitors → (at s WATCHER i ≡ 0 → ⊥) → Ends (s STATE) (at s WATCHER i) (at s WATCHED i)
  monitor-ends i l n = ends_of (s STATE) (at s WATCHER i) (at s WATCHED i) ((g.monitors i l).1.1 n)

  -- ---- timer_rule
  pub timer_age_fits : (i : ℕ) → at s TIMER-AGE i ≤ OLDEST
  timer_age_fits = every_word TIMER-AGE OLDEST (omega arith) (λ i l. (g.timers i l).0.0)

  pub timer_owner_lives : (i : ℕ) → i < k.timers → (at s TIMER-OWNER i ≡ 0 → ⊥) → alive (s STATE) (at s TIMER-OWNER i - 1) ≡ true
  timer_owner_lives i l n = ((g.timers i l).1.1 n).0

  pub due-fits : (i : ℕ) → at s DUE i ≤ DUE-END
  due-fits =
      used_word DUE DUE-END (omega arith) (unused (s TIMER-OWNER))
      (λ i l q. ((g.timers i l).1.0 (eqb-true _ _ q)).0) (λ i l q. ((g.timers i l).1.1 (eqb-false _ _ q)).1.0)

  -- an interval is 0, a one-shot's, or in range
  pub interval_right : (i : ℕ) → Holds (interval_rule (at s INTERVAL i))
  interval_right =
      used_so (λ (x : ℕ). Holds (interval_rule x)) interval_none INTERVAL (omega arith) (unused (s TIMER-OWNER))
      (λ i l q. ((g.timers i l).1.0 (eqb-true _ _ q)).1) (λ i l q. ((g.timers i l).1.1 (eqb-false _ _ q)).1.1)

  pub interval_fits : (i : ℕ) → at s INTERVAL i ≤ LONGEST
  interval_fits i = (interval_right i).0

  -- ---- bus_rule: the settings of a bus are in range, made or not
  setting_fits : (c most b : ℕ) → c < REST → size k c ≡ MOST-BUSES → ((b : ℕ) → b < MOST-BUSES → at s c b ≤ most) → at s c b ≤ most
  setting_fits c most b h e f = every_word c most h (λ i l. f i (rw e at l)) b

  pub seats-fit : (b : ℕ) → at s BUS-SEATS b ≤ MOST-SEATS
  seats-fit b =
      setting_fits BUS-SEATS MOST-SEATS b (omega arith) refl (λ b l. split (ltb b (head s BUSES))
      (λ q. ((g.buses b l).0 (ltb-true _ _ q)).0.1.1) (λ q. omega (arith, ((g.buses b l).1 (ltb-false _ _ q)).0.1)))

  pub bus_age_fits : (b : ℕ) → at s BUS-AGE b ≤ LONGEST-AGE
  bus_age_fits b =
      setting_fits BUS-AGE LONGEST-AGE b (omega arith) refl (λ b l. split (ltb b (head s BUSES))
      (λ q. ((g.buses b l).0 (ltb-true _ _ q)).1.1) (λ q. omega (arith, ((g.buses b l).1 (ltb-false _ _ q)).1.1)))

  -- a bus that is made has room for a value and for a subscriber
  pub bus-made : (b : ℕ) → b < head s BUSES → (1 ≤ at s BUS-SIZE b) × (1 ≤ at s BUS-SEATS b)
  bus-made b h = let r = ((g.buses b (omega (arith, buses-fit))).0 h).0 in (r.0.0, r.1.0)

  -- ---- row_rule: who sits on a bus
  pub seat_lives : (b n : ℕ) → b < MOST-BUSES → n < MOST-SEATS → (in_seat s b n ≡ 0 → ⊥) → alive (s STATE) (in_seat s b n - 1) ≡ true
  seat_lives b n l m h = (g.rows b l n m h).1.0

  pub seat_below : (b n : ℕ) → b < MOST-BUSES → n < MOST-SEATS → (in_seat s b n ≡ 0 → ⊥) → n < at s BUS-SEATS b
  seat_below b n l m h = (g.rows b l n m h).0

  -- nobody sits twice on a bus
  pub seat_once : (b m n : ℕ) → b < MOST-BUSES → m < MOST-SEATS → n < MOST-SEATS → (in_seat s b n ≡ 0 → ⊥) → in_seat s b m ≡ in_seat s b n → m ≡ n
  seat_once b m n l lm ln h e =
      elim (dec_lt m n) [
        | yes y ↦ absurd ((g.rows b l n ln h).1.1 m y e)
        | no y ↦ elim (dec_lt n m) [ yes z ↦ absurd ((g.rows b l m lm (λ q. h (omega arith))).1.1 n z (omega arith)) | no z ↦ omega arith ]
      ]

  -- ---- issue_rule, issued_rule and value_rule
  pub issue-fits : (i : ℕ) → at s ISSUE i ≤ k.datas
  issue-fits =
      used_word ISSUE k.datas (omega arith) (λ i. not (ltb i (head s ISSUED))) (λ i l q. (g.issues i l).1 (ltb-false _ _ (not-true _ q)))
      (λ i l q. ((g.issues i l).0 (ltb-true _ _ (not-false _ q))).1)

  pub issue-some : (i : ℕ) → i < head s ISSUED → 1 ≤ at s ISSUE i
  issue-some i h = ((g.issues i (omega (arith, values-fit))).0 h).0

  -- a value was published at or before the clock; 0 where there is none
  pub published-fits : (d : ℕ) → at s PUBLISHED d ≤ head s CLOCK
  published-fits =
      used_word PUBLISHED (head s CLOCK) (omega arith) (unused (s VALUE-BUS))
      (λ d l q. ((g.values d l).0 (eqb-true _ _ q)).1) (λ d l q. ((g.values d l).1 (eqb-false _ _ q)).0.1)

  -- ---- THE LAWS of other states: what asks that somebody lives is so there too, where those whom it names live
  module _ (states : List ℕ) where
    pub mails_live_on : ((e : ℕ) → e < k.mails → not (free (s MAIL-FREE) e) ≡ true → alive states (at s MAIL-OWNER e - 1) ≡ true)
        → (e : ℕ) → e < k.mails → Holds (mail_rule k (with_col s STATE states) e)
    unfolding with_col
    mails_live_on lives e l = ((g.mails e l).0, λ u. let m = (g.mails e l).1 u in ((m.0.0, lives e l u), m.1))

    -- both ends of a link or monitor
    both_live_on : {a b : ℕ} → Ends (s STATE) a b → alive states (a - 1) ≡ true → alive states (b - 1) ≡ true → Holds (ends_rule states a b)
    both_live_on ends one two = ((ends.one, one), ((ends.two, two), ends.differ))

    pub links_live_on : ((e : ℕ) → e < k.links → (at s LINK-ONE e ≡ 0 → ⊥)
        → (alive states (at s LINK-ONE e - 1) ≡ true) × (alive states (at s LINK-TWO e - 1) ≡ true))
        → (e : ℕ) → e < k.links → Holds (link_rule (with_col s STATE states) e)
    unfolding with_col
    links_live_on lives e l = ((g.links e l).0, λ n. let (one, two) = lives e l n in both_live_on (link_ends e l n) one two)

    pub monitors_live_on : ((i : ℕ) → i < k.monitors → (at s WATCHER i ≡ 0 → ⊥)
        → (alive states (at s WATCHER i - 1) ≡ true) × (alive states (at s WATCHED i - 1) ≡ true))
        → (i : ℕ) → i < k.monitors → Holds (monitor_rule (with_col s STATE states) i)
    unfolding with_col
    monitors_live_on lives i l = ((g.monitors i l).0, ((g.monitors i l).1.0, λ n. let (one, two) = lives i l n in both_live_on (monitor-ends i l n) one two))

    pub timers_live_on : ((i : ℕ) → i < k.timers → (at s TIMER-OWNER i ≡ 0 → ⊥) → alive states (at s TIMER-OWNER i - 1) ≡ true)
        → (i : ℕ) → i < k.timers → Holds (timer_rule (with_col s STATE states) i)
    unfolding with_col
    timers_live_on lives i l = ((g.timers i l).0, ((g.timers i l).1.0, λ n. (lives i l n, (due-fits i, interval_right i))))

    pub rows_live_on : ((b n : ℕ) → b < MOST-BUSES → n < MOST-SEATS → (in_seat s b n ≡ 0 → ⊥) → alive states (in_seat s b n - 1) ≡ true)
        → (b : ℕ) → b < MOST-BUSES → Holds (row_rule (with_col s STATE states) b)
    unfolding with_col
    rows_live_on lives b l n m h = (seat_below b n l m h, (lives b n l m h, (g.rows b l n m h).1.1))
