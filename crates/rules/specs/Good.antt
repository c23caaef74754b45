-- The states that functions inside the calls may ask for: sound, rule by rule; sound at an earlier clock; sound, while an actor ends.
use Rattle.std.specs.Prelude.{ℕ, suc, ◌≤◌, ◌<◌, ◌≡◌, true}
use Rattle.tables.specs.declared.Caps.{Caps}
use Rattle.tables.specs.Columns.{CLOCK, DATA-FREE, HAND, MAIL-FREE, MAIL-OWNER, STATE}
use Rattle.tables.specs.Limits.{CLOCK-END, MOST-BUSES}
use Rattle.tables.specs.Sizes.{COLUMN-BITS, SPARES}
use Rattle.tables.specs.State.{InRange, Sized, State, at, head, poke}
use Rattle.rules.specs.Rule.{Holds}
use Rattle.rules.specs.Sound.{actor_rule, arrival_rule, arrived_rule, bits_rule, bus_rule, caps_rule, crowd_rule, data_rule, filter_rule, head_rule, held_rule, issue_rule, issued_rule, link_rule, mail_rule, monitor_rule, once_rule, pair_rule, queue_rule, row_rule, run_rule, spare_rule, timer_rule, unused_rule, value_rule, wait_rule}
use Rattle.rules.specs.Terms.{actor_id, alive}

-- a sound state, a field for each group of rules: the invariant that every call keeps
pub record Good (k : Caps) (s : State) : Type 0 where
  pub range : InRange k
  pub sized : Sized k s
  pub caps : Holds (caps_rule k s)
  pub head : Holds (head_rule k s)
  pub spare : (i : ℕ) → i < SPARES → Holds (spare_rule s i)
  pub mail_bits : (e : ℕ) → e < COLUMN-BITS → Holds (bits_rule k.mails (s MAIL-FREE) e)
  pub data_bits : (d : ℕ) → d < COLUMN-BITS → Holds (bits_rule k.datas (s DATA-FREE) d)
  pub actors : (a : ℕ) → a < k.actors → Holds (actor_rule k s a)
  pub unused_words : (a : ℕ) → a < k.actors → Holds (unused_rule s a)
  pub waits : (a : ℕ) → a < k.actors → Holds (wait_rule s a)
  pub runs : (a : ℕ) → a < k.actors → Holds (run_rule s a)
  pub queue : (i : ℕ) → i < k.actors → Holds (queue_rule k s i)
  pub once : (a : ℕ) → a < k.actors → Holds (once_rule s a)
  pub mails : (e : ℕ) → e < k.mails → Holds (mail_rule k s e)
  pub arrivals : (i : ℕ) → i < k.mails → Holds (arrival_rule k s i)
  pub arrived : (e : ℕ) → e < k.mails → Holds (arrived_rule s e)
  pub filters : (e : ℕ) → e < k.mails → Holds (filter_rule s e)
  pub datas : (d : ℕ) → d < k.datas → Holds (data_rule s d)
  pub held : (d : ℕ) → d < k.datas → Holds (held_rule s d)
  pub links : (e : ℕ) → e < k.links → Holds (link_rule s e)
  pub pairs : (e : ℕ) → e < k.links → Holds (pair_rule s e)
  pub monitors : (i : ℕ) → i < k.monitors → Holds (monitor_rule s i)
  pub timers : (i : ℕ) → i < k.timers → Holds (timer_rule s i)
  pub buses : (b : ℕ) → b < MOST-BUSES → Holds (bus_rule s b)
  pub rows : (b : ℕ) → b < MOST-BUSES → Holds (row_rule s b)
  pub values : (d : ℕ) → d < k.datas → Holds (value_rule s d)
  pub issues : (i : ℕ) → i < k.datas → Holds (issue_rule k s i)
  pub issued : (d : ℕ) → d < k.datas → Holds (issued_rule s d)
  pub crowds : (b : ℕ) → b < MOST-BUSES → Holds (crowd_rule s b)

-- ---- the state at another clock
unfoldable pub at_clock : State → ℕ → State
at_clock s c = poke s CLOCK 0 c

-- ---- a state that is sound at the clock c, which is past
pub record Late (k : Caps) (c : ℕ) (s : State) : Type 0 where
  pub good : Good k (at_clock s c)
  pub past : c ≤ head s CLOCK
  pub ends : head s CLOCK ≤ CLOCK-END

-- ---- an actor that is about to leave
pub record Ending (k : Caps) (a me : ℕ) (s : State) : Type 0 where
  pub good : Good k s
  pub there : alive (s STATE) a ≡ true
  pub id : actor_id s a ≡ me

-- ---- what stays true of the actor of slot a while it ends
pub record Going (k : Caps) (a me : ℕ) (s : State) : Type 0 where
  pub good : Good k s
  pub there : alive (s STATE) a ≡ true
  pub id : actor_id s a ≡ me
  pub mail : (e : ℕ) → at s MAIL-OWNER e ≡ suc a → ⊥
  pub hand : at s HAND a ≡ 0
