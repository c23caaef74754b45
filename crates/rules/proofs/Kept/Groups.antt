-- Soundness in groups of rules: what each group reads, and that nothing else matters to it.
use Prim.Native.Nat.{ℕ, zero, suc, ◌+◌}
use mathlib.Core.Path.{◌≡◌, refl, sym, ap, subst, ◌∙◌, fun_ext}
use mathlib.Core.Bool.{true, cond, or-true}
use lib.Dec.{eqb}
use mathlib.Core.List.{List, [], ◌∷◌}
use Rattle.pools.proofs.BoolLaws.{split}
use Rattle.tables.specs.declared.Caps.{Caps}
use Rattle.tables.specs.Columns.{ACTORS, AGE, ARRIVAL, ARRIVED, CLOCK, DATA-FREE, DATAS, DEADLINE, DUE, HAND, INTERVAL, LENGTH, LINK-ONE, LINK-TWO, LINKS}
use Rattle.tables.specs.Columns.{MAIL-DATA, MAIL-FREE, MAIL-OWNER, MAILS, MONITOR-AGE, MONITORS, PAYLOAD, PRIORITY, QUEUE, QUEUED, REASON, RUNNING, SENDER}
use Rattle.tables.specs.Columns.{BUS-AGE, BUS-READS, BUS-SEATS, BUS-SIZE, BUSES, ISSUE, ISSUED, PUBLISHED, READERS, SEAT, VALUE-BUS}
use Rattle.tables.specs.Columns.{SPARE, STATE, TIMER-AGE, TIMER-OWNER, TIMERS, WANT-CLASS, WANT-SENDER, WANT-TAG, WATCHED, WATCHER}
use Rattle.tables.specs.Limits.{MOST-BUSES}
use Rattle.tables.specs.Sizes.{COLUMN-BITS, SPARES}
use Rattle.tables.specs.State.{State}
use Rattle.rules.specs.Rule.{Rule, is, each, Holds}
use Rattle.rules.specs.Terms.{alive}
use Rattle.rules.specs.Sound.{OWNERS, actor_rule, arrival_rule, arrived_rule, bits_rule, caps_rule, data_rule, filter_rule, head_rule, held_rule, unused_rule}
use Rattle.rules.specs.Sound.{link_rule, mail_rule, monitor_rule, once_rule, pair_rule, queue_rule, run_rule, spare_rule, timer_rule, wait_rule}
use Rattle.rules.specs.Sound.{bus_rule, crowd_rule, issue_rule, issued_rule, row_rule, value_rule}
use Rattle.rules.proofs.Frames.Wrote.{mem}

-- who is alive, as if it were a column: a group that reads the states for that alone is left alone by an action that keeps the living
abbrev pub LIVES : ℕ
LIVES = 1000

-- s and t are alike to who reads the columns rs
pub record Alike (rs : List ℕ) (s t : State) : Type 0 where
  pub cols : (c : ℕ) → mem c rs ≡ true → t c ≡ s c
  pub who : mem LIVES rs ≡ true → alive (t STATE) ≡ alive (s STATE)

-- a group of rules: what it reads, what it says, and that it says the same of states that are alike there
pub record Group : Type 0 where
  pub reads : List ℕ
  pub rule : Caps → State → Rule
  pub same : (k : Caps) (s t : State) → Alike reads s t → Holds (rule k s) → Holds (rule k t)

-- ---- a rule that reads columns by their names: it says the same of the state with no other columns, and that is seen by computing
abbrev pub only : List ℕ → State → State
only rs s c = cond (mem c rs) (s c) []

pub by_columns : (rs : List ℕ) (f : State → Rule) → ((s : State) → f (only rs s) ≡ f s) → (s t : State) → Alike rs s t → Holds (f s) → Holds (f t)
by_columns rs f e s t a h =
    let p : only rs s ≡ only rs t = fun_ext (λ c. split (mem c rs) (λ q. rw (q, a.cols c q)) (λ q. rw q)) in
    subst Holds (sym (e s) ∙ ap f p ∙ e t) h

-- pairs are said behind a name that does not compute
pub pairs-only : (k : Caps) (s : State) → each k.links (λ e. pair_rule (only (LINK-ONE ∷ LINK-TWO ∷ []) s) e) ≡ each k.links (λ e. pair_rule s e)
unfolding pair_rule
pairs-only k s = refl

-- such a group
abbrev pub plain : (rs : List ℕ) (f : Caps → State → Rule) → ((k : Caps) (s : State) → f k (only rs s) ≡ f k s) → Group
plain rs f e = record { reads = rs; rule = f; same = λ k. by_columns rs (f k) (e k) }

-- one that reads the states too, for who is alive alone: it says the same with other states in which the same are
abbrev pub among : List ℕ → List ℕ → State → State
among rs states s c = cond (eqb c STATE) states (only rs s c)

pub by_living : (rs : List ℕ) (f : State → Rule) → ((states : List ℕ) (s : State) → alive states ≡ alive (s STATE) → f (among rs states s) ≡ f s) →
    (s t : State) → Alike (LIVES ∷ rs) s t → Holds (f s) → Holds (f t)
by_living rs f e s t a h =
    let p : among rs (t STATE) s ≡ among rs (t STATE) t = fun_ext (λ c. split (mem c rs) (λ q. rw (q, a.cols c (rw q (or-true (eqb c LIVES))))) (λ q. rw q)) in
    subst Holds (sym (e (t STATE) s (a.who refl)) ∙ ap f p ∙ e (t STATE) t refl) h

-- such a group
abbrev pub living : (rs : List ℕ) (f : Caps → State → Rule) →
    ((k : Caps) (states : List ℕ) (s : State) → alive states ≡ alive (s STATE) → f k (among rs states s) ≡ f k s) → Group
living rs f e = record { reads = LIVES ∷ rs; rule = f; same = λ k. by_living rs (f k) (e k) }

-- ---- the groups, each after its place in the list below
abbrev pub caps : ℕ
caps = 0

abbrev pub head : ℕ
head = caps + 1

abbrev pub spare : ℕ
spare = head + 1

abbrev pub mail_bits : ℕ
mail_bits = spare + 1

abbrev pub data_bits : ℕ
data_bits = mail_bits + 1

abbrev pub actors : ℕ
actors = data_bits + 1

abbrev pub unused_words : ℕ
unused_words = actors + 1

abbrev pub waits : ℕ
waits = unused_words + 1

abbrev pub runs : ℕ
runs = waits + 1

abbrev pub queue : ℕ
queue = runs + 1

abbrev pub once : ℕ
once = queue + 1

abbrev pub mails : ℕ
mails = once + 1

abbrev pub arrivals : ℕ
arrivals = mails + 1

abbrev pub arrived : ℕ
arrived = arrivals + 1

abbrev pub filters : ℕ
filters = arrived + 1

abbrev pub datas : ℕ
datas = filters + 1

abbrev pub held : ℕ
held = datas + 1

abbrev pub links : ℕ
links = held + 1

abbrev pub pairs : ℕ
pairs = links + 1

abbrev pub monitors : ℕ
monitors = pairs + 1

abbrev pub timers : ℕ
timers = monitors + 1

abbrev pub buses : ℕ
buses = timers + 1

abbrev pub rows : ℕ
rows = buses + 1

abbrev pub values : ℕ
values = rows + 1

abbrev pub issues : ℕ
issues = values + 1

abbrev pub issued : ℕ
issued = issues + 1

abbrev pub crowds : ℕ
crowds = issued + 1

-- all of them
abbrev pub groups : List Group
groups =
    plain (ACTORS ∷ MAILS ∷ DATAS ∷ LINKS ∷ MONITORS ∷ TIMERS ∷ []) (λ k s. caps_rule k s) (λ k s. refl)
    ∷ plain (CLOCK ∷ RUNNING ∷ QUEUED ∷ ARRIVED ∷ ISSUED ∷ BUSES ∷ []) (λ k s. head_rule k s) (λ k s. refl)
    ∷ plain (SPARE ∷ []) (λ k s. each SPARES (λ i. spare_rule s i)) (λ k s. refl)
    ∷ plain (MAIL-FREE ∷ []) (λ k s. each COLUMN-BITS (λ e. bits_rule k.mails (s MAIL-FREE) e)) (λ k s. refl)
    ∷ plain (DATA-FREE ∷ []) (λ k s. each COLUMN-BITS (λ d. bits_rule k.datas (s DATA-FREE) d)) (λ k s. refl)
    ∷ plain (STATE ∷ PRIORITY ∷ REASON ∷ AGE ∷ HAND ∷ []) (λ k s. each k.actors (λ a. actor_rule k s a)) (λ k s. refl)
    ∷ plain (STATE ∷ PRIORITY ∷ REASON ∷ HAND ∷ WANT-SENDER ∷ WANT-CLASS ∷ WANT-TAG ∷ DEADLINE ∷ []) (λ k s. each k.actors (λ a. unused_rule s a)) (λ k s. refl)
    ∷ plain (WANT-SENDER ∷ WANT-CLASS ∷ WANT-TAG ∷ DEADLINE ∷ CLOCK ∷ []) (λ k s. each k.actors (λ a. wait_rule s a)) (λ k s. refl)
    ∷ plain (STATE ∷ RUNNING ∷ []) (λ k s. each k.actors (λ a. run_rule s a)) (λ k s. refl)
    ∷ plain (QUEUED ∷ QUEUE ∷ []) (λ k s. each k.actors (λ i. queue_rule k s i)) (λ k s. refl)
    ∷ plain (QUEUED ∷ QUEUE ∷ STATE ∷ []) (λ k s. each k.actors (λ a. once_rule s a)) (λ k s. refl)
    ∷ living (MAIL-FREE ∷ MAIL-OWNER ∷ MAIL-DATA ∷ []) (λ k s. each k.mails (λ e. mail_rule k s e)) (λ k states s v. rw v)
    ∷ plain (ARRIVED ∷ ARRIVAL ∷ []) (λ k s. each k.mails (λ i. arrival_rule k s i)) (λ k s. refl)
    ∷ plain (ARRIVED ∷ ARRIVAL ∷ MAIL-FREE ∷ []) (λ k s. each k.mails (λ e. arrived_rule s e)) (λ k s. refl)
    ∷ plain (MAIL-FREE ∷ MAIL-OWNER ∷ MAIL-DATA ∷ STATE ∷ WANT-SENDER ∷ WANT-CLASS ∷ WANT-TAG ∷ SENDER ∷ PAYLOAD ∷ [])
    (λ k s. each k.mails (λ e. filter_rule s e)) (λ k s. refl)
    ∷ plain (DATA-FREE ∷ SENDER ∷ LENGTH ∷ PAYLOAD ∷ AGE ∷ VALUE-BUS ∷ []) (λ k s. each k.datas (λ d. data_rule s d)) (λ k s. refl)
    ∷ plain (DATA-FREE ∷ OWNERS) (λ k s. each k.datas (λ d. held_rule s d)) (λ k s. refl)
    ∷ living (LINK-ONE ∷ LINK-TWO ∷ []) (λ k s. each k.links (λ e. link_rule s e)) (λ k states s v. rw v)
    ∷ plain (LINK-ONE ∷ LINK-TWO ∷ []) (λ k s. each k.links (λ e. pair_rule s e)) pairs-only
    ∷ living (WATCHER ∷ WATCHED ∷ MONITOR-AGE ∷ []) (λ k s. each k.monitors (λ i. monitor_rule s i)) (λ k states s v. rw v)
    ∷ living (TIMER-OWNER ∷ TIMER-AGE ∷ DUE ∷ INTERVAL ∷ []) (λ k s. each k.timers (λ i. timer_rule s i)) (λ k states s v. rw v)
    ∷ plain (BUSES ∷ BUS-SIZE ∷ BUS-SEATS ∷ BUS-READS ∷ BUS-AGE ∷ []) (λ k s. each MOST-BUSES (λ b. bus_rule s b)) (λ k s. refl)
    ∷ living (BUS-SEATS ∷ SEAT ∷ []) (λ k s. each MOST-BUSES (λ b. row_rule s b)) (λ k states s v. rw v)
    ∷ plain (VALUE-BUS ∷ READERS ∷ PUBLISHED ∷ BUSES ∷ CLOCK ∷ SEAT ∷ []) (λ k s. each k.datas (λ d. value_rule s d)) (λ k s. refl)
    ∷ plain (ISSUED ∷ ISSUE ∷ []) (λ k s. each k.datas (λ i. issue_rule k s i)) (λ k s. refl)
    ∷ plain (ISSUE ∷ VALUE-BUS ∷ []) (λ k s. each k.datas (λ d. issued_rule s d)) (λ k s. refl)
    ∷ plain (VALUE-BUS ∷ BUS-SIZE ∷ []) (λ k s. each MOST-BUSES (λ b. crowd_rule s b)) (λ k s. refl)
    ∷ []

-- ---- the n-th group
abbrev pub rule_at : List Group → ℕ → Caps → State → Rule
rule_at [] n k s = is true
rule_at (g ∷ gs) zero k s = g.rule k s
rule_at (g ∷ gs) (suc n) k s = rule_at gs n k s

-- what it reads
abbrev pub reads_at : List Group → ℕ → List ℕ
reads_at [] n = []
reads_at (g ∷ gs) zero = g.reads
reads_at (g ∷ gs) (suc n) = reads_at gs n

-- it says the same of states that are alike there
pub same_at : (gs : List Group) (n : ℕ) (k : Caps) (s t : State) → Alike (reads_at gs n) s t → Holds (rule_at gs n k s) → Holds (rule_at gs n k t)
same_at [] n k s t a h = refl
same_at (g ∷ gs) zero k s t a h = g.same k s t a h
same_at (g ∷ gs) (suc n) k s t a h = same_at gs n k s t a h

-- all of them
abbrev pub Every : List Group → Caps → State → Type 0
Every [] k s = Unit
Every (g ∷ gs) k s = Holds (g.rule k s) × Every gs k s

-- one of them
abbrev pub pick : (gs : List Group) (n : ℕ) (k : Caps) (s : State) → Every gs k s → Holds (rule_at gs n k s)
pick [] n k s h = refl
pick (g ∷ gs) zero k s h = h.0
pick (g ∷ gs) (suc n) k s h = pick gs n k s h.1
