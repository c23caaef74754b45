-- ONE LAW for each part of the reckoning: an action on its columns leaves the other parts as they were.
use Prim.Native.Nat.{ℕ, ◌-◌, ◌<◌}
use mathlib.Core.Path.{◌≡◌, refl, sym, ap, subst, ◌∙◌}
use mathlib.Core.Bool.{Bool, true, false, not, ◌&&◌}
use mathlib.Core.List.{List, [], ◌∷◌, map-map}
use lib.Dec.{ltb}
use borrow.Author.Tests.{ltb-true}
use Rattle.ledger.specs.Ledger.{Buses, Ledger, Link, Mail, Monitor, People, Time, ties, with_buses, with_mail, with_people, with_ties, with_time}
use Rattle.pools.specs.Lists.{without}
use Rattle.pools.proofs.BoolLaws.{and_left, and_right}
use Rattle.pools.proofs.ExactLaws.{exact_same, exact_used}
use Rattle.tables.specs.declared.Caps.{Caps}
use Rattle.tables.specs.Columns.{AGE, ARRIVAL, ARRIVED, CLOCK, DATA-FREE, DUE, INTERVAL, LENGTH, LINK-ONE, LINK-TWO, MAIL-FREE, MAIL-OWNER, MONITOR-AGE}
use Rattle.tables.specs.Columns.{BUS-AGE, BUS-READS, BUS-SEATS, BUS-SIZE, BUSES, ISSUE, ISSUED, PUBLISHED, READERS, SEAT, VALUE-BUS}
use Rattle.tables.specs.Columns.{PAYLOAD, PRIORITY, RUNNING, SENDER, STATE, TIMER-AGE, TIMER-OWNER, WATCHED, WATCHER}
use Rattle.tables.specs.State.{State, at, head}
use Rattle.rules.specs.Aged.{is_worn}
use Rattle.rules.specs.Terms.{actor_id, alive}
use Rattle.rules.specs.Agrees.{Agrees, BusesAgree, LinksAgree, MailAgree, MonitorsAgree, PeopleAgree, TimeAgree, PoolAgree, reader_at, up_to, value_said}
use Rattle.rules.specs.Buses.{value_at, value_of}
use Rattle.rules.specs.Sound.{OWNERS}
use Rattle.rules.proofs.Lists.Columns.{worn_alive}
use Rattle.rules.proofs.Lists.Values.{up_to_exact}
use Rattle.rules.proofs.Frames.Wrote.{Wrote, apart, apart-at, mem, mixed, mixed_is}
use Rattle.rules.proofs.Reckoned.Ledger.{listed_in, map-same_on}

-- ---- what each part reads; the people read the states too, for who is alive alone
abbrev pub OF-PEOPLE : List ℕ
OF-PEOPLE = RUNNING ∷ AGE ∷ PRIORITY ∷ []

abbrev pub OF-MAIL : List ℕ
OF-MAIL = ARRIVED ∷ ARRIVAL ∷ MAIL-FREE ∷ MAIL-OWNER ∷ DATA-FREE ∷ SENDER ∷ LENGTH ∷ PAYLOAD ∷ AGE ∷ ISSUED ∷ OWNERS

abbrev pub OF-TIME : List ℕ
OF-TIME = CLOCK ∷ TIMER-OWNER ∷ TIMER-AGE ∷ DUE ∷ INTERVAL ∷ AGE ∷ []

abbrev pub OF-LINKS : List ℕ
OF-LINKS = LINK-ONE ∷ LINK-TWO ∷ AGE ∷ []

abbrev pub OF-MONITORS : List ℕ
OF-MONITORS = WATCHER ∷ WATCHED ∷ MONITOR-AGE ∷ AGE ∷ []

-- their own columns; of the bytes they read those of the values, and of the ages those of who sits somewhere
abbrev pub BUS-WORDS : List ℕ
BUS-WORDS = BUSES ∷ BUS-SIZE ∷ BUS-SEATS ∷ BUS-READS ∷ BUS-AGE ∷ SEAT ∷ VALUE-BUS ∷ READERS ∷ PUBLISHED ∷ ISSUE ∷ ISSUED ∷ []

abbrev pub OF-BUSES : List ℕ
OF-BUSES = LENGTH ∷ PAYLOAD ∷ AGE ∷ BUS-WORDS

-- every part; `without n ALL` are the others than the n-th
abbrev pub ALL : List (List ℕ)
ALL = OF-PEOPLE ∷ OF-MAIL ∷ OF-TIME ∷ OF-LINKS ∷ OF-MONITORS ∷ OF-BUSES ∷ []

-- who is alive in other states, where the same are: the same things stand there
pub pool_living : {A : Type 0} {thing : ℕ → A} {things : List A} {worn : List ℕ} (st st' ages : List ℕ) → alive st' ≡ alive st → PoolAgree (alive st) (is_worn st ages) thing things worn →
    PoolAgree (alive st') (is_worn st' ages) thing things worn
pool_living {worn = worn} st st' ages v r = record {
  slots = r.slots;
  all_slots = rw v r.all_slots;
  are = r.are;
  worn_slots = exact_same (is_worn st ages) (is_worn st' ages) worn r.worn_slots (worn_alive st st' ages v);
}

-- ---- parts that read none of the columns ws
abbrev pub clear : List (List ℕ) → List ℕ → Bool
clear [] ws = true
clear (rs ∷ rss) ws = apart rs ws && clear rss ws

-- one by one
abbrev Cleared : List (List ℕ) → List ℕ → Type 0
Cleared [] ws = Unit
Cleared (rs ∷ rss) ws = (apart rs ws ≡ true) × Cleared rss ws

cleared : (rss : List (List ℕ)) (ws : List ℕ) → clear rss ws ≡ true → Cleared rss ws
cleared [] ws e = tt
cleared (rs ∷ rss) ws e = (and_left (apart rs ws) (clear rss ws) e, cleared rss ws (and_right (apart rs ws) (clear rss ws) e))

module _ {ws : List ℕ} {s t : State} (w : Wrote ws s t) where
  -- who is alive is as it was where the states are not written
  pub living : mem STATE ws ≡ false → alive (t STATE) ≡ alive (s STATE)
  living e = ap alive (w.cols STATE e)

  -- ---- a part that is not written: what it says of the columns of s that it reads, and those of t else
  pub people-same : {p : People} → alive (t STATE) ≡ alive (s STATE) → apart OF-PEOPLE ws ≡ true → PeopleAgree p s → PeopleAgree p t
  unfolding mixed
  people-same {p = p} v e r =
      subst (PeopleAgree p) (mixed_is OF-PEOPLE w e) (record { running = r.running; pool = pool_living (s STATE) (t STATE) (s AGE) v r.pool })

  pub mail-same : {k : Caps} {m : Mail} → apart OF-MAIL ws ≡ true → MailAgree k m s → MailAgree k m t
  unfolding mixed
  mail-same {k = k} {m = m} e r =
      subst (MailAgree k m) (mixed_is OF-MAIL w e)
      (record { all_boxes = r.all_boxes; boxes = r.boxes; palms = r.palms; all_palms = r.all_palms; hands = r.hands; all_datas = r.all_datas })

  pub time-same : {u : Time} → apart OF-TIME ws ≡ true → TimeAgree u s → TimeAgree u t
  unfolding mixed
  time-same {u = u} e r = subst (TimeAgree u) (mixed_is OF-TIME w e) (record { clock = r.clock; pool = r.pool })

  pub links-same : {ls : List Link} → apart OF-LINKS ws ≡ true → LinksAgree ls s → LinksAgree ls t
  unfolding mixed
  links-same {ls = ls} e r = subst (LinksAgree ls) (mixed_is OF-LINKS w e) (record { bonds = r.bonds; all_bonds = r.all_bonds; links = r.links })

  pub monitors-same : {ms : List Monitor} {worn : List ℕ} → apart OF-MONITORS ws ≡ true → MonitorsAgree ms worn s → MonitorsAgree ms worn t
  unfolding mixed
  monitors-same {ms = ms} {worn = worn} e r = subst (λ (x : State). MonitorsAgree ms worn x) (mixed_is OF-MONITORS w e) r

  -- the buses, where their own columns are not written, and every value and everybody who sits somewhere is read as before
  pub buses_stay : {b : Buses} → apart BUS-WORDS ws ≡ true → ((i : ℕ) → i < head s ISSUED → value_of s (value_at s i) ≡ value_of t (value_at s i)) →
      ((i : ℕ) → (at s SEAT i ≡ 0 → ⊥) → actor_id s (at s SEAT i - 1) ≡ actor_id t (at s SEAT i - 1)) → BusesAgree b s → BusesAgree b t
  unfolding mixed
  buses_stay {b = b} e said who r =
      let u : State = mixed BUS-WORDS s t in
      let n = head s ISSUED in
      subst (BusesAgree b) (mixed_is BUS-WORDS w e) (record {
        made = r.made;
        rank = r.rank;
        values = r.values ∙ map-map (value_said s r.rank) (value_at s) (up_to n)
            ∙ map-same_on (λ i. value_said s r.rank (value_at s i)) (λ i. value_said u r.rank (value_at s i)) (up_to n)
            (λ i o. rw (said i (ltb-true i n (exact_used (λ i. ltb i n) (up_to n) i (up_to_exact n) o))))
            ∙ sym (map-map (value_said u r.rank) (value_at s) (up_to n));
        seats = r.seats;
        all_seats = r.all_seats;
        cursor = r.cursor;
        readers = r.readers ∙ map-same_on (reader_at s r.cursor) (reader_at u r.cursor) r.seats (λ i o. rw (who i (listed_in (s SEAT) r.seats r.all_seats i o)));
        ascending = r.ascending;
        before = r.before;
        came = r.came;
        unread = r.unread;
      })

  -- and where nothing that they read is written
  pub buses-same : {b : Buses} → apart OF-BUSES ws ≡ true → BusesAgree b s → BusesAgree b t
  buses-same e r =
      let same : (c : ℕ) → mem c OF-BUSES ≡ true → t c ≡ s c = λ c m. w.cols c (apart-at OF-BUSES ws e c m) in
      let rest : (c : ℕ) (cs : List ℕ) → apart (c ∷ cs) ws ≡ true → apart cs ws ≡ true = λ c cs. and_right (not (mem c ws)) (apart cs ws) in
      buses_stay (rest AGE BUS-WORDS (rest PAYLOAD (AGE ∷ BUS-WORDS) (rest LENGTH (PAYLOAD ∷ AGE ∷ BUS-WORDS) e)))
      (λ i h. rw (same LENGTH refl, same PAYLOAD refl)) (λ i h. rw (same AGE refl)) r

  -- ---- THE LAWS: the part that changed is given, the others are passed on where what they read is not written
  module _ {k : Caps} {l : Ledger} (r : Agrees k l s) where
    -- all parts, one after the other
    pub parts : {p : People} {m : Mail} {u : Time} {ls : List Link} {ms : List Monitor} {worn : List ℕ} {b : Buses} →
        PeopleAgree p t → MailAgree k m t → TimeAgree u t → LinksAgree ls t → MonitorsAgree ms worn t → BusesAgree b t →
        Agrees k (record { sizes = l.sizes; people = p; mail = m; time = u; ties = ties ls ms worn; buses = b }) t
    parts p m u ls ms b = record { sizes = r.sizes; people = p; mail = m; time = u; links = ls; monitors = ms; buses = b }

    -- nothing that the reckoning knows
    pub agrees_still : alive (t STATE) ≡ alive (s STATE) → clear ALL ws ≡ true → Agrees k l t
    agrees_still v e =
        let (people, (mail, (time, (links, (monitors, (buses, _)))))) = cleared ALL ws e in
        parts (people-same v people r.people) (mail-same mail r.mail) (time-same time r.time) (links-same links r.links) (monitors-same monitors r.monitors) (buses-same buses r.buses)

    -- the people
    pub agrees_people : (p : People) → clear (without 0 ALL) ws ≡ true → PeopleAgree p t → Agrees k (with_people l p) t
    agrees_people p e x =
        let (mail, (time, (links, (monitors, (buses, _))))) = cleared (without 0 ALL) ws e in
        parts x (mail-same mail r.mail) (time-same time r.time) (links-same links r.links) (monitors-same monitors r.monitors) (buses-same buses r.buses)

    -- the messages, which stand in data entries as the buses' values do
    pub agrees_messages : (m : Mail) → alive (t STATE) ≡ alive (s STATE) → clear (without 1 (without 5 ALL)) ws ≡ true → MailAgree k m t → BusesAgree l.buses t → Agrees k (with_mail l m) t
    agrees_messages m v e x y =
        let (people, (time, (links, (monitors, _)))) = cleared (without 1 (without 5 ALL)) ws e in
        parts (people-same v people r.people) x (time-same time r.time) (links-same links r.links) (monitors-same monitors r.monitors) y

    -- the clock and the timers
    pub agrees_time : (u : Time) → alive (t STATE) ≡ alive (s STATE) → clear (without 2 ALL) ws ≡ true → TimeAgree u t → Agrees k (with_time l u) t
    agrees_time u v e x =
        let (people, (mail, (links, (monitors, (buses, _))))) = cleared (without 2 ALL) ws e in
        parts (people-same v people r.people) (mail-same mail r.mail) x (links-same links r.links) (monitors-same monitors r.monitors) (buses-same buses r.buses)

    -- the links
    pub agrees_links : (ls : List Link) → alive (t STATE) ≡ alive (s STATE) → clear (without 3 ALL) ws ≡ true → LinksAgree ls t →
        Agrees k (with_ties l (ties ls l.ties.monitors l.ties.worn)) t
    agrees_links ls v e x =
        let (people, (mail, (time, (monitors, (buses, _))))) = cleared (without 3 ALL) ws e in
        parts (people-same v people r.people) (mail-same mail r.mail) (time-same time r.time) x (monitors-same monitors r.monitors) (buses-same buses r.buses)

    -- the monitors
    pub agrees_monitors : (ms : List Monitor) (worn : List ℕ) → alive (t STATE) ≡ alive (s STATE) → clear (without 4 ALL) ws ≡ true → MonitorsAgree ms worn t →
        Agrees k (with_ties l (ties l.ties.links ms worn)) t
    agrees_monitors ms worn v e x =
        let (people, (mail, (time, (links, (buses, _))))) = cleared (without 4 ALL) ws e in
        parts (people-same v people r.people) (mail-same mail r.mail) (time-same time r.time) (links-same links r.links) x (buses-same buses r.buses)

    -- the buses
    pub agrees_buses : (b : Buses) → alive (t STATE) ≡ alive (s STATE) → clear (without 5 ALL) ws ≡ true → BusesAgree b t → Agrees k (with_buses l b) t
    agrees_buses b v e x =
        let (people, (mail, (time, (links, (monitors, _))))) = cleared (without 5 ALL) ws e in
        parts (people-same v people r.people) (mail-same mail r.mail) (time-same time r.time) (links-same links r.links) (monitors-same monitors r.monitors) x
