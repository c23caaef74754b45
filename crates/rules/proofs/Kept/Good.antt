-- A sound state, rule by rule: the invariant that every call keeps. Each field reads few columns, so that a call that writes others passes it on.
use Prim.Native.Nat.{ℕ, ◌<◌}
use mathlib.Core.Path.{◌≡◌}
use mathlib.Core.List.{[]}
use lib.ListN.{drop}
use Rattle.tables.specs.declared.Caps.{Caps}
use Rattle.tables.specs.Columns.{PAST}
use Rattle.tables.specs.State.{InRange, Sized, State}
use Rattle.rules.specs.Rule.{Holds}
use Rattle.rules.specs.Sound.{across_rules}
use Rattle.rules.specs.Sound.{plain_rules, size_rule, sound_at}
use Rattle.rules.proofs.Kept.Groups.{Every, groups, pick, rule_at}
use Rattle.rules.proofs.Kept.Groups as Part
use Rattle.rules.proofs.Kept.Sound.{of_range, range_of}
use Rattle.rules.specs.Good.{Good}

-- no column past the last
abbrev pub Past : State → Type 0
Past s = (c : ℕ) → PAST < c → s c ≡ []

-- ---- the groups of a sound state, and back
pub every_of : (k : Caps) (s : State) → Good k s → Every groups k s
every_of k s g =
    let buses : Every (drop 21 groups) k s = (g.buses, (g.rows, (g.values, (g.issues, (g.issued, (g.crowds, tt)))))) in
    let rest : Every (drop 13 groups) k s = (g.arrived, (g.filters, (g.datas, (g.held, (g.links, (g.pairs, (g.monitors, (g.timers, buses)))))))) in
    let late : Every (drop 10 groups) k s = (g.once, (g.mails, (g.arrivals, rest))) in
    (g.caps, (g.head, (g.spare, (g.mail_bits, (g.data_bits, (g.actors, (g.unused_words, (g.waits, (g.runs, (g.queue, late))))))))))

pub of_every : (k : Caps) (s : State) → InRange k → Sized k s → ((n : ℕ) → Holds (rule_at groups n k s)) → Good k s
of_every k s r z h = record {
  range = r;
  sized = z;
  caps = h Part.caps;
  head = h Part.head;
  spare = h Part.spare;
  mail_bits = h Part.mail_bits;
  data_bits = h Part.data_bits;
  actors = h Part.actors;
  unused_words = h Part.unused_words;
  waits = h Part.waits;
  runs = h Part.runs;
  queue = h Part.queue;
  once = h Part.once;
  mails = h Part.mails;
  arrivals = h Part.arrivals;
  arrived = h Part.arrived;
  filters = h Part.filters;
  datas = h Part.datas;
  held = h Part.held;
  links = h Part.links;
  pairs = h Part.pairs;
  monitors = h Part.monitors;
  timers = h Part.timers;
  buses = h Part.buses;
  rows = h Part.rows;
  values = h Part.values;
  issues = h Part.issues;
  issued = h Part.issued;
  crowds = h Part.crowds;
}

-- ---- what the rules say is what the record says
pub good_of : (k : Caps) (s : State) → Past s → Holds (sound_at k s) → Good k s
unfolding sound_at size_rule plain_rules across_rules
good_of k s p h =
    let ((range, (words, bytes)), (plain, late)) = h in
    let ((caps, (head, spare)), ((mail_bits, data_bits), ((slots, boxes), ((datas, links), ((monitors, timers), ((buses, rows), (values, issues))))))) = plain in
    let ((once, arrived), ((issued, crowds), (held, (pairs, filters)))) = late in
    let air : Every (drop 21 groups) k s = (buses, (rows, (values, (issues, (issued, (crowds, tt)))))) in
    let rest : Every (drop 13 groups) k s = (arrived, (filters, (datas, (held, (links, (pairs, (monitors, (timers, air)))))))) in
    let messages : Every (drop 11 groups) k s = (λ e l. (boxes e l).0, (λ e l. (boxes e l).1, rest)) in
    let runs : Every (drop 8 groups) k s = (λ a l. (slots a l).1.1.0, (λ a l. (slots a l).1.1.1, (once, messages))) in
    let actors : Every (drop 5 groups) k s = (λ a l. (slots a l).0.0, (λ a l. (slots a l).0.1, (λ a l. (slots a l).1.0, runs))) in
    let all : Every groups k s = (caps, (head, (spare, (mail_bits, (data_bits, actors))))) in
    of_every k s (range_of k range) (record { words = words; bytes = bytes; past = p }) (λ n. pick groups n k s all)

-- and the other way round
pub of_good : (k : Caps) (s : State) → Good k s → Holds (sound_at k s)
unfolding sound_at size_rule plain_rules across_rules
of_good k s g = (
  (of_range k g.range, (g.sized.words, g.sized.bytes)),
  (
    (
      (g.caps, (g.head, g.spare)),
      (
        (g.mail_bits, g.data_bits),
        (
          (λ a l. ((g.actors a l, g.unused_words a l), (g.waits a l, (g.runs a l, g.queue a l))), λ e l. (g.mails e l, g.arrivals e l)),
          ((g.datas, g.links), ((g.monitors, g.timers), ((g.buses, g.rows), (g.values, g.issues)))),
        ),
      ),
    ),
    ((g.once, g.arrived), ((g.issued, g.crowds), (g.held, (g.pairs, g.filters)))),
  ),
)
