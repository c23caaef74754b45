-- State and counts are those with the links to the slots below b cut.
use mathlib.Core.Path.{◌≡◌}
use Rattle.tables.specs.State.{view, Room}
use Rattle.rules.specs.Calls.{told, cut_links}
use Rattle.endings.specs.Counted.{Few, told_of}
use Rattle.endings.proofs.notices.Leaver.cut_links.Given as goal

abbrev pub invariant-loop-b : goal.invariant-loop-b
invariant-loop-b l =
    Room l.k l.t l.p × (told_of l.n (view l.k l.t l.p) ≡ cut_links l.k l.self.slot l.self.id l.self.reason l.b (told 0 0 (view l.k l.initial.t l.initial.p))) × Few l.n l.b
