-- State and counts are those with the monitors below i cut.
use mathlib.Core.Path.{◌≡◌}
use Rattle.tables.specs.State.{view, Room}
use Rattle.rules.specs.Calls.{told, cut_monitors}
use Rattle.endings.specs.Counted.{Few, told_of}
use Rattle.endings.proofs.notices.Leaver.cut_monitors.Given as goal

abbrev pub invariant-loop-i : goal.invariant-loop-i
invariant-loop-i l =
    Room l.k l.t l.p × (told_of l.n (view l.k l.t l.p) ≡ cut_monitors l.k l.self.slot l.self.id l.self.reason l.i (told 0 0 (view l.k l.initial.t l.initial.p))) × Few l.n l.i
