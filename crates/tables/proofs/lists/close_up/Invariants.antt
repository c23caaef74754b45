-- The loop of `tables::lists::close_up` keeps: the words before the i-th are those of the list without its j-th.
use mathlib.Core.Path.{◌≡◌}
use lib.ListN.{length}
use Rattle.pools.specs.Lists.{without}
use Rattle.tables.proofs.LoopLaws.{part}
use Rattle.tables.proofs.lists.close_up.Given as goal

abbrev pub invariant-loop-i : goal.invariant-loop-i
invariant-loop-i l = (length l.q ≡ length l.initial.q) × (l.q ≡ part (without l.j l.initial.q) l.initial.q l.i)
