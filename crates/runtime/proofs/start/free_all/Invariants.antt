-- `runtime::start::free_all`: the first j words are stored.
use Rattle.tables.specs.State.{view, Left}
use Rattle.runtime.proofs.StartLaws.{freed_to}
use Rattle.runtime.proofs.start.free_all.Given as goal

abbrev pub invariant-loop-j : goal.invariant-loop-j
invariant-loop-j l = Left l.k (freed_to l.c l.n l.j (view l.k l.initial.t l.p)) l.t l.p
