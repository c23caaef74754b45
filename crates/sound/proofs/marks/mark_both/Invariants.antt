-- `sound::marks::mark_both` meets its contract.
use Prim.Native.Nat.{suc}
use lib.ListN.{take}
use Rattle.pools.specs.Pool.{occurs}
use Rattle.sound.specs.Marks.{AddedBoth}
use Rattle.sound.proofs.marks.mark_both.Given as goal

abbrev pub invariant-loop-i : goal.invariant-loop-i
invariant-loop-i l =
    AddedBoth (λ e. occurs e (take l.i l.arrivals)) (λ d. occurs (suc d) (take l.i l.entries)) l.ok l.initial.seen.bits l.seen.bits l.initial.held.bits l.held.bits
