-- The loop of `tables::payload::copy` keeps: the first i bytes are stored.
use mathlib.Core.Path.{◌≡◌}
use lib.ListN.{length, take}
use lib.Seq.{sets}
use Rattle.tables.proofs.payload.copy.Given as goal

abbrev pub invariant-loop-i : goal.invariant-loop-i
invariant-loop-i l = (length l.q ≡ length l.initial.q) × (l.q ≡ sets l.initial.q l.from (take l.i l.m))
