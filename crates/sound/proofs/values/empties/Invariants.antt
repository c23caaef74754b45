-- `sound::values::empties` meets its contract.
use Rattle.sound.specs.Values.{Empties}
use Rattle.sound.proofs.values.empties.Given as goal

abbrev pub invariant-loop-b : goal.invariant-loop-b
invariant-loop-b l = Empties l.seats l.b l.masks
