-- `sound::values::value_ok` meets its contract.
use native.Mathlib.Omega.{arith}
use Rattle.sound.proofs.ValueLaws.{value_none, value_some}
use Rattle.sound.proofs.values.value_ok.Goals as goal

pub returns-then-bus-eq0 : goal.returns-then-bus-eq0
returns-then-bus-eq0 c = let a = c.args in value_none a.masks.now a.made a.clock a.named a.bus a.readers a.published c.if-bus-eq0.true

pub returns-then-bus-made : goal.returns-then-bus-made
returns-then-bus-made c = let a = c.args in value_some a.masks.now a.made a.clock a.named a.bus a.readers a.published c.if-bus-eq0.false c.if-bus-made.true (omega arith)
