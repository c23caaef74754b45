-- `sound::every::owns` meets its contract.
use native.Mathlib.Omega.{arith}
use mathlib.Core.Path.{◌≡◌}
use Rattle.rules.proofs.Kept.Rules.{all_more, all_none, and_same}
use Rattle.sound.proofs.every.owns.Goals as goal

pub loop-i-init : goal.loop-i-init
loop-i-init c = rw all_none

pub loop-i-preserved : goal.loop-i-preserved
loop-i-preserved c = rw all_more (and_same c.loop-i.invariant c.slot_ok-ok.ensures)

pub returns : goal.returns
returns c = let q : c.loop-i.i ≡ c.args.k.actors = omega arith in rw q at c.loop-i.invariant
