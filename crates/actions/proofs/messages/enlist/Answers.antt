-- `enlist` is a bit taken, two puts and a push.
use native.Mathlib.Omega.{arith}
use native.Mathlib.Numerals.{add-one}
use Rattle.tables.specs.State.{with_col, poke}
use Rattle.tables.specs.Action.{take_bit}
use Rattle.rules.specs.Actions.{enlist}
use Rattle.actions.proofs.messages.enlist.Goals as goal

pub push-requires : goal.push-requires
unfolding take_bit with_col poke
push-requires c =
    (c.put-2.ensures.room, (omega arith, omega arith, rw (c.put-2.ensures.is, c.put.ensures.is, c.take_bit.ensures.is) c.requires.1.2))

pub returns : goal.returns
unfolding enlist
returns c =
    record { is = rw (c.push.ensures.is, c.put-2.ensures.is, c.put.ensures.is, c.take_bit.ensures.is, add-one c.args.a, add-one c.args.d); room = c.push.ensures.room }
