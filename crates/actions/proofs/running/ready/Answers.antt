-- `ready` is two puts and a push.
use native.Mathlib.Omega.{arith}
use Rattle.tables.specs.State.{with_col, poke}
use Rattle.rules.specs.Actions.{ready}
use Rattle.actions.proofs.running.ready.Goals as goal

pub push-requires : goal.push-requires
unfolding with_col poke
push-requires c =
    (c.put-2.ensures.room, (omega arith, omega arith, rw (c.put-2.ensures.is, c.put.ensures.is) c.requires.1))

pub returns : goal.returns
unfolding ready
returns c =
    record { is = rw (c.push.ensures.is, c.put-2.ensures.is, c.put.ensures.is); room = c.push.ensures.room }
