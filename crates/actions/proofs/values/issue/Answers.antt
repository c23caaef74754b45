-- `issue` is an entry filled, its words set, and a push.
use native.Mathlib.Numerals.{add-one}
use native.Mathlib.Omega.{arith}
use Rattle.tables.specs.State.{with_col, poke}
use Rattle.tables.specs.Action.{take_bit, write}
use Rattle.rules.specs.Actions.{fill}
use Rattle.rules.specs.Buses.{issue}
use Rattle.actions.proofs.values.issue.Goals as goal

pub push-requires : goal.push-requires
unfolding fill write take_bit with_col poke
push-requires c =
    let d = c.label.ensures in
    (d.room, (omega arith, omega arith, rw (d.is, c.fill.ensures.is) c.requires.1.3))

pub returns : goal.returns
unfolding issue
returns c =
    let a = c.args in
    record { is = rw (c.push.ensures.is, c.label.ensures.is, c.fill.ensures.is, c.get-clock.ensures, c.audience-readers.ensures, add-one a.b, add-one a.d); room = c.push.ensures.room }
