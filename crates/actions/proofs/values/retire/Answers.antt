-- `retire` is an entry freed, its words cleared, and a pull.
use native.Mathlib.Omega.{arith}
use Rattle.tables.specs.State.{with_col, poke}
use Rattle.tables.specs.Action.{free_bit, write}
use Rattle.rules.specs.Actions.{unfill}
use Rattle.rules.specs.Buses.{retire}
use Rattle.actions.proofs.values.retire.Goals as goal

pub pull-requires : goal.pull-requires
unfolding unfill write free_bit with_col poke
pull-requires c =
    let d = c.label.ensures in
    let u = c.unfill.ensures in
    (d.room, (omega arith, omega arith, rw (d.is, u.is) c.requires.1.0, rw (d.is, u.is) c.requires.1.1))

pub returns : goal.returns
unfolding retire
returns c =
    record { is = rw (c.pull.ensures.is, c.label.ensures.is, c.unfill.ensures.is, c.value_at-d.ensures); room = c.pull.ensures.room }
