-- `delist` is an entry freed and a pull.
use native.Mathlib.Omega.{arith}
use Rattle.tables.specs.State.{with_col, poke}
use Rattle.tables.specs.Action.{free_bit}
use Rattle.rules.specs.Actions.{delist}
use Rattle.actions.specs.Emptying.{disown}
use Rattle.actions.proofs.messages.delist.Goals as goal

pub pull-requires : goal.pull-requires
unfolding disown free_bit with_col poke
pull-requires c =
    let d = c.disown.ensures in
    let h = c.requires in
    (d.room, (omega arith, omega arith, rw d.is h.1.0, rw d.is h.1.1))

pub returns : goal.returns
unfolding delist disown
returns c =
    record { is = rw (c.pull.ensures.is, c.disown.ensures.is, c.get-e.ensures); room = c.pull.ensures.room }
