-- `wake` is unwait and ready.
use Rattle.tables.specs.State.{with_col, poke}
use Rattle.rules.specs.Actions.{unwait}
use Rattle.actions.proofs.running.wake.Goals as goal

pub ready-requires : goal.ready-requires
unfolding unwait with_col poke
ready-requires c =
    (c.unwait.ensures.room, rw c.unwait.ensures.is c.requires.1)
