-- `begin` is two puts and ready.
use Rattle.tables.specs.State.{with_col, poke}
use Rattle.calls.proofs.running.begin.Goals as goal

pub ready-requires : goal.ready-requires
unfolding with_col poke
ready-requires c =
    (c.put-2.ensures.room, rw (c.put-2.ensures.is, c.put.ensures.is) c.requires.1.1)

pub returns : goal.returns
returns c =
    record { is = rw (c.ready.ensures.is, c.put-2.ensures.is, c.put.ensures.is, c.get-age.ensures); room = c.ready.ensures.room }
