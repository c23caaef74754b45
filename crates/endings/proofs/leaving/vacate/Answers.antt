-- The slot runs, is runnable or waits no more, then it is free.
use Rattle.rules.specs.Aged.{end_use}
use Rattle.rules.specs.Calls.{vacate}
use Rattle.endings.proofs.leaving.vacate.Goals as goal

pub returns : goal.returns
unfolding vacate end_use
returns c =
    record { is = rw (c.put-2.ensures.is, c.put.ensures.is, c.loosen.ensures.is); room = c.put-2.ensures.room }
