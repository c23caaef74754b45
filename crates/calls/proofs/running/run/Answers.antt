-- `run` is a pull and three puts.
use native.Mathlib.Numerals.{add-one}
use Rattle.rules.specs.Calls.{run}
use Rattle.calls.proofs.running.run.Goals as goal

pub returns : goal.returns
unfolding run
returns c =
    let a = c.args in
    record { is = rw (c.put-3.ensures.is, c.put-2.ensures.is, c.put.ensures.is, c.pull.ensures.is, add-one a.a); room = c.put-3.ensures.room }
