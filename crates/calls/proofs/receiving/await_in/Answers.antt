-- `await_in` is halt and five puts.
use Rattle.rules.specs.Calls.{await}
use Rattle.calls.proofs.receiving.await_in.Goals as goal

pub returns : goal.returns
unfolding await
returns c =
    record { is = rw (c.put-5.ensures.is, c.put-4.ensures.is, c.put-3.ensures.is, c.put-2.ensures.is, c.put.ensures.is, c.halt.ensures.is); room = c.put-5.ensures.room }
