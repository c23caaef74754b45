-- What is answered is read before the mailbox entry is freed.
use native.Mathlib.Numerals.{add-one}
use Rattle.rules.specs.Calls.{hand_over}
use Rattle.calls.proofs.receiving.hand_over.Goals as goal

pub returns : goal.returns
unfolding hand_over
returns c =
    (rw c.data_of-d.ensures at c.message-answer.ensures, record { is = rw (c.put.ensures.is, c.delist.ensures.is, add-one c.data_of-d.result, c.data_of-d.ensures); room = c.put.ensures.room })
