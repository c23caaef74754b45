-- `sound::marks::mark_mails` meets its contract.
use Rattle.sound.proofs.MarkLaws.{both_rest, rest_is}
use Rattle.sound.proofs.marks.mark_mails.Goals as goal

pub returns : goal.returns
returns c =
    let a = c.args in
    both_rest a.n a.entries.now c.mark_both-first.ensures (rw (rest_is a.entries.now a.n) at c.mark_parts_up-rest.ensures)
