-- The header, the numbers, the text and the numbers after it, put one after the other, are the bytes of the record.
use Rattle.std.proofs.Common.{arith}
use Rattle.trace.proofs.WriterLaws.{note_stored}
use Rattle.trace.proofs.writer.put_note.Goals as goal

pub returns : goal.returns
returns c =
    let a = c.args in
    let room = c.put_frame.auto.s in
    let still = c.put_words.auto.s in
    note_stored a.kind a.front.now a.text.now a.back.now _ a.out.now _ _ _ _ (omega arith) c.put_frame.ensures c.put_words.ensures
    c.copy.ensures c.put_words-2.ensures
