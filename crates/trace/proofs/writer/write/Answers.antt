-- Where there is room the record is put, and else nothing changes.
use Rattle.std.proofs.Common.{sym}
use Rattle.trace.proofs.WriterLaws.{length-note, put_no, put_yes}
use Rattle.trace.proofs.writer.write.Goals as goal

pub returns-then-out-n : goal.returns-then-out-n
returns-then-out-n c =
    let a = c.args in
    let n = length-note a.kind a.front.now a.text.now a.back.now in
    put_no a.kind a.front.now a.text.now a.back.now a.out.now _ (sym n) c.if-out-n.true

pub returns : goal.returns
returns c =
    let a = c.args in
    let n = length-note a.kind a.front.now a.text.now a.back.now in
    put_yes a.kind a.front.now a.text.now a.back.now a.out.now _ _ (sym n) c.if-out-n.false c.put_note.ensures
