-- The last number before the text is its length, unless it is over the most that is recorded.
use Rattle.std.proofs.Common.{sym, ◌∙◌}
use Rattle.judge.specs.Forms.{shape_of}
use Rattle.judge.proofs.FormLaws.{text_over, text_whole}
use Rattle.judge.proofs.forms.text_length.Goals as goal

pub returns-then-n-f-clause-value : goal.returns-then-n-f-clause-value
returns-then-n-f-clause-value c =
    let e = c.load64-n.ensures in
    e ∙ sym (text_whole (shape_of c.args.f) c.args.r.now c.if-f-eq0.false c.if-f-eq0-2.false (rw (← e) c.if-n-f.true))

pub returns-else-n-f-clause-value : goal.returns-else-n-f-clause-value
returns-else-n-f-clause-value c =
    let e = c.load64-n.ensures in
    sym (text_over (shape_of c.args.f) c.args.r.now c.if-f-eq0.false c.if-f-eq0-2.false (rw (← e) c.if-n-f.false))
