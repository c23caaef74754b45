-- The form of the number's kind is its row's, and a number that is no kind's is in no row.
use Rattle.std.proofs.Common.{refl}
use Rattle.judge.proofs.FormLaws.{no_kind}
use Rattle.judge.proofs.forms.form_of.Goals as goal

pub returns-in-Ok-clause-form : goal.returns-in-Ok-clause-form
returns-in-Ok-clause-form c = rw (← c.in-Ok.ensures) c.of.ensures.form

pub returns-in-Err-clause-form : goal.returns-in-Err-clause-form
returns-in-Err-clause-form c =
    let (fore, longest, aft) = c.new.ensures in
    rw (no_kind c.args.kind c.in-Err.ensures.1, fore, longest, aft) refl
