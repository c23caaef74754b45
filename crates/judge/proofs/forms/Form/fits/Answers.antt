-- The two lengths, by the form and by the header, are those of the definition.
use Rattle.std.proofs.Common.{◌∙◌, sym}
use Rattle.std.proofs.lemmas.Bool.{ne_eqb}
use Rattle.judge.specs.Forms.{shape_of}
use Rattle.judge.proofs.FormLaws.{formed-not, formed-says, formed-short}
use Rattle.judge.proofs.forms.Form.fits.Goals as goal

pub returns-then-r-fore : goal.returns-then-r-fore
returns-then-r-fore c = sym (formed-short (shape_of c.args.self) c.args.r.now c.if-r-fore.true)

pub returns-then-r-fore-2 : goal.returns-then-r-fore-2
returns-then-r-fore-2 c =
    rw c.load16.ensures (sym (formed-says (shape_of c.args.self) c.args.r.now (rw (← c.text_length.ensures.value) c.if-r-fore-2.true)))

pub returns-else-r-fore-2 : goal.returns-else-r-fore-2
returns-else-r-fore-2 c =
    (ne_eqb _ _ c.if-r-fore-2.false ∙ sym (formed-not (shape_of c.args.self) c.args.r.now (λ e. c.if-r-fore-2.false (rw c.text_length.ensures.value e))))
