-- A form as the code has it.
use Rattle.trace.specs.Codec.{Form as Shape, form}
use Rattle.judge.specs.declared.forms.Form.{Form}

abbrev pub shape_of : Form → Shape
shape_of f = form f.fore f.longest f.aft
