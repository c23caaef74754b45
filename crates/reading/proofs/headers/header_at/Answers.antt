-- The header lies in the payload area.
use mathlib.Core.Path.{sym, ◌∙◌}
use native.Mathlib.Omega.{arith}
use Rattle.reading.proofs.HeaderLaws.{header_lies, header-past}
use Rattle.reading.proofs.headers.header_at.Goals as goal

pub returns-then-d-k : goal.returns-then-d-k
returns-then-d-k c = let a = c.args in
    c.load32.ensures ∙ sym (header_lies a.k a.t.now a.p.now a.d (omega arith))

pub returns-else-d-k : goal.returns-else-d-k
returns-else-d-k c = let a = c.args in sym (header-past a.k a.t.now a.p.now a.d (omega arith))
