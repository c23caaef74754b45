-- `sound::zeros::both_ends` meets its contract.
use native.Mathlib.Omega.{arith}
use Prim.Native.Nat.{◌+◌, ◌-◌, ◌*◌}
use mathlib.Core.Path.{◌≡◌, ◌∙◌}
use Rattle.rules.proofs.Kept.Rules.{and_same}
use Rattle.tables.specs.Limits.{ENTRY-BYTES}
use Rattle.sound.proofs.JoinLaws.{or-test}
use Rattle.sound.proofs.ZeroLaws.{zeros_meet}
use Rattle.sound.proofs.zeros.both_ends.Goals as goal

pub returns : goal.returns
returns c =
    let a = c.args in
    let e : a.from + (ENTRY-BYTES - 8 * a.n) ≡ a.from + a.s + (ENTRY-BYTES - a.s - 8 * a.n) = omega (arith, c.requires.1) in
    or-test c.joined-first.result c.joined-last.result
    ∙ and_same c.joined-first.ensures (rw e at c.joined-last.ensures)
    ∙ zeros_meet a.p.now (a.from + a.s) (ENTRY-BYTES - a.s) (8 * a.n) (omega (arith, c.requires.1)) (omega (arith, c.requires.2))
