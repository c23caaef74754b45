-- It has been read often enough, or not.
use mathlib.Core.Path.{sym, ◌∙◌}
use Rattle.tables.specs.State.{with_col, poke}
use Rattle.rules.specs.Buses.{read_off}
use Rattle.actions.proofs.values.read_off.Goals as goal

pub retire-requires : goal.retire-requires
unfolding with_col poke
retire-requires c =
    let d = c.sign.ensures in
    (d.room, (rw d.is c.requires.1.1, rw d.is c.requires.1.2))

pub returns-then-read_out : goal.returns-then-read_out
unfolding read_off
returns-then-read_out c =
    let q = rw (c.sign.ensures.is, c.value_at-d.ensures) at (sym c.read_out.ensures ∙ c.if-read_out.true) in
    record { is = rw (c.retire.ensures.is, c.sign.ensures.is, c.value_at-d.ensures, q); room = c.retire.ensures.room }

pub returns-else-read_out : goal.returns-else-read_out
unfolding read_off
returns-else-read_out c =
    let q = rw (c.sign.ensures.is, c.value_at-d.ensures) at (sym c.read_out.ensures ∙ c.if-read_out.false) in
    record { is = rw (c.sign.ensures.is, c.value_at-d.ensures, q); room = c.sign.ensures.room }
