-- Six counts.
use mathlib.Core.Path.{refl}
use Rattle.rules.specs.Calls.{ruled}
use Rattle.calls.proofs.running.report_in.Goals as goal

pub returns : goal.returns
unfolding ruled
returns c =
    (rw (c.count_slots-3.ensures, c.count_slots-2.ensures, c.count_unused.ensures, c.count_bits-2.ensures, c.count_bits.ensures, c.count_slots.ensures), record { is = refl; room = c.requires.room })
