-- `every_in` is `arm_in`, whose number is good only if it is in range.
use mathlib.Core.Path.{sym, ◌∙◌}
use Rattle.rules.proofs.Kept.Ties.{interval_taken}
use Rattle.calls.proofs.timers.every_in.Goals as goal

pub arm_in-requires : goal.arm_in-requires
arm_in-requires c =
    (c.requires, λ h. (interval_taken c.args.interval (sym c.bad_interval.ensures ∙ h)).1)

pub returns : goal.returns
returns c =
    rw c.bad_interval.ensures at c.arm_in.ensures
