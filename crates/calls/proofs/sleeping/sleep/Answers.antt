-- The times fit, and the two that are compared are the rule's.
use mathlib.Core.Path.{◌∙◌}
use native.Mathlib.Omega.{arith}
use mir.Syntax.{w64}
use mir.ValLaws.{to_z-of_z}
use Prim.Native.Nat.{◌-◌}
use Rattle.tables.specs.Columns.{DEADLINE, DUE, TIMER-OWNER}
use Rattle.tables.specs.Limits.{ALWAYS}
use Rattle.tables.specs.State.{at, head, view}
use Rattle.tables.specs.Columns.{CLOCK}
use Rattle.rules.specs.Actions.{earliest}
use Rattle.rules.specs.Calls.{sleep}
use Rattle.rules.proofs.Kept.Ready.{good_ready}
use Rattle.rules.proofs.Kept.Clauses.{deadline_fits, due-fits}
use Rattle.calls.proofs.WaitLaws.{soon_fits, soon_sleeps}
use Rattle.calls.proofs.sleeping.sleep.Goals as goal

pub sleep_until-requires-clause-due : goal.sleep_until-requires-clause-due
sleep_until-requires-clause-due c =
    let a = c.args in
    let g = good_ready a.k a.t.now a.p.now c.requires in
    let s = view a.k a.t.now a.p.now in
    rw c.soonest-due.ensures (soon_fits _ _ _ (omega (arith, due-fits g (earliest s TIMER-OWNER DUE ALWAYS a.k.timers - 1))))

pub sleep_until-requires-clause-deadline : goal.sleep_until-requires-clause-deadline
sleep_until-requires-clause-deadline c =
    let a = c.args in
    let g = good_ready a.k a.t.now a.p.now c.requires in
    let s = view a.k a.t.now a.p.now in
    rw c.soonest-deadline.ensures (soon_fits _ _ _ (omega (arith, deadline_fits g (earliest s DEADLINE DEADLINE ALWAYS a.k.actors - 1))))

pub returns : goal.returns
unfolding sleep
returns c =
    let a = c.args in
    let s = view a.k a.t.now a.p.now in
    let i = earliest s TIMER-OWNER DUE ALWAYS a.k.timers in
    let j = earliest s DEADLINE DEADLINE ALWAYS a.k.actors in
    to_z-of_z w64 c.sleep_until.result (record { sfits = c.sleep_until.type_inv })
    ∙ rw (c.sleep_until.ensures, c.get-clock.ensures, c.soonest-due.ensures, c.soonest-deadline.ensures) (soon_sleeps (head s CLOCK) i (at s DUE (i - 1)) j (at s DEADLINE (j - 1)))
