-- `sound::marks::once_ok` meets its contract.
use native.Mathlib.Omega.{arith}
use Rattle.sound.proofs.MarkLaws.{queue-below, states_long, once-told}
use Rattle.sound.proofs.marks.once_ok.Goals as goal

pub resting-seen-requires : goal.resting-seen-requires
resting-seen-requires c =
    (states_long c.args.k c.args.t.now c.args.p.now c.requires.0 c.requires.1 c.column.ensures, omega (arith, c.requires.0.caps.few_actors))

pub mark_each-once-requires : goal.mark_each-once-requires
mark_each-once-requires c =
    let b = queue-below c.args.k c.args.t.now c.args.p.now c.requires.0 c.requires.1 c.get-n.ensures c.column-2.ensures in
    (b.0, λ i l. omega (arith, b.1 i l, c.requires.0.caps.few_actors))

pub returns : goal.returns
returns c =
    once-told c.args.k c.args.t.now c.args.p.now c.requires.0 c.requires.1 c.get-n.ensures c.column-2.ensures c.column.ensures c.resting-seen.ensures c.mark_each-once.ensures c.all-all.ensures
