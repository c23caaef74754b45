-- `sound::marks::mark_both` meets its contract.
use native.Mathlib.Omega.{arith}
use Rattle.sound.proofs.MarkLaws.{both_none, both-more, both_end}
use Rattle.sound.proofs.marks.mark_both.Goals as goal

pub loop-i-init : goal.loop-i-init
loop-i-init c = let a = c.args in both_none a.arrivals.now a.entries.now a.seen.now.bits a.held.now.bits

pub loop-i-preserved : goal.loop-i-preserved
loop-i-preserved c =
    both-more c.args.arrivals.now c.args.entries.now (omega (arith, c.requires.0)) (omega (arith, c.requires.1)) c.loop-i.invariant c.mark-once.ensures c.mark_up-named.ensures

pub returns : goal.returns
returns c =
    let l = c.loop-i in
    let a = c.args in
    both_end a.arrivals.now a.entries.now l.i a.n l.invariant (omega arith)
