-- Each turn puts one number, and the last leaves all of them.
use Rattle.std.proofs.Common.{arith, take_all}
use Rattle.trace.proofs.NumberLaws.{words-turn}
use Rattle.trace.proofs.numbers.put_words.Goals as goal

pub loop-i-preserved : goal.loop-i-preserved
loop-i-preserved c =
    let a = c.args in
    let l = c.loop-i in
    words-turn a.s.now _ _ a.at l.i a.ns.now (omega arith) l.invariant c.store64.ensures

pub returns : goal.returns
returns c =
    let l = c.loop-i in
    let e = take_all l.i c.args.ns.now (omega arith) in
    rw e at l.invariant
