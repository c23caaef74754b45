-- The first number of which the test holds is the lowest that passes.
use Rattle.std.proofs.Common.{◌∙◌, sym, arith}
use Rattle.pools.proofs.PoolLaws.{lowest-found, lowest_none}
use Rattle.pools.proofs.search.lowest.Goals as goal

pub returns-then-passes : goal.returns-then-passes
returns-then-passes g c p h =
    let l = c.loop-i in
    sym (lowest-found p l.i _ (omega arith) (sym (h l.i _ (omega arith) c.passes.ensures) ∙ c.if-passes.true)
    (λ j k. sym (h j _ (omega arith) (l.invariant j k))))

pub returns : goal.returns
returns g c p h = sym (lowest_none p _ (λ j l. sym (h j _ l (c.loop-i.invariant j (omega arith)))))
