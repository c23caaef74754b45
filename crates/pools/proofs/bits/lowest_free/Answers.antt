-- The lowest bit of the first word that has one is the lowest free entry, if it is one of the n.
use Rattle.std.proofs.Common.{◌∙◌, sym, arith}
use Rattle.pools.specs.Bits.{free}
use Rattle.pools.proofs.PoolLaws.{lowest_min, lowest_none}
use Rattle.pools.proofs.WordLaws.{none_before, free-lowest}
use Rattle.pools.proofs.bits.lowest_free.Goals as goal

pub returns-then-b-lt-WORD_BITS : goal.returns-then-b-lt-WORD_BITS
returns-then-b-lt-WORD_BITS c =
    let w = c.args.w.now in
    let l = c.loop-k in
    let least = c.lowest_set-b in
    c.min.ensures ∙ sym (lowest_min (free w) _ c.args.n
    (free-lowest w l.k _ c.word.ensures least.result least.ensures c.if-b-lt-WORD_BITS.true)
    (none_before w l.k _ c.word.ensures least.result least.ensures l.invariant))

pub loop-k-preserved : goal.loop-k-preserved
loop-k-preserved c j q =
    let least = c.lowest_set-b in
    none_before c.args.w.now c.loop-k.k _ c.word.ensures least.result least.ensures c.loop-k.invariant j (omega arith)

pub returns-else-b-lt-WORD_BITS : goal.returns-else-b-lt-WORD_BITS
returns-else-b-lt-WORD_BITS c =
    let least = c.lowest_set-b in
    sym (lowest_none _ _ (λ j q. none_before c.args.w.now c.loop-k.k _ c.word.ensures least.result least.ensures c.loop-k.invariant j (omega arith)))
