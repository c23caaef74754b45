-- A word that is full of entries counts by its ones, and of the next one the bits of the entries left.
use Rattle.std.proofs.Common.{◌≡◌, ◌∙◌, ◌+◌, ◌*◌, ◌/◌, ℕ, refl, ap, arith}
use Rattle.pools.specs.Bits.{WORD-BITS, free}
use Rattle.pools.specs.Pool.{count}
use Rattle.pools.proofs.PoolLaws.{count-le}
use Rattle.pools.proofs.WordLaws.{count_left, count-whole}
use Rattle.pools.proofs.bits.count_free.Goals as goal

pub loop-k-init : goal.loop-k-init
unfolding count
loop-k-init c = refl

pub loop-k-preserved : goal.loop-k-preserved
loop-k-preserved c = omega (arith, count-whole c.args.w.now c.loop-k.k c.word.result c.word.ensures (omega arith))

pub overflow_add-c : goal.overflow_add-c
overflow_add-c c =
    let w = c.args.w.now in
    let k = c.loop-k.k in
    omega (arith, count-whole w k c.word.result c.word.ensures (omega arith), count-le (free w) ((k + 1) * WORD-BITS))

pub returns : goal.returns
returns c =
    let s = c.args in
    let l = c.loop-k in
    let x = c.word-2 in
    let all : l.k ≡ s.n / WORD-BITS = omega arith in
    let whole = l.invariant ∙ ap (λ (k : ℕ). count (free s.w.now) (k * WORD-BITS)) all in
    let left = count_left s.w.now (s.n / WORD-BITS) x.result x.ensures s.n refl in
    omega (arith, whole, left, c.count_set.ensures)

pub overflow_add-result : goal.overflow_add-result
overflow_add-result c = omega (arith, returns c, count-le (free c.args.w.now) c.args.n)
