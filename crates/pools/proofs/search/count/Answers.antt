-- One number more counts where the test holds of it.
use Rattle.std.proofs.Common.{ap, refl, arith}
use mir.Val.{bool_byte}
use Rattle.pools.specs.Pool.{count}
use Rattle.pools.proofs.BoolLaws.{flag≤}
use Rattle.pools.proofs.PoolLaws.{count_next}
use Rattle.pools.proofs.search.count.Goals as goal

pub loop-i-init : goal.loop-i-init
unfolding count
loop-i-init g c = (omega arith, λ p h. refl)

pub loop-i-preserved : goal.loop-i-preserved
loop-i-preserved g c = (
  omega (arith, flag≤ c.passes.result),
  λ p h. omega (arith, count_next p c.loop-i.i, c.loop-i.invariant.1 p h, ap bool_byte (h c.loop-i.i _ (omega arith) c.passes.ensures)),
)
