-- `tables::free::take_bit` meets its contract.
use native.Mathlib.Omega.{arith}
use mathlib.Core.Path.{refl}
use Rattle.pools.specs.Bits.{taken}
use Rattle.pools.proofs.FreeLaws.{length_taken}
use Rattle.tables.specs.Action.{take_bit}
use Rattle.tables.proofs.ViewLaws.{column-left}
use Rattle.tables.proofs.free.take_bit.Goals as goal

pub returns : goal.returns
unfolding take_bit
returns c =
    let a = c.args in
    let o = c.words_of in
    rw c.take.ensures
    (column-left a.k a.t.now a.p.now c.requires.0 a.c o.result.start _ o.result.end c.requires.1 o.ensures.0 (omega arith) (λ l. taken l a.e) (λ l. length_taken l a.e) refl)
