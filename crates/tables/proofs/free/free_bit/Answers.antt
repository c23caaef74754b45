-- `tables::free::free_bit` meets its contract.
use native.Mathlib.Omega.{arith}
use mathlib.Core.Path.{refl}
use Rattle.pools.specs.Bits.{released}
use Rattle.pools.proofs.FreeLaws.{length-released}
use Rattle.tables.specs.Action.{free_bit}
use Rattle.tables.proofs.ViewLaws.{column-left}
use Rattle.tables.proofs.free.free_bit.Goals as goal

pub returns : goal.returns
unfolding free_bit
returns c =
    let a = c.args in
    let o = c.words_of in
    rw c.release.ensures
    (column-left a.k a.t.now a.p.now c.requires.0 a.c o.result.start _ o.result.end c.requires.1 o.ensures.0 (omega arith) (λ l. released l a.e) (λ l. length-released l a.e) refl)
