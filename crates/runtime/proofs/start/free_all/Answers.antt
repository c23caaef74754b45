-- `runtime::start::free_all` meets its contract: one store after the other.
use mathlib.Core.Path.{◌≡◌, refl}
use native.Mathlib.Omega.{arith}
use native.Mathlib.Numerals.{add-one}
use Rattle.rules.specs.Host.{freed}
use Rattle.runtime.proofs.start.free_all.Goals as goal

pub loop-j-init : goal.loop-j-init
loop-j-init c = record { is = refl; room = c.requires.0 }

pub loop-j-preserved : goal.loop-j-preserved
loop-j-preserved c =
    let l = c.loop-j in
    record { is = rw (add-one l.j, c.put.ensures.is, l.invariant.is, c.ones_at.ensures); room = c.put.ensures.room }

pub returns : goal.returns
unfolding freed
returns c =
    let e : c.loop-j.j ≡ 4 = omega arith in
    rw e at c.loop-j.invariant
