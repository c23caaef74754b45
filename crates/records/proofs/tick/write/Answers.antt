-- Both answers are cases of a writer's promise.
use Rattle.std.proofs.Common.{arith}
use Rattle.records.specs.Records.{tick_in}
use Rattle.records.proofs.RecordLaws.{tick_long, wrote_none, wrote_all}
use Rattle.records.proofs.tick.write.Goals as goal

pub returns-then-out-WIDTH : goal.returns-then-out-WIDTH
returns-then-out-WIDTH g c =
    let a = c.args in
    let e = g.I.Id.edition in
    let id = g.I.Id.number a.id in
    wrote_none (tick_in e id) a.out.now (omega (arith, c.WIDTH.ensures, g.met.I.Id.width_stated, tick_long e id))

pub returns : goal.returns
returns g c =
    let a = c.args in
    let e = g.I.Id.edition in
    let id = g.I.Id.number a.id in
    wrote_all (tick_in e id) a.out.now _ (omega (arith, c.WIDTH.ensures, g.met.I.Id.width_stated, tick_long e id)) c.put.ensures
