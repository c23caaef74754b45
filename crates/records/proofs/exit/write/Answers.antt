-- Both answers are cases of a writer's promise.
use Rattle.std.proofs.Common.{arith}
use Rattle.records.specs.Records.{exit_in}
use Rattle.records.proofs.RecordLaws.{exit_long, wrote_none, wrote_all}
use Rattle.records.proofs.exit.write.Goals as goal

pub returns-then-out-WIDTH : goal.returns-then-out-WIDTH
returns-then-out-WIDTH g c =
    let a = c.args in
    let e = g.I.Id.edition in
    let actor = g.I.Id.number a.exit.actor in
    let monitor = g.I.Id.number a.exit.monitor in
    let long = exit_long e actor a.exit.reason monitor in
    wrote_none (exit_in e actor a.exit.reason monitor) a.out.now (omega (arith, c.WIDTH.ensures, g.met.I.Id.width_stated, long))

pub returns : goal.returns
returns g c =
    let a = c.args in
    let e = g.I.Id.edition in
    let actor = g.I.Id.number a.exit.actor in
    let monitor = g.I.Id.number a.exit.monitor in
    let long = exit_long e actor a.exit.reason monitor in
    wrote_all (exit_in e actor a.exit.reason monitor) a.out.now _ (omega (arith, c.WIDTH.ensures, g.met.I.Id.width_stated, long)) c.put.ensures
