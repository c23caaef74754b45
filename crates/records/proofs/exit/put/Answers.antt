-- The frame and then the three fields.
use Rattle.std.proofs.Common.{◌∙◌, sym, ◌+◌, ◌*◌, arith}
use Rattle.records.proofs.RecordLaws.{exit_stored}
use Rattle.records.proofs.exit.put.Goals as goal

pub returns : goal.returns
returns g c =
    let a = c.args in
    let e = g.I.Id.edition in
    let law = g.met.I.Id in
    let size = 4 + 2 * c.WIDTH-2.result in
    let there = a.at + 4 + c.WIDTH.result in
    exit_stored e size c.EXIT.result a.at there (g.I.Id.number a.exit.actor) a.exit.reason (g.I.Id.number a.exit.monitor) a.s.now
    (omega (arith, c.WIDTH-2.ensures, law.width_stated)) (c.EXIT.ensures ∙ sym law.exit_stated) (omega (arith, c.WIDTH.ensures, law.width_stated))
    c.put_frame.ensures c.store.ensures c.store16.ensures c.store-2.ensures
