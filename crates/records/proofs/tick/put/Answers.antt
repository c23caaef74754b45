-- The frame and then the id.
use Rattle.std.proofs.Common.{◌≡◌, ◌∙◌, sym}
use Rattle.records.specs.Bytes.{le}
use Rattle.records.proofs.ByteLaws.{length-le}
use Rattle.records.proofs.RecordLaws.{framed_stored}
use Rattle.records.proofs.tick.put.Goals as goal

pub returns : goal.returns
returns g c =
    let a = c.args in
    let e = g.I.Id.edition in
    let id = g.I.Id.number a.id in
    let law = g.met.I.Id in
    let w : e.width ≡ c.WIDTH.result = law.width_stated ∙ sym c.WIDTH.ensures in
    let k : e.tick ≡ c.TICK.result = law.tick_stated ∙ sym c.TICK.ensures in
    framed_stored e.tick (le e.width id) e.width a.at a.s.now (length-le e.width id) (rw (w, k) c.put_frame.ensures) c.store.ensures
