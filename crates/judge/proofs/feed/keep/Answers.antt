-- What is copied to the front is what lay behind it.
use Rattle.std.proofs.Common.{◌-◌, ◌∙◌, ap, take, drop, arith, length-drop, length-take-le}
use Rattle.std.proofs.Math.Seq.{take_at}
use Rattle.std.proofs.lemmas.Slice.{between_is}
use Rattle.judge.proofs.feed.keep.Goals as goal

pub returns-clause-moved : goal.returns-clause-moved
returns-clause-moved c =
    let a = c.args in
    let n = a.to - a.from in
    let d = length-drop a.from a.buf.now in
    let l = length-take-le n (drop a.from a.buf.now) (omega arith) in
    ap (take n) c.copy_within.ensures.after ∙ take_at (take n (drop a.from a.buf.now)) _ n l ∙ between_is a.buf.now a.from a.to
