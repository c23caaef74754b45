-- The record fills its eight bytes, and goes as any message.
use mathlib.Core.Path.{◌≡◌}
use Rattle.records.specs.Bytes.{le}
use Rattle.records.specs.Records.{tick_bytes}
use Rattle.endings.proofs.advance.send_tick.Goals as goal

pub returns : goal.returns
unfolding le tick_bytes
returns c = let q = c.put_tick in
    let e : q.new.s ≡ tick_bytes c.args.id = q.ensures in
    rw (c.pack.ensures, e) at c.post.ensures
