-- The record fills its fourteen bytes, and goes as any message.
use mathlib.Core.Path.{◌≡◌}
use Rattle.records.specs.Bytes.{le}
use Rattle.records.specs.Records.{exit_bytes}
use Rattle.endings.proofs.notices.Leaver.send.Goals as goal

pub returns : goal.returns
unfolding le exit_bytes
returns c = let a = c.args in
    let q = c.put_exit in
    let e : q.new.s ≡ exit_bytes a.self.id a.self.reason a.monitor = q.ensures in
    rw (c.pack.ensures, e) at c.post.ensures
