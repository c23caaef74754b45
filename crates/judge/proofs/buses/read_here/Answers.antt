-- The front of the copy is lent, of 252 bytes or of the room where that is less; the call answers as to a slice of the room.
use Rattle.std.proofs.Common.{rules}
use Rattle.judge.proofs.BusLaws.{read-lent}
use Rattle.judge.proofs.buses.read_here.Goals as goal

pub returns : goal.returns
returns c =
    let (meets, short) = read-lent _ c.args.room c.min-n.result _ _ _ _ _ _ _ (search rules) c.requires c.fg_read.ensures.meets c.fg_read.ensures.onto in
    record { meets = meets; short = short }
