-- `runtime::start::fg_start` meets its contract.
use Rattle.rules.proofs.Stories.Host.{start_room, started_no, started_yes}
use Rattle.runtime.proofs.start.fg_start.Goals as goal

pub begin-requires : goal.begin-requires
begin-requires c = start_room _ _ _ c.suffices.ensures c.if-not-suffices.false

pub returns-then-not-suffices : goal.returns-then-not-suffices
returns-then-not-suffices c = rw c.into.ensures (started_no _ _ _ c.suffices.ensures c.if-not-suffices.true)

pub returns : goal.returns
returns c = started_yes _ _ _ c.suffices.ensures c.if-not-suffices.false c.begin.ensures
