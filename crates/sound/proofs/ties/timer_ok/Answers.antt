-- `sound::ties::timer_ok` meets its contract.
use Rattle.sound.proofs.TieLaws.{timer_none}
use Rattle.sound.proofs.ties.timer_ok.Goals as goal

pub returns-then-owner-eq0 : goal.returns-then-owner-eq0
returns-then-owner-eq0 c = let a = c.args in timer_none a.row.now a.owner a.age a.due a.interval c.if-owner-eq0.true
