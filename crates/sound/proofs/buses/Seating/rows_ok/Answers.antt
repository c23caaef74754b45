-- `sound::buses::Seating::rows_ok` meets its contract.
use Rattle.rules.proofs.Kept.Rules.{all_none}
use Rattle.sound.proofs.buses.Seating.rows_ok.Goals as goal

pub returns-then-self-eq0 : goal.returns-then-self-eq0
returns-then-self-eq0 c = rw (c.if-self-eq0.true, all_none)
