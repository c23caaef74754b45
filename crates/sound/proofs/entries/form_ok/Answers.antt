-- `sound::entries::form_ok` meets its contract.
use Rattle.sound.proofs.SlotLaws.{form-free}
use Rattle.sound.proofs.entries.form_ok.Goals as goal

pub returns-then-state-eq-FREE : goal.returns-then-state-eq-FREE
returns-then-state-eq-FREE c = let a = c.args in form-free a.datas a.state a.priority a.reason a.age a.hand c.if-state-eq-FREE.true
