-- `sound::entries::rests` meets its contract.
use mathlib.Core.Path.{◌∙◌}
use Rattle.sound.proofs.SlotLaws.{or-four}
use Rattle.sound.proofs.entries.rests.Goals as goal

pub returns : goal.returns
returns c = or-four c.get-sender.result c.get-class.result c.get-tag.result c.get-deadline.result ∙ (cc)
