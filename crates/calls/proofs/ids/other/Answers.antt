-- Who runs has an id that fits.
use Rattle.calls.proofs.CallLaws.{runner_id-fits}
use Rattle.calls.proofs.ids.other.Goals as goal

pub actor_id-requires : goal.actor_id-requires
actor_id-requires c = runner_id-fits c.requires.0 c.requires.1
