-- `runtime::start::begin` meets its contract: one part after the other.
use Rattle.rules.specs.Host.{fresh}
use Rattle.runtime.proofs.start.begin.Goals as goal

pub returns : goal.returns
unfolding fresh
returns c =
    let last = c.free_all-2.ensures in
    record {
      is = rw (last.is, c.free_all.ensures.is, c.state_caps.ensures.is, c.clear.ensures.is);
      room = last.room;
    }
