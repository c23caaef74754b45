-- `runtime::start::state_caps` meets its contract: one store after the other.
use Rattle.rules.specs.Host.{stated}
use Rattle.runtime.proofs.start.state_caps.Goals as goal

pub returns : goal.returns
unfolding stated
returns c =
    let put6 = c.put-6.ensures in
    record {
      is = rw (put6.is, c.put-5.ensures.is, c.put-4.ensures.is, c.put-3.ensures.is, c.put-2.ensures.is, c.put.ensures.is);
      room = put6.room;
    }
