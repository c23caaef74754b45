-- `sound::buses::sitters_ok` meets its contract.
use lib.Dec.{eqb}
use lib.ListN.{get_or}
use Rattle.rules.proofs.Kept.Rules.{all_more, all_none, and_same}
use Rattle.sound.proofs.JoinLaws.{twice}
use Rattle.sound.proofs.buses.sitters_ok.Goals as goal

pub loop-n-init : goal.loop-n-init
loop-n-init c = rw all_none

pub loop-n-preserved : goal.loop-n-preserved
loop-n-preserved c =
    let l = c.loop-n in rw all_more (and_same l.invariant (rw (twice (eqb (get_or c.args.seats.now l.n 0) 0), c.lives.ensures)))
