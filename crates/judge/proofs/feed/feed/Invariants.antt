-- `judge::feed::feed` meets its contract: each turn judges one record, and the loop ends at a wrong one or where no whole one is left.
use Prim.Native.Nat.{◌-◌}
use lib.ListN.{length}
use Rattle.judge.proofs.FeedLaws.{Reached}
use Rattle.judge.proofs.feed.feed.Given as goal

abbrev pub invariant-loop-used : goal.invariant-loop-used
invariant-loop-used l = Reached l.n l.initial.t l.initial.p l.bytes l.t l.p l.count l.used

abbrev pub decreases-loop-used : goal.decreases-loop-used
decreases-loop-used l = length l.bytes - l.used
