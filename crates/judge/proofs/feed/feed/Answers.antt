-- Each turn judges one record, and the loop ends at a wrong one or where no whole one is left.
use Rattle.std.proofs.Common.{rules}
use Rattle.judge.proofs.FeedLaws.{reached_end, reached_first, reached_next, reached_none, reached_part, reached_wrong}
use Rattle.judge.proofs.feed.feed.Goals as goal

pub loop-used-init : goal.loop-used-init
loop-used-init c = reached_first _ _ _ _ c.requires.0

pub returns-then-bytes-end : goal.returns-then-bytes-end
returns-then-bytes-end c =
    let e = c.load16.ensures in
    record { going = reached_end c.loop-used.invariant (reached_part c.loop-used.invariant (rw (← e) c.if-bytes-end.true)); stopped = tt }

pub returns-then-not-fg_replay : goal.returns-then-not-fg_replay
returns-then-not-fg_replay c =
    let e = c.load16.ensures in
    record { going = tt; stopped = reached_wrong c.loop-used.invariant _ (rw e) c.if-bytes-end.false _ _ _ c.fg_replay.ensures c.if-not-fg_replay.true }

pub loop-used-preserved : goal.loop-used-preserved
loop-used-preserved c =
    let e = c.load16.ensures in
    reached_next c.loop-used.invariant _ (rw e) c.if-bytes-end.false _ _ _ c.fg_replay.ensures c.if-not-fg_replay.false (search rules) (search rules)

pub returns-after-loop-used : goal.returns-after-loop-used
returns-after-loop-used c = record { going = reached_end c.loop-used.invariant (reached_none c.loop-used.invariant c.loop-used-test.false); stopped = tt }
