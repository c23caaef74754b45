-- The best is that of the entries below i.
use borrow.Author.Tests.{lt-ltb}
use Rattle.actions.proofs.TimeLaws.{noted_none, noted_first, noted_stays, noted_unused, noted_late}
use Rattle.actions.proofs.times.earliest_in.Goals as goal
use Rattle.actions.proofs.times.earliest_in.Goals.{then-used-i-ne0+then-time-i+in-Some, then-used-i-ne0+then-time-i+in_default-2, then-used-i-ne0+then-time-i+in_default, else-used-i-ne0, else-used-i-ne0-via-then-used-i-ne0+else-time-i, else-used-i-ne0-via-else-used-i-ne0}

pub loop-i-init : goal.loop-i-init
loop-i-init c = noted_none _ _ _

pub loop-i-preserved : goal.loop-i-preserved
loop-i-preserved c =
    let h = c.loop-i.invariant in
    elim c.if-used-i-ne0.branch [
      | then-used-i-ne0+then-time-i+in-Some w ↦ rw w.best-is (noted_stays h _ w.in-Some.is w.if-time-b.true)
      | then-used-i-ne0+then-time-i+in_default-2 w ↦ rw w.best-is (noted_first h w.if-used-i-ne0.true w.if-time-i.true (rw w.in-Some.is (lt-ltb _ _ w.if-time-b.false)))
      | then-used-i-ne0+then-time-i+in_default w ↦ rw w.best-is (noted_first h w.if-used-i-ne0.true w.if-time-i.true (rw w.in_default.is))
      | else-used-i-ne0 w ↦ elim w.else-used-i-ne0.branch [
        | else-used-i-ne0-via-then-used-i-ne0+else-time-i v ↦ rw w.best-is (noted_late h v.if-time-i.false)
        | else-used-i-ne0-via-else-used-i-ne0 v ↦ rw w.best-is (noted_unused h v.if-used-i-ne0.false)
      ]
    ]
