-- What came lies in the buffer.
use Rattle.std.proofs.Common.{length, ◌-◌, ◌≡◌, ◌≤◌, take}
use Rattle.replay.specs.Said.{ReadsOn}
use Rattle.replay.proofs.read_more.Given as goal

abbrev pub invariant-loop-end : goal.invariant-loop-end
invariant-loop-end g l = record {
  low : l.have ≤ l.end;
  high : l.end ≤ length l.buf;
  hand : take l.have l.buf ≡ take l.have l.initial.buf;
  bytes : ReadsOn (g.R.Read.remaining l.initial.input) (g.R.Read.remaining l.input) (take l.have l.initial.buf) (take l.end l.buf);
}

abbrev pub decreases-loop-end : goal.decreases-loop-end
decreases-loop-end g l = length l.initial.buf - l.end
