-- The bench stays as it is to be between two pieces, what was read lies in the buffer, and what is known of the input goes on.
use Rattle.std.proofs.Common.{◌≡◌, ◌<◌, ◌≤◌, true, length, take}
use Rattle.judge.specs.Feeding.{Bench, unfinished}
use Rattle.judge.specs.Replayed.{is_first}
use Rattle.replay.proofs.TellLaws.{FollowsOn}
use Rattle.replay.proofs.run.Given as goal

abbrev pub invariant-loop-piece : goal.invariant-loop-piece
invariant-loop-piece g l = record {
  bench : Bench (is_first l.n) l.t l.p;
  within : l.have ≤ length l.buf;
  short : l.have < 65538;
  silent : l.out ≡ l.initial.out;
  part : unfinished (take l.have l.buf) ≡ true;
  follows : FollowsOn (g.R.Read.remaining l.initial.input) (g.R.Read.remaining l.input) l.n l._piece l.t l.p (take l.have l.buf);
}
