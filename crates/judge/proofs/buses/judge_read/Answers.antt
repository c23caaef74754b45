-- The record is compared with the one that the writer writes of the answer and of the bytes that were copied.
use Rattle.std.proofs.Common.{rules}
use Rattle.judge.proofs.BusLaws.{judged-read}
use Rattle.judge.proofs.buses.judge_read.Goals as goal

pub returns : goal.returns
returns c = judged-read _ _ _ _ _ _ _ _ _ _ c.read_here-v.ensures.short (search rules) c.read_here-v.ensures.meets c.matches.ensures
