-- `sound::sized` meets its contract.
use Rattle.rules.proofs.Kept.Sound.{size-test}
use Rattle.sound.proofs.sized.Goals as goal

pub returns : goal.returns
returns c = rw (size-test, c.bytes_needed-bytes.ensures, c.words_needed-words.ensures)
