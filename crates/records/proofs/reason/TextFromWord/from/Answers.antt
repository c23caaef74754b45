-- Each arm has the letters of its word, and zeros past them.
use mathlib.Core.Path.{refl}
use Rattle.records.proofs.reason.TextFromWord.from.Goals as goal
use Rattle.records.proofs.reason.TextFromWord.from.Goals.{in-App, in-Normal, in-Crash, in-Killed, in-Overflow}

pub returns : goal.returns
returns c = elim c.match-word.branch [
  | in-App w ↦ rw (w.bytes-is, c.name.ensures, w.in-App.is) refl
  | in-Normal w ↦ rw (w.bytes-is, c.name.ensures, w.in-Normal.is) refl
  | in-Crash w ↦ rw (w.bytes-is, c.name.ensures, w.in-Crash.is) refl
  | in-Killed w ↦ rw (w.bytes-is, c.name.ensures, w.in-Killed.is) refl
  | in-Overflow w ↦ rw (w.bytes-is, c.name.ensures, w.in-Overflow.is) refl
]
