-- `judge::start::read_start` meets its contract: each of the eight numbers is read where it stands.
use Rattle.judge.proofs.start.read_start.Goals as goal

pub returns : goal.returns
returns c =
    rw (c.load64.ensures, c.load64-2.ensures, c.load64-3.ensures, c.load64-4.ensures, c.load64-5.ensures, c.load64-6.ensures, c.load64-7.ensures, c.load64-8.ensures)
