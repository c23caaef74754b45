-- `sound::lists::zero_from` meets its contract.
use Rattle.std.proofs.Common.{rules, ◌≡◌, take, drop, bit_or, ◌-◌}
use Rattle.std.proofs.iter.runs.Made.{chains}
use Rattle.std.specs.Prelude.{fold}
use Rattle.sound.proofs.EachLaws.{or_of_words}
use Rattle.sound.proofs.lists.zero_from.Goals as goal

pub returns : goal.returns
returns c =
    let a = c.args in
    let e : c.fold.result ≡ fold bit_or 0 (take (a.n - a.m) (drop a.m a.s.now)) = search (rules, chains) in
    rw e (or_of_words a.s.now a.m a.n c.requires.0 c.requires.1)
