-- `sound::ties::Ends::links_ok` meets its contract.
use mathlib.Core.Path.{sym, ◌∙◌}
use Rattle.sound.proofs.TieLaws.{links-unused}
use Rattle.sound.proofs.ties.Ends.links_ok.Goals as goal

pub returns-then-zero_from : goal.returns-then-zero_from
returns-then-zero_from c =
    let m = c.args.self.now in
    c.zero_from-then-zero_from.ensures ∙ links-unused m.row.now m.one.now m.two.now m.n (sym c.zero_from.ensures ∙ c.if-zero_from.true)
