-- `sound::buses::buses` meets its contract.
use mathlib.Core.Path.{sym, ◌∙◌}
use Rattle.rules.specs.Rule.{each}
use Rattle.rules.specs.Sound.{bus_rule}
use Rattle.rules.proofs.Kept.Rules.{reads}
use Rattle.tables.specs.Limits.{MOST-BUSES}
use Rattle.tables.specs.State.{view}
use Rattle.sound.proofs.buses.buses.Goals as goal

pub rows-requires : goal.rows-requires
rows-requires c =
    let a = c.args in
    (c.requires.0, (c.requires.1.0, c.requires.1.1, (reads (each MOST-BUSES (λ b. bus_rule (view a.k a.t.now a.p.now) b))).0 (sym c.made.ensures ∙ c.if-made.true)))
