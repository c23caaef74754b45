-- `sound::buses::row_ok` meets its contract.
use mathlib.Core.Path.{sym, ◌∙◌}
use lib.ListN.{get_or}
use Rattle.rules.specs.Rule.{each}
use Rattle.rules.proofs.Kept.Rules.{reads}
use Rattle.tables.specs.Limits.{MOST-SEATS}
use Rattle.sound.specs.Buses.{sitter_in}
use Rattle.sound.proofs.BusLaws.{before-next, row_empty, row_below}
use Rattle.sound.proofs.buses.row_ok.Goals as goal

pub returns-then-zero_from : goal.returns-then-zero_from
returns-then-zero_from c =
    let a = c.args in
    (row_empty a.row.now a.limit a.seats.now (sym c.if-zero_from.true ∙ c.zero_from.ensures), before-next a.stamp a.stamps.now c.requires.1)

pub none_twice-requires : goal.none_twice-requires
none_twice-requires c =
    let a = c.args in
    let sits = (reads (each MOST-SEATS (λ n. sitter_in a.row.now a.limit (get_or a.seats.now n 0) n))).0 (sym c.sitters_ok.ensures ∙ c.if-sitters_ok.true) in
    (c.requires.2, row_below a.row.now a.limit a.seats.now c.requires.0 sits, c.requires.1)
