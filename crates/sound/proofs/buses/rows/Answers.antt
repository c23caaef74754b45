-- `sound::buses::rows` meets its contract.
use native.Mathlib.Omega.{arith}
use mathlib.Core.Path.{◌∙◌}
use lib.Dec.{lit<}
use Rattle.rules.proofs.Kept.Rules.{and_same}
use Rattle.tables.specs.Columns.{BUS-SEATS, SEAT, STATE}
use Rattle.tables.specs.State.{view}
use Rattle.tables.proofs.ViewLaws.{view-full}
use Rattle.sound.proofs.BusLaws.{rows-parts}
use Rattle.sound.proofs.StandingLaws.{spans}
use Rattle.sound.proofs.buses.rows.Goals as goal

pub invariant_of-made : goal.invariant_of-made
invariant_of-made c =
    let a = c.args in
    let v = view-full a.k a.t.now a.p.now c.requires.0.words in
    record {
      long =
          (omega (arith, c.get-n.ensures, c.requires.1.1.1.1.1), rw c.column-seats.ensures (omega (arith, v SEAT (lit< tt))), rw c.column-limits.ensures (omega (arith, c.get-n.ensures, c.requires.1.1.1.1.1, v BUS-SEATS (lit< tt))));
    }

pub rows_ok-seated-requires : goal.rows_ok-seated-requires
rows_ok-seated-requires c =
    let a = c.args in
    (spans c.requires.1.0 (omega (arith, view-full a.k a.t.now a.p.now c.requires.0.words STATE (lit< tt))), c.requires.0.caps.few_actors)

pub returns : goal.returns
returns c =
    let g = c.get-n in
    let a = c.args in
    and_same (rw (c.column-limits.ensures, c.column-seats.ensures) at c.rows_ok-seated.ensures) (rw c.column-seats.ensures at c.zero_from-rest.ensures)
    ∙ rows-parts (view a.k a.t.now a.p.now) c.requires.1.0 g.result g.ensures (omega (arith, g.ensures, c.requires.1.1.1.1.1)) c.requires.1.2
