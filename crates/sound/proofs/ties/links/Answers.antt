-- `sound::ties::links` meets its contract.
use native.Mathlib.Omega.{arith}
use mathlib.Core.Path.{◌∙◌}
use lib.Dec.{lit<}
use Rattle.sound.proofs.StandingLaws.{spans}
use Rattle.sound.proofs.TieLaws.{links-same}
use Rattle.tables.specs.Columns.{LINK-ONE, LINK-TWO, STATE}
use Rattle.tables.specs.State.{view}
use Rattle.tables.proofs.ViewLaws.{view-full}
use Rattle.sound.proofs.ties.links.Goals as goal

pub invariant_of-links : goal.invariant_of-links
invariant_of-links c =
    let a = c.args in
    let v = view-full a.k a.t.now a.p.now c.requires.0.words in
    record { long = (rw c.column.ensures (omega (arith, v LINK-ONE (lit< tt))), rw c.column-2.ensures (omega (arith, v LINK-TWO (lit< tt)))) }

pub links_ok-requires : goal.links_ok-requires
links_ok-requires c =
    let a = c.args in
    (spans c.requires.1 (omega (arith, view-full a.k a.t.now a.p.now c.requires.0.words STATE (lit< tt))), c.requires.0.caps.few_actors)

pub returns : goal.returns
returns c =
    let a = c.args in
    (rw (c.column-2.ensures, c.column.ensures) at c.links_ok.ensures)
    ∙ links-same (view a.k a.t.now a.p.now) c.requires.1 a.k.links
