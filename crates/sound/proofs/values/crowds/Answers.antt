-- `sound::values::crowds` meets its contract.
use Rattle.std.proofs.Common.{rules, length, ◌≤◌}
use Rattle.std.proofs.lemmas.Iterator.{serves_from_Range}
use native.Mathlib.Omega.{arith}
use mathlib.Core.Path.{◌≡◌, ◌∙◌}
use lib.Dec.{leb, lit<}
use lib.ListN.{get_or}
use Rattle.rules.specs.Rule.{each, le, test}
use Rattle.tables.specs.Columns.{BUS-SIZE, VALUE-BUS}
use Rattle.tables.specs.Limits.{MOST-BUSES}
use Rattle.tables.specs.State.{view}
use Rattle.tables.proofs.ViewLaws.{view-full}
use Rattle.sound.proofs.EachLaws.{all_below}
use Rattle.sound.proofs.ValueLaws.{crowds-same}
use Rattle.sound.proofs.values.crowds.Goals as goal

pub tally-requires : goal.tally-requires
tally-requires c =
    let a = c.args in
    (rw c.column.ensures (omega (arith, view-full a.k a.t.now a.p.now c.requires.words VALUE-BUS (lit< tt), c.requires.caps.few_datas)), search rules)

pub all-requires-clause-callable : goal.all-requires-clause-callable
all-requires-clause-callable c =
    let a = c.args in
    let counts = c.tally.ensures.long in
    let sizes : MOST-BUSES ≤ length c.column-sizes.result.now = rw c.column-sizes.ensures (omega (arith, view-full a.k a.t.now a.p.now c.requires.words BUS-SIZE (lit< tt))) in
    serves_from_Range (λ x q k. search rules) (λ x l m. search rules)

pub returns : goal.returns
returns c =
    let a = c.args in
    let counts = c.tally.new.counts in
    let sizes = c.column-sizes.result.now in
    let told : c.all.result ≡ test (each MOST-BUSES (λ b. le (get_or counts b 0) (get_or sizes b 0))) =
    all_below (λ b. leb (get_or counts b 0) (get_or sizes b 0)) MOST-BUSES c.all.ensures.ran (λ x q k. search rules) (λ x q k. search rules) in
    (rw c.column-sizes.ensures at told) ∙ crowds-same (view a.k a.t.now a.p.now) (rw c.column.ensures at c.tally.ensures)
