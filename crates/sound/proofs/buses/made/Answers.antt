-- `sound::buses::made` meets its contract.
use Rattle.std.proofs.Common.{rules, length, ◌≤◌}
use Rattle.std.proofs.lemmas.Iterator.{serves_from_Range}
use native.Mathlib.Omega.{arith}
use mathlib.Core.Path.{◌≡◌, ◌∙◌}
use lib.Dec.{lit<}
use lib.ListN.{get_or}
use Rattle.rules.specs.Rule.{each, test}
use Rattle.rules.proofs.Kept.Rules.{and_same}
use Rattle.sound.specs.Buses.{settings_in}
use Rattle.sound.proofs.BusLaws.{bus-parts}
use Rattle.sound.proofs.EachLaws.{all_below}
use Rattle.tables.specs.Columns.{BUS-AGE, BUS-READS, BUS-SEATS, BUS-SIZE}
use Rattle.tables.specs.Limits.{MOST-BUSES}
use Rattle.tables.proofs.ViewLaws.{view-full}
use Rattle.sound.proofs.buses.made.Goals as goal

pub all-made-requires-clause-callable : goal.all-made-requires-clause-callable
all-made-requires-clause-callable c =
    let a = c.args in
    let v = view-full a.k a.t.now a.p.now c.requires.0.words in
    let few : c.get-n.result ≤ MOST-BUSES = omega (arith, c.get-n.ensures, c.requires.1.1.1.1) in
    let size : MOST-BUSES ≤ length c.column-sizes.result.now = rw c.column-sizes.ensures (omega (arith, v BUS-SIZE (lit< tt))) in
    let seats : MOST-BUSES ≤ length c.column-seats.result.now = rw c.column-seats.ensures (omega (arith, v BUS-SEATS (lit< tt))) in
    let reads : MOST-BUSES ≤ length c.column-reads.result.now = rw c.column-reads.ensures (omega (arith, v BUS-READS (lit< tt))) in
    let age : MOST-BUSES ≤ length c.column-ages.result.now = rw c.column-ages.ensures (omega (arith, v BUS-AGE (lit< tt))) in
    serves_from_Range (λ x q k. search rules) (λ x l m. search rules)

pub zero_from-no_size-requires : goal.zero_from-no_size-requires
zero_from-no_size-requires c =
    let a = c.args in
    (omega (arith, c.get-n.ensures, c.requires.1.1.1.1), rw c.column-sizes.ensures (omega (arith, view-full a.k a.t.now a.p.now c.requires.0.words BUS-SIZE (lit< tt))))

pub zero_from-no_seats-requires : goal.zero_from-no_seats-requires
zero_from-no_seats-requires c =
    let a = c.args in
    (omega (arith, c.get-n.ensures, c.requires.1.1.1.1), rw c.column-seats.ensures (omega (arith, view-full a.k a.t.now a.p.now c.requires.0.words BUS-SEATS (lit< tt))))

pub zero_from-no_reads-requires : goal.zero_from-no_reads-requires
zero_from-no_reads-requires c =
    let a = c.args in
    (omega (arith, c.get-n.ensures, c.requires.1.1.1.1), rw c.column-reads.ensures (omega (arith, view-full a.k a.t.now a.p.now c.requires.0.words BUS-READS (lit< tt))))

pub zero_from-no_age-requires : goal.zero_from-no_age-requires
zero_from-no_age-requires c =
    let a = c.args in
    (omega (arith, c.get-n.ensures, c.requires.1.1.1.1), rw c.column-ages.ensures (omega (arith, view-full a.k a.t.now a.p.now c.requires.0.words BUS-AGE (lit< tt))))

pub returns : goal.returns
returns c =
    let size = c.column-sizes.result.now in
    let seats = c.column-seats.result.now in
    let reads = c.column-reads.result.now in
    let age = c.column-ages.result.now in
    let n = c.get-n.result in
    let made : c.all-made.result ≡ test (each n (λ b. settings_in (get_or size b 0) (get_or seats b 0) (get_or reads b 0) (get_or age b 0))) =
    all_below (λ b. test (settings_in (get_or size b 0) (get_or seats b 0) (get_or reads b 0) (get_or age b 0))) n c.all-made.ensures.ran (λ x q k. search rules) (λ x q k. search rules) in
    and_same made (and_same (and_same c.zero_from-no_size.ensures c.zero_from-no_seats.ensures) (and_same c.zero_from-no_reads.ensures c.zero_from-no_age.ensures))
    ∙ bus-parts size seats reads age n (omega (arith, c.get-n.ensures, c.requires.1.1.1.1))
    ∙ rw (c.get-n.ensures, c.column-sizes.ensures, c.column-seats.ensures, c.column-reads.ensures, c.column-ages.ensures)
