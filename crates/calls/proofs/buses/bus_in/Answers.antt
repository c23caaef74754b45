-- A setting is bad; there is no bus left; there is one.
use mathlib.Core.Path.{refl, sym, ◌∙◌}
use native.Mathlib.Omega.{arith}
use borrow.Author.Tests.{le-leb, lt-leb}
use Rattle.tables.specs.Columns.{BUSES}
use Rattle.tables.specs.Limits.{MOST-BUSES}
use Rattle.tables.specs.State.{head, view}
use Rattle.rules.specs.Calls.{ruled}
use Rattle.calls.proofs.buses.bus_in.Goals as goal

pub returns-then-are_bad : goal.returns-then-are_bad
unfolding ruled
returns-then-are_bad c =
    simp (sym c.are_bad.ensures ∙ c.if-are_bad.true) (refl, record { is = refl; room = c.requires.room })

pub returns-then-b : goal.returns-then-b
unfolding ruled
returns-then-b c =
    let a = c.args in
    let s = view a.k a.t.now a.p.now in
    simp (sym c.are_bad.ensures ∙ c.if-are_bad.false, le-leb MOST-BUSES (head s BUSES) (omega (arith, c.get-b.ensures, c.if-b.true))) (refl, record { is = refl; room = c.requires.room })

pub returns : goal.returns
unfolding ruled
returns c =
    let a = c.args in
    let s = view a.k a.t.now a.p.now in
    simp (sym c.are_bad.ensures ∙ c.if-are_bad.false, lt-leb MOST-BUSES (head s BUSES) (omega (arith, c.get-b.ensures, c.if-b.false))) (rw c.get-b.ensures, c.make_bus.ensures)
