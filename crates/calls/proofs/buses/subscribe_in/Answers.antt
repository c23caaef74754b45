-- The refusals in their order, and a seat.
use mathlib.Core.Bool.{not}
use mathlib.Core.Path.{ap, refl, sym, ◌∙◌}
use native.Mathlib.Omega.{arith}
use borrow.Author.Tests.{ltb-true}
use Rattle.std.proofs.lemmas.Result.{err_from_is_err_and}
use Rattle.tables.specs.Columns.{BUSES}
use Rattle.tables.specs.State.{head, view}
use Rattle.rules.specs.Calls.{ruled}
use Rattle.rules.proofs.Kept.Clauses.{buses-fit, seats-fit}
use Rattle.rules.proofs.Kept.Ready.{good_ready}
use Rattle.calls.proofs.CallLaws.{is_not, is_so, placed, runs, stops}
use Rattle.calls.proofs.buses.subscribe_in.Goals as goal

pub returns-in_err-me : goal.returns-in_err-me
unfolding ruled
returns-in_err-me c =
    let p = err_from_is_err_and c.from_residual.result c.from_residual.ensures.1 in
    let h = stops _ _ _ c.in_err-me.ensures in
    simp (h.0, p.1, p.2, h.1) (refl, record { is = refl; room = c.requires.room })

pub returns-then-sits : goal.returns-then-sits
unfolding ruled
returns-then-sits c =
    let m = runs _ c.in_ok-me.ensures in
    simp (m.0, sym (rw m.1 at c.sits.ensures) ∙ c.if-sits.true) (refl, record { is = refl; room = c.requires.room })

pub returns-then-not-is_bus : goal.returns-then-not-is_bus
unfolding ruled
returns-then-not-is_bus c =
    let m = runs _ c.in_ok-me.ensures in
    simp (m.0, sym (rw m.1 at c.sits.ensures) ∙ c.if-sits.false, is_not c.is_bus.ensures (ap not c.if-not-is_bus.true)) (refl, record { is = refl; room = c.requires.room })

pub seat_for-requires : goal.seat_for-requires
seat_for-requires c =
    let a = c.args in
    let g = good_ready a.k a.t.now a.p.now c.requires in
    (c.requires.room, seats-fit g a.b)

pub returns-in_err-n : goal.returns-in_err-n
unfolding ruled
returns-in_err-n c =
    let m = runs _ c.in_ok-me.ensures in
    let p = err_from_is_err_and c.from_residual-in_err-n.result c.from_residual-in_err-n.ensures.1 in
    let h = stops _ _ _ c.in_err-n.ensures in
    let q = rw (c.seat_for.ensures, c.get.ensures) at h.0 in
    simp (m.0, sym (rw m.1 at c.sits.ensures) ∙ c.if-sits.false, is_so c.is_bus.ensures (ap not c.if-not-is_bus.false), q, p.1, p.2, h.1) (refl, record { is = refl; room = c.requires.room })

pub sit_down-requires : goal.sit_down-requires
sit_down-requires c =
    let a = c.args in
    let g = good_ready a.k a.t.now a.p.now c.requires in
    let s = view a.k a.t.now a.p.now in
    let b = ltb-true a.b (head s BUSES) (is_so c.is_bus.ensures (ap not c.if-not-is_bus.false)) in
    let z = placed _ _ c.in_ok-n.ensures in
    (c.requires.room, omega (arith, b, buses-fit g), omega (arith, z.2, c.get.ensures, seats-fit g a.b))

pub returns : goal.returns
unfolding ruled
returns c =
    let m = runs _ c.in_ok-me.ensures in
    let z = placed _ _ c.in_ok-n.ensures in
    let q = rw (c.seat_for.ensures, c.get.ensures) at z.0 in
    simp (m.0, sym (rw m.1 at c.sits.ensures) ∙ c.if-sits.false, is_so c.is_bus.ensures (ap not c.if-not-is_bus.false), q)
    (refl, record { is = rw (c.sit_down.ensures.is, z.1, c.seat_for.ensures, m.1); room = c.sit_down.ensures.room })
