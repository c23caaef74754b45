-- The refusals in their order, and what is left of the rule.
use mathlib.Core.Path.{refl}
use native.Mathlib.Omega.{arith}
use lib.ListN.{length}
use borrow.Author.Tests.{ltb-true, not-false, not-true}
use Rattle.std.proofs.lemmas.Result.{err_from_is_err_and}
use Rattle.tables.specs.State.{view}
use Rattle.rules.specs.Calls.{ruled}
use Rattle.calls.proofs.BusLaws.{read-seated, read_unseated}
use Rattle.calls.proofs.CallLaws.{below, finds, not-below, runs, stops}
use Rattle.calls.proofs.buses.read_in.Goals as goal

pub returns-in_err-me : goal.returns-in_err-me
unfolding ruled
returns-in_err-me c =
    let p = err_from_is_err_and c.from_residual.result c.from_residual.ensures.1 in
    let h = stops _ _ _ c.in_err-me.ensures in
    simp (h.0, p.1, p.2, h.1) ((refl, record { is = refl; room = c.requires.room }), (omega arith, refl, refl))

pub oldest_unread-j-requires : goal.oldest_unread-j-requires
oldest_unread-j-requires c =
    let m = runs _ c.in_ok-me.ensures in
    (c.requires.room, m.2)

pub unread_length-requires : goal.unread_length-requires
unread_length-requires c =
    (c.requires.room, c.oldest_unread-j.ensures)

pub returns-then-out-unread_length : goal.returns-then-out-unread_length
unfolding ruled
returns-then-out-unread_length c =
    let m = runs _ c.in_ok-me.ensures in
    let u = rw m.1 at c.unread_length.ensures in
    simp (m.0, below refl u c.if-out-unread_length.true) ((refl, record { is = refl; room = c.requires.room }), (omega arith, refl, refl))

pub returns-in_err-n : goal.returns-in_err-n
returns-in_err-n c =
    let a = c.args in
    let s = view a.k a.t.now a.p.now in
    let m = runs _ c.in_ok-me.ensures in
    let u = rw m.1 at c.unread_length.ensures in
    let p = err_from_is_err_and c.from_residual-in_err-n.result c.from_residual-in_err-n.ensures.1 in
    let h = stops _ _ _ c.in_err-n.ensures in
    let q = rw m.1 at (not-true _ h.0) in
    simp (read_unseated a.k s a.b (length a.out.now) m.0 (not-below refl u c.if-out-unread_length.false) q, p.1, p.2, h.1) ((refl, record { is = refl; room = c.requires.room }), (omega arith, refl, refl))

pub read_value-requires : goal.read_value-requires
read_value-requires c =
    let m = runs _ c.in_ok-me.ensures in
    let u = rw m.1 at c.unread_length.ensures in
    let i = finds _ _ _ c.in_ok-n.ensures in
    let n = ltb-true _ _ (not-false _ i.0) in
    let l = rw m.1 at i.1 in
    let j = rw m.1 at c.oldest_unread-j.ensures in
    (c.requires, (omega (arith, n, i.1), l, j, omega (arith, u, c.if-out-unread_length.false)))

pub returns : goal.returns
returns c =
    let a = c.args in
    let s = view a.k a.t.now a.p.now in
    let m = runs _ c.in_ok-me.ensures in
    let u = rw m.1 at c.unread_length.ensures in
    let i = finds _ _ _ c.in_ok-n.ensures in
    let q = rw m.1 at (not-false _ i.0) in
    rw (read-seated a.k s a.b (length a.out.now) m.0 (not-below refl u c.if-out-unread_length.false) q) c.read_value.ensures
