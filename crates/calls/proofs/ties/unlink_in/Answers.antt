-- Nobody runs; no such actor; no such link; there is one.
use Prim.Native.Nat.{◌%◌}
use mathlib.Core.Path.{refl}
use native.Mathlib.Numerals.{add-one}
use borrow.Author.Tests.{not-false, not-true}
use Rattle.std.proofs.lemmas.Result.{err_from_is_err_and}
use Rattle.tables.specs.Limits.{ACTOR-FACTOR}
use Rattle.rules.specs.Calls.{ruled}
use Rattle.calls.proofs.CallLaws.{below, finds, not-below, runs, stops}
use Rattle.calls.proofs.ties.unlink_in.Goals as goal

pub returns-in_err-me : goal.returns-in_err-me
unfolding ruled
returns-in_err-me c =
    let p = err_from_is_err_and c.from_residual.result c.from_residual.ensures.1 in
    let h = stops _ _ _ c.in_err-me.ensures in
    simp (h.0, p.1, p.2, h.1) (refl, record { is = refl; room = c.requires.room })

pub returns-in_err-it : goal.returns-in_err-it
unfolding ruled
returns-in_err-it c =
    let m = runs _ c.in_ok-me.ensures in
    let p = err_from_is_err_and c.from_residual-in_err-it.result c.from_residual-in_err-it.ensures.1 in
    let h = stops _ _ _ c.in_err-it.ensures in
    let n = not-true _ h.0 in
    simp (m.0, n, p.1, p.2, h.1) (refl, record { is = refl; room = c.requires.room })

pub returns-then-k-e : goal.returns-then-k-e
unfolding ruled
returns-then-k-e c =
    let m = runs _ c.in_ok-me.ensures in
    let i = finds _ _ _ c.in_ok-it.ensures in
    let l = rw (m.1, i.1, add-one (c.args.partner % ACTOR-FACTOR)) at c.link_of-e.ensures in
    let v = not-false _ i.0 in
    simp (m.0, v, not-below l refl c.if-k-e.true) (refl, record { is = refl; room = c.requires.room })

pub returns : goal.returns
unfolding ruled
returns c =
    let m = runs _ c.in_ok-me.ensures in
    let i = finds _ _ _ c.in_ok-it.ensures in
    let l = rw (m.1, i.1, add-one (c.args.partner % ACTOR-FACTOR)) at c.link_of-e.ensures in
    let v = not-false _ i.0 in
    simp (m.0, v, below l refl c.if-k-e.false) (refl, record { is = rw (c.tie.ensures.is, l); room = c.tie.ensures.room })
