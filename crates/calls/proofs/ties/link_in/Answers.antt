-- The refusals in their order; the two are linked; they are not, and there is an entry.
use Prim.Native.Nat.{◌%◌}
use mathlib.Core.Path.{refl}
use native.Mathlib.Numerals.{add-one}
use Rattle.std.proofs.lemmas.Result.{err_from_is_err_and}
use Rattle.tables.specs.Limits.{ACTOR-FACTOR}
use Rattle.rules.specs.Calls.{ruled}
use Rattle.calls.proofs.CallLaws.{below, not-below, other_finds, other_stops, placed, runs, stops}
use Rattle.tables.specs.State.{view}
use Rattle.calls.proofs.ties.link_in.Goals as goal

pub returns-in_err-me : goal.returns-in_err-me
unfolding ruled
returns-in_err-me c =
    let p = err_from_is_err_and c.from_residual.result c.from_residual.ensures.1 in
    let h = stops _ _ _ c.in_err-me.ensures in
    simp (h.0, p.1, p.2, h.1) (refl, record { is = refl; room = c.requires.room })

pub other-requires : goal.other-requires
other-requires c =
    let m = runs _ c.in_ok-me.ensures in
    (c.requires, m.1, m.2)

pub returns-in_err-it : goal.returns-in_err-it
unfolding ruled
returns-in_err-it c =
    let m = runs _ c.in_ok-me.ensures in
    let p = err_from_is_err_and c.from_residual-in_err-it.result c.from_residual-in_err-it.ensures.1 in
    other_stops (view c.args.k c.args.t.now c.args.p.now) c.args.partner c.in_err-it.ensures
    (λ q r. simp (m.0, q, p.1, p.2, r) (refl, record { is = refl; room = c.requires.room }))
    (λ q u r. simp (m.0, q, u, p.1, p.2, r) (refl, record { is = refl; room = c.requires.room }))

pub returns-then-link_of-k : goal.returns-then-link_of-k
unfolding ruled
returns-then-link_of-k c =
    let m = runs _ c.in_ok-me.ensures in
    let i = other_finds (view c.args.k c.args.t.now c.args.p.now) c.args.partner c.in_ok-it.ensures in
    let l = rw (m.1, i.2, add-one (c.args.partner % ACTOR-FACTOR)) at c.link_of.ensures in
    simp (m.0, i.0, i.1, below l refl c.if-link_of-k.true) (refl, record { is = refl; room = c.requires.room })

pub returns-in_err-e : goal.returns-in_err-e
unfolding ruled
returns-in_err-e c =
    let m = runs _ c.in_ok-me.ensures in
    let i = other_finds (view c.args.k c.args.t.now c.args.p.now) c.args.partner c.in_ok-it.ensures in
    let l = rw (m.1, i.2, add-one (c.args.partner % ACTOR-FACTOR)) at c.link_of.ensures in
    let p = err_from_is_err_and c.from_residual-in_err-e.result c.from_residual-in_err-e.ensures.1 in
    let h = stops _ _ _ c.in_err-e.ensures in
    let q = rw c.link_for.ensures at h.0 in
    simp (m.0, i.0, i.1, not-below l refl c.if-link_of-k.false, q, p.1, p.2, h.1) (refl, record { is = refl; room = c.requires.room })

pub returns : goal.returns
unfolding ruled
returns c =
    let m = runs _ c.in_ok-me.ensures in
    let i = other_finds (view c.args.k c.args.t.now c.args.p.now) c.args.partner c.in_ok-it.ensures in
    let l = rw (m.1, i.2, add-one (c.args.partner % ACTOR-FACTOR)) at c.link_of.ensures in
    let z = placed _ _ c.in_ok-e.ensures in
    let q = rw c.link_for.ensures at z.0 in
    simp (m.0, i.0, i.1, not-below l refl c.if-link_of-k.false, q)
    (refl, record { is = rw (c.tie.ensures.is, z.1, c.link_for.ensures, m.1, i.2, add-one (c.args.partner % ACTOR-FACTOR)); room = c.tie.ensures.room })
