-- The refusals in their order; there is a slot.
use Prim.Native.Nat.{◌%◌}
use mathlib.Core.Path.{refl}
use native.Mathlib.Numerals.{add-one}
use native.Mathlib.Omega.{arith}
use Rattle.std.proofs.lemmas.Result.{err_from_is_err_and}
use Rattle.tables.specs.Limits.{ACTOR-FACTOR}
use Rattle.rules.specs.Calls.{ruled}
use Rattle.rules.proofs.Kept.Ready.{good_ready}
use Rattle.rules.proofs.Kept.Clauses.{monitor_age_fits}
use Rattle.calls.proofs.CallLaws.{other_finds, other_stops, placed, runs, stops}
use Rattle.tables.specs.State.{view}
use Rattle.calls.proofs.ties.monitor_in.Goals as goal

pub returns-in_err-me : goal.returns-in_err-me
unfolding ruled
returns-in_err-me c =
    let p = err_from_is_err_and c.from_residual.result c.from_residual.ensures.1 in
    let h = stops _ _ _ c.in_err-me.ensures in
    simp (h.0, p.1, p.2, h.1) (refl, record { is = refl; room = c.requires.room })

pub other-requires : goal.other-requires
other-requires c =
    let m = runs _ c.in_ok-me.ensures in
    (c.requires, m.1, m.2)

pub returns-in_err-it : goal.returns-in_err-it
unfolding ruled
returns-in_err-it c =
    let m = runs _ c.in_ok-me.ensures in
    let p = err_from_is_err_and c.from_residual-in_err-it.result c.from_residual-in_err-it.ensures.1 in
    other_stops (view c.args.k c.args.t.now c.args.p.now) c.args.target c.in_err-it.ensures
    (λ q r. simp (m.0, q, p.1, p.2, r) (refl, record { is = refl; room = c.requires.room }))
    (λ q u r. simp (m.0, q, u, p.1, p.2, r) (refl, record { is = refl; room = c.requires.room }))

pub returns-in_err-i : goal.returns-in_err-i
unfolding ruled
returns-in_err-i c =
    let m = runs _ c.in_ok-me.ensures in
    let i = other_finds (view c.args.k c.args.t.now c.args.p.now) c.args.target c.in_ok-it.ensures in
    let p = err_from_is_err_and c.from_residual-in_err-i.result c.from_residual-in_err-i.ensures.1 in
    let h = stops _ _ _ c.in_err-i.ensures in
    let q = rw c.monitor_for.ensures at h.0 in
    simp (m.0, i.0, i.1, q, p.1, p.2, h.1) (refl, record { is = refl; room = c.requires.room })

pub next_id-id-requires : goal.next_id-id-requires
next_id-id-requires c =
    let a = c.args in
    let g = good_ready a.k a.t.now a.p.now c.requires in
    let z = placed _ _ c.in_ok-i.ensures in
    (c.requires.room, (omega arith, omega (arith, z.2, g.range), omega arith, monitor_age_fits g c.in_ok-i.i))

pub watch-requires : goal.watch-requires
watch-requires c =
    let a = c.args in
    let g = good_ready a.k a.t.now a.p.now c.requires in
    (c.requires.room, monitor_age_fits g c.in_ok-i.i)

pub returns : goal.returns
unfolding ruled
returns c =
    let m = runs _ c.in_ok-me.ensures in
    let i = other_finds (view c.args.k c.args.t.now c.args.p.now) c.args.target c.in_ok-it.ensures in
    let z = placed _ _ c.in_ok-i.ensures in
    let q = rw c.monitor_for.ensures at z.0 in
    simp (m.0, i.0, i.1, q)
    (rw (c.next_id-id.ensures, z.1, c.monitor_for.ensures), record { is = rw (c.watch.ensures.is, z.1, c.monitor_for.ensures, m.1, i.2, add-one (c.args.target % ACTOR-FACTOR)); room = c.watch.ensures.room })
