-- Nobody runs; nothing is in hand; something is.
use Prim.Native.Nat.{◌-◌}
use mathlib.Core.Path.{refl}
use native.Mathlib.Omega.{arith}
use borrow.Author.Tests.{eqb-false}
use Rattle.std.proofs.lemmas.Result.{err_from_is_err_and}
use Rattle.tables.specs.Columns.{HAND}
use Rattle.tables.specs.State.{at, view}
use Rattle.rules.specs.Terms.{runner}
use Rattle.rules.specs.Calls.{ruled}
use Rattle.rules.proofs.Kept.Ready.{good_ready}
use Rattle.rules.proofs.Kept.Clauses.{hand_fits}
use Rattle.calls.proofs.CallLaws.{hand_finds, hand_stops}
use Rattle.calls.proofs.messages.shown_in.Goals as goal

pub returns-in_err-d : goal.returns-in_err-d
unfolding ruled
returns-in_err-d c =
    let p = err_from_is_err_and c.from_residual.result c.from_residual.ensures.1 in
    hand_stops (view c.args.k c.args.t.now c.args.p.now) c.in_err-d.ensures
    (λ q r. simp (q, p.1, p.2, r) (refl, record { is = refl; room = c.requires.room }))
    (λ q u r. simp (q, u, p.1, p.2, r) (refl, record { is = refl; room = c.requires.room }))

pub place_of-requires : goal.place_of-requires
place_of-requires c =
    let a = c.args in
    let g = good_ready a.k a.t.now a.p.now c.requires in
    let f = hand_finds (view c.args.k c.args.t.now c.args.p.now) c.in_ok-d.ensures in
    let s = view a.k a.t.now a.p.now in
    (c.requires.room, omega (arith, f.2, hand_fits g (runner s - 1), eqb-false (at s HAND (runner s - 1)) 0 f.1))

pub returns : goal.returns
unfolding ruled
returns c =
    let f = hand_finds (view c.args.k c.args.t.now c.args.p.now) c.in_ok-d.ensures in
    simp (f.0, f.1) (rw (c.place_of.ensures, f.2), record { is = refl; room = c.requires.room })
