-- Nobody runs; nothing is in hand; something is.
use Prim.Native.Nat.{◌-◌}
use mathlib.Core.Path.{refl}
use native.Mathlib.Omega.{arith}
use borrow.Author.Tests.{eqb-false}
use Rattle.tables.specs.Columns.{HAND}
use Rattle.tables.specs.State.{at, view}
use Rattle.rules.specs.Terms.{runner}
use Rattle.rules.specs.Calls.{ruled}
use Rattle.rules.proofs.Kept.Ready.{good_ready}
use Rattle.rules.proofs.Kept.Clauses.{hand_fits, length-fits}
use Rattle.rules.proofs.Stories.Showing.{part-further}
use Rattle.calls.proofs.CallLaws.{hand_finds, hand_stops}
use Rattle.calls.proofs.messages.show_in.Goals as goal

pub returns-in-Err : goal.returns-in-Err
unfolding ruled
returns-in-Err c =
    let a = c.args in
    hand_stops (view c.args.k c.args.t.now c.args.p.now) c.in-Err.ensures
    (λ q r. simp q (refl, part-further a.p.ref_ptr 0 0 refl))
    (λ q u r. simp (q, u) (refl, part-further a.p.ref_ptr 0 0 refl))

pub payload-requires : goal.payload-requires
payload-requires c =
    let a = c.args in
    let g = good_ready a.k a.t.now a.p.now c.requires in
    let f = hand_finds (view c.args.k c.args.t.now c.args.p.now) c.in-Ok.ensures in
    let s = view a.k a.t.now a.p.now in
    (c.requires.room, (omega (arith, f.2, hand_fits g (runner s - 1), eqb-false (at s HAND (runner s - 1)) 0 f.1), length-fits g _))

pub returns-in-Ok : goal.returns-in-Ok
unfolding ruled
returns-in-Ok c =
    let f = hand_finds (view c.args.k c.args.t.now c.args.p.now) c.in-Ok.ensures in
    simp (f.0, f.1) (rw f.2 at c.payload.ensures.0, rw f.2 at c.payload.ensures.1)
