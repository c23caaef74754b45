-- The buses before b were passed, and the row says which seats were given up.
use Prim.Native.Nat.{◌<◌}
use mathlib.Core.Path.{◌≡◌, refl}
use mathlib.Core.Bool.{true}
use native.Mathlib.Omega.{arith}
use borrow.Author.Tests.{ltb-true}
use Rattle.tables.specs.Limits.{MOST-BUSES, MOST-SEATS}
use Rattle.tables.specs.State.{view}
use Rattle.rules.specs.Buses.{seat_of, sits}
use Rattle.actions.specs.Leaving.{gave_up, give_up}
use Rattle.actions.proofs.BusLaws.{sits-bus}
use Rattle.actions.proofs.LeaveLaws.{gave_up-next, give_up-next, row_begins, row-more}
use Rattle.actions.proofs.leaving.give_up.Goals as goal

pub loop-b-init : goal.loop-b-init
unfolding give_up gave_up
loop-b-init c =
    let a = c.args in
    (c.requires.0, refl, rw c.requires.3 (row_begins (view a.k a.t.now a.p.now) a.x), refl)

pub give_up_on-any-requires : goal.give_up_on-any-requires
give_up_on-any-requires c = (c.loop-b.invariant.0, c.requires.1, omega arith, c.loop-b.invariant.2.long)

pub loop-b-preserved : goal.loop-b-preserved
loop-b-preserved c =
    let a = c.args in
    let l = c.loop-b in
    let i = l.invariant in
    let d = c.give_up_on-any.ensures in
    let s = view a.k a.t.now a.p.now in
    let u = view a.k l.t a.p.now in
    let inside : sits (give_up a.x l.b s) l.b a.x ≡ true → l.b < MOST-BUSES =
    λ q. sits-bus i.0 l.b a.x c.requires.1 (ltb-true (seat_of u l.b a.x) MOST-SEATS (rw i.1 q)) in (
      d.0.1.room,
      rw (d.0.1.is, i.1, give_up-next a.x l.b s),
      rw (d.1, i.1) (row-more s a.x l.b l.seats i.2 inside),
      rw (d.0.0, i.1, i.3, gave_up-next a.x l.b s),
    )
