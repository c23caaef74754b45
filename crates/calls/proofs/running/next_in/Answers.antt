-- Somebody runs; somebody can; nobody can.
use Prim.Native.Nat.{◌<◌}
use mathlib.Core.Path.{refl}
use native.Mathlib.Omega.{arith}
use mir.Syntax.{w64}
use mir.ValLaws.{to_z-of_z}
use Rattle.tables.specs.Columns.{QUEUED}
use Rattle.tables.specs.State.{head, view}
use Rattle.rules.specs.Calls.{ruled}
use Rattle.rules.proofs.Kept.Ready.{good_ready}
use Rattle.calls.proofs.CallLaws.{below, nobody, not-below, somebody}
use Rattle.rules.proofs.Kept.Clauses.{age_fits, queue-fits, queued_fits}
use Rattle.calls.proofs.running.next_in.Goals as goal

pub returns-then-get-ne0 : goal.returns-then-get-ne0
unfolding ruled
returns-then-get-ne0 c =
    simp (somebody c.get.ensures c.if-get-ne0.true) (refl, record { is = refl; room = c.requires.room })

pub take_turn-requires : goal.take_turn-requires
take_turn-requires c =
    let a = c.args in
    let s = view a.k a.t.now a.p.now in
    let g = good_ready a.k a.t.now a.p.now c.requires in
    let h : c.first_head-j.result < head s QUEUED = omega (arith, c.if-j-get.true, c.get-2.ensures) in
    let z = queued_fits g c.first_head-j.result h in
    (c.requires.room, (omega (arith, z, c.get-a.ensures, g.range), age_fits g c.get-a.result, h, queue-fits g))

pub returns-then-j-get : goal.returns-then-j-get
unfolding ruled
returns-then-j-get c =
    simp (nobody c.get.ensures c.if-get-ne0.false, below c.first_head-j.ensures c.get-2.ensures c.if-j-get.true)
    (rw (c.take_turn.ensures.0, c.get-a.ensures, c.first_head-j.ensures), rw (c.get-a.ensures, c.first_head-j.ensures) at c.take_turn.ensures.1)

pub returns : goal.returns
unfolding ruled
returns c =
    simp (nobody c.get.ensures c.if-get-ne0.false, not-below c.first_head-j.ensures c.get-2.ensures c.if-j-get.false)
    (rw (to_z-of_z w64 c.sleep.result (record { sfits = c.sleep.type_inv }), c.sleep.ensures), record { is = refl; room = c.requires.room })
