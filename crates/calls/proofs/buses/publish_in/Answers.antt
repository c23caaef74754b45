-- The refusals in their order, and a value.
use mathlib.Core.Bool.{false, not, ◌&&◌}
use lib.Dec.{ltb}
use mathlib.Core.Path.{◌≡◌, ap, refl, sym, ◌∙◌}
use native.Mathlib.Omega.{arith}
use lib.ListN.{length}
use borrow.Author.Tests.{le-ltb, lt-ltb, ltb-true}
use Rattle.std.proofs.lemmas.Result.{err_from_is_err_and}
use Rattle.tables.specs.Columns.{BUSES}
use Rattle.tables.specs.Limits.{PAYLOAD-MOST}
use Rattle.tables.specs.State.{head, view}
use Rattle.rules.specs.Calls.{ruled}
use Rattle.rules.proofs.Kept.Clauses.{buses-fit, values-fit}
use Rattle.rules.proofs.Kept.Ready.{good_ready}
use Rattle.rules.proofs.Kept.Values.{evict-free, oldest_there}
use Rattle.actions.specs.Publishing.{Publishable}
use Rattle.rules.specs.Actions.{data_for}
use Rattle.rules.specs.Buses.{bus_full}
use Rattle.calls.proofs.CallLaws.{below, is_not, is_so, not-below, runs, stops}
use Rattle.calls.proofs.buses.publish_in.Goals as goal
use Rattle.calls.proofs.buses.publish_in.Goals.{else-not-full-via-then-not-full+else-k-d, else-not-full-via-else-not-full}

pub returns-in_err-running : goal.returns-in_err-running
unfolding ruled
returns-in_err-running c =
    let p = err_from_is_err_and c.from_residual.result c.from_residual.ensures.1 in
    let h = stops _ _ _ c.in_err-running.ensures in
    simp (h.0, p.1, p.2, h.1) (refl, record { is = refl; room = c.requires.room })

pub returns-then-payload-gt-PAYLOAD_MOST : goal.returns-then-payload-gt-PAYLOAD_MOST
unfolding ruled
returns-then-payload-gt-PAYLOAD_MOST c =
    let m = runs _ c.in_ok-running.ensures in
    simp (m.0, lt-ltb PAYLOAD-MOST (length c.args.payload.now) c.if-payload-gt-PAYLOAD_MOST.true) (refl, record { is = refl; room = c.requires.room })

pub returns-then-not-is_bus : goal.returns-then-not-is_bus
unfolding ruled
returns-then-not-is_bus c =
    let m = runs _ c.in_ok-running.ensures in
    simp (m.0, le-ltb PAYLOAD-MOST (length c.args.payload.now) c.if-payload-gt-PAYLOAD_MOST.false, is_not c.is_bus.ensures (ap not c.if-not-is_bus.true)) (refl, record { is = refl; room = c.requires.room })

pub bus_full-full-requires : goal.bus_full-full-requires
bus_full-full-requires c =
    let a = c.args in
    let g = good_ready a.k a.t.now a.p.now c.requires in
    let s = view a.k a.t.now a.p.now in
    let b = ltb-true a.b (head s BUSES) (is_so c.is_bus.ensures (ap not c.if-not-is_bus.false)) in
    (c.requires.room, omega (arith, b, buses-fit g))

pub returns-then-k-d : goal.returns-then-k-d
unfolding ruled
returns-then-k-d c =
    let m = runs _ c.in_ok-running.ensures in
    simp (m.0, le-ltb PAYLOAD-MOST (length c.args.payload.now) c.if-payload-gt-PAYLOAD_MOST.false, is_so c.is_bus.ensures (ap not c.if-not-is_bus.false), sym c.bus_full-full.ensures ∙ c.if-not-full.true, not-below c.data_for-d.ensures refl c.if-k-d.true) (refl, record { is = refl; room = c.requires.room })

pub broadcast-requires : goal.broadcast-requires
broadcast-requires c =
    let a = c.args in
    let g = good_ready a.k a.t.now a.p.now c.requires in
    let s = view a.k a.t.now a.p.now in
    let b = ltb-true a.b (head s BUSES) (is_so c.is_bus.ensures (ap not c.if-not-is_bus.false)) in
    let q : not (bus_full s a.b) && not (ltb (data_for a.k s) a.k.datas) ≡ false =
    elim c.else-not-full.branch [
      | else-not-full-via-then-not-full+else-k-d w ↦ rw (sym c.bus_full-full.ensures ∙ w.if-not-full.true, below c.data_for-d.ensures refl w.if-k-d.false)
      | else-not-full-via-else-not-full w ↦ rw (sym c.bus_full-full.ensures ∙ w.if-not-full.false)
    ] in
    let z : Publishable a.k s a.b = record {
      small = omega (arith, b, buses-fit g);
      issued = values-fit g;
      oldest = oldest_there a.k s g a.b b;
      room = evict-free a.k s g a.b b q;
    } in
    (c.requires.room, (z, c.if-payload-gt-PAYLOAD_MOST.false))

pub returns : goal.returns
unfolding ruled
returns c =
    let a = c.args in
    let s = view a.k a.t.now a.p.now in
    let q : not (bus_full s a.b) && not (ltb (data_for a.k s) a.k.datas) ≡ false =
    elim c.else-not-full.branch [
      | else-not-full-via-then-not-full+else-k-d w ↦ rw (sym c.bus_full-full.ensures ∙ w.if-not-full.true, below c.data_for-d.ensures refl w.if-k-d.false)
      | else-not-full-via-else-not-full w ↦ rw (sym c.bus_full-full.ensures ∙ w.if-not-full.false)
    ] in
    let m = runs _ c.in_ok-running.ensures in
    simp (m.0, le-ltb PAYLOAD-MOST (length c.args.payload.now) c.if-payload-gt-PAYLOAD_MOST.false, is_so c.is_bus.ensures (ap not c.if-not-is_bus.false), q) (refl, c.broadcast.ensures)
