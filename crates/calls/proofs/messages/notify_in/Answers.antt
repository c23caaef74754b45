-- The refusals in their order, and a message.
use mathlib.Core.Bool.{not}
use mathlib.Core.Path.{ap, refl}
use native.Mathlib.Omega.{arith}
use lib.ListN.{length}
use borrow.Author.Tests.{le-leb, le-ltb, lt-leb, lt-ltb}
use Rattle.std.proofs.lemmas.Result.{err_from_is_err_and}
use Rattle.tables.specs.Limits.{ANY-TAG, PAYLOAD-MOST}
use Rattle.rules.specs.Calls.{ruled}
use Rattle.rules.proofs.Kept.Ready.{good_ready}
use Rattle.rules.proofs.Kept.Clauses.{arrivals-fit, queue-fits}
use Rattle.calls.proofs.CallLaws.{finds, is_not, is_so, runner_id-fits, runs, stops}
use Rattle.calls.proofs.messages.notify_in.Goals as goal
use Rattle.calls.proofs.messages.notify_in.Goals.{then-tag-ge-ANY_TAG-via-then-tag-ge-ANY_TAG, then-tag-ge-ANY_TAG-via-else-tag-ge-ANY_TAG+then-payload-gt-PAYLOAD_MOST}

pub returns-in_err-me : goal.returns-in_err-me
unfolding ruled
returns-in_err-me c =
    let p = err_from_is_err_and c.from_residual.result c.from_residual.ensures.1 in
    let h = stops _ _ _ c.in_err-me.ensures in
    simp (h.0, p.1, p.2, h.1) (refl, record { is = refl; room = c.requires.room })

pub returns-then-tag-ge-ANY_TAG : goal.returns-then-tag-ge-ANY_TAG
unfolding ruled
returns-then-tag-ge-ANY_TAG c =
    let a = c.args in
    let m = runs _ c.in_ok-me.ensures in
    elim c.then-tag-ge-ANY_TAG.branch [
      | then-tag-ge-ANY_TAG-via-then-tag-ge-ANY_TAG w ↦
          simp (m.0, le-leb ANY-TAG a.tag w.if-tag-ge-ANY_TAG.true) (refl, record { is = refl; room = c.requires.room })
      | then-tag-ge-ANY_TAG-via-else-tag-ge-ANY_TAG+then-payload-gt-PAYLOAD_MOST w ↦
          simp (m.0, lt-leb ANY-TAG a.tag w.if-tag-ge-ANY_TAG.false, lt-ltb PAYLOAD-MOST (length a.payload.now) w.if-payload-gt-PAYLOAD_MOST.true)
          (refl, record { is = refl; room = c.requires.room })
    ]

pub returns-in_err-a : goal.returns-in_err-a
unfolding ruled
returns-in_err-a c =
    let m = runs _ c.in_ok-me.ensures in
    let p = err_from_is_err_and c.from_residual-in_err-a.result c.from_residual-in_err-a.ensures.1 in
    let h = stops _ _ _ c.in_err-a.ensures in
    let a = c.args in
    simp (m.0, lt-leb ANY-TAG a.tag c.if-tag-ge-ANY_TAG.false, le-ltb PAYLOAD-MOST (length a.payload.now) c.if-payload-gt-PAYLOAD_MOST.false, h.0, p.1, p.2, h.1) (refl, record { is = refl; room = c.requires.room })

pub returns-then-not-has_room : goal.returns-then-not-has_room
unfolding ruled
returns-then-not-has_room c =
    let m = runs _ c.in_ok-me.ensures in
    let i = finds _ _ _ c.in_ok-a.ensures in
    let a = c.args in
    simp (m.0, lt-leb ANY-TAG a.tag c.if-tag-ge-ANY_TAG.false, le-ltb PAYLOAD-MOST (length a.payload.now) c.if-payload-gt-PAYLOAD_MOST.false, i.0, is_not c.has_room.ensures (ap not c.if-not-has_room.true)) (refl, record { is = refl; room = c.requires.room })

pub actor_id-sender-requires : goal.actor_id-sender-requires
actor_id-sender-requires c =
    let m = runs _ c.in_ok-me.ensures in
    runner_id-fits c.requires m.1

pub post-requires : goal.post-requires
post-requires c =
    let a = c.args in
    let g = good_ready a.k a.t.now a.p.now c.requires in
    let i = finds _ _ _ c.in_ok-a.ensures in
    (c.requires.room, (is_so c.has_room.ensures (ap not c.if-not-has_room.false), c.if-payload-gt-PAYLOAD_MOST.false, omega (arith, i.1), omega (arith, queue-fits g, g.range), omega (arith, arrivals-fit g, g.range)))

pub returns : goal.returns
unfolding ruled
returns c =
    let m = runs _ c.in_ok-me.ensures in
    let i = finds _ _ _ c.in_ok-a.ensures in
    let a = c.args in
    simp (m.0, lt-leb ANY-TAG a.tag c.if-tag-ge-ANY_TAG.false, le-ltb PAYLOAD-MOST (length a.payload.now) c.if-payload-gt-PAYLOAD_MOST.false, i.0, is_so c.has_room.ensures (ap not c.if-not-has_room.false))
    (refl, record { is = rw (c.post.ensures.is, i.1, c.pack-header.ensures, c.actor_id-sender.ensures, m.1); room = c.post.ensures.room })
