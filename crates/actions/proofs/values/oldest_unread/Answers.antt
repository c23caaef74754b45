-- None before i is the bus's, and unread.
use native.Mathlib.Omega.{arith}
use borrow.Author.Tests.{lt-ltb}
use Rattle.tables.specs.State.{view}
use Rattle.actions.proofs.ActionLaws.{search_hit, search_miss}
use Rattle.actions.proofs.BusLaws.{sits-bus, unread-seated}
use Rattle.actions.proofs.values.oldest_unread.Goals as goal

pub is_unread-requires : goal.is_unread-requires
is_unread-requires c =
    let l = c.if-seat.false in
    let a = c.args in
    let h = sits-bus c.requires.0 a.b a.a c.requires.1 (rw c.seat_of-seat.ensures at l) in
    (c.requires.0, omega (arith, h), l)

pub returns-then-is_unread : goal.returns-then-is_unread
returns-then-is_unread c =
    let a = c.args in
    let s = view a.k a.t.now a.p.now in
    unread-seated s a.b a.a c.seat_of-seat.ensures (lt-ltb _ _ c.if-seat.false) (search_hit c.loop-i.invariant (omega arith) c.is_unread.ensures c.if-is_unread.true)

pub returns : goal.returns
returns c =
    let a = c.args in
    let s = view a.k a.t.now a.p.now in
    unread-seated s a.b a.a c.seat_of-seat.ensures (lt-ltb _ _ c.if-seat.false) (search_miss c.loop-i.invariant (omega arith))
