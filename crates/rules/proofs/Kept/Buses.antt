-- The calls on buses keep a sound state sound.
use Prim.Native.Nat.{ℕ}
use native.Mathlib.Omega.{arith}
use mathlib.Core.List.{List}
use lib.ListN.{length}
use lib.Dec.{ltb}
use borrow.Author.Tests.{eqb-false, leb-false, ltb-false, ltb-true, not-false}
use Rattle.pools.proofs.BoolLaws.{split}
use Rattle.ledger.specs.Call.Op.{bus, publish, read, subscribe, unsubscribe}
use Rattle.tables.specs.Columns.{BUSES, ISSUED}
use Rattle.tables.specs.Limits.{MOST-BUSES, PAYLOAD-MOST}
use Rattle.tables.specs.State.{head}
use Rattle.rules.specs.Terms.{runner}
use Rattle.rules.specs.Buses.{oldest_unread, seat_for, seat_of, sits}
use Rattle.rules.proofs.Claims.{Keeps}
use Rattle.rules.proofs.Guards.{fourth_passed, second_passed, third_passed}
use Rattle.rules.proofs.Reckoned.Ledger.{runner-alive}
use Rattle.rules.proofs.Kept.Clauses.{buses-fit}
use Rattle.rules.proofs.Kept.Seats.{bus-there, make_bus_keeps, seat_there, sit_down_keeps, sits-bus, sits-not, sits_seat, stand_up_keeps}
use Rattle.rules.proofs.Kept.Values.{broadcast_keeps, read_off_keeps}

-- a bus is made
pub bus_keeps : (entries subscribers reads age : ℕ) → Keeps (bus entries subscribers reads age)
bus_keeps entries subscribers reads age k s g p =
    make_bus_keeps k s g entries subscribers reads age p.0 (leb-false MOST-BUSES (head s BUSES) (second_passed p))

-- a value is published
pub publish_keeps : (b : ℕ) (payload : List ℕ) → Keeps (publish b payload)
publish_keeps b payload k s g p =
    broadcast_keeps k s g b payload (bus-there s b (third_passed p)) (ltb-false PAYLOAD-MOST (length payload) (second_passed p)) (fourth_passed p)

-- one subscribes
pub subscribe_keeps : (b : ℕ) → Keeps (subscribe b)
subscribe_keeps b k s g p =
    let n = seat_for s b in
    let made = bus-there s b (third_passed p) in
    let (nl, empty) = seat_there s b (fourth_passed p) in
    sit_down_keeps k s g b n (runner s) (omega (arith, buses-fit g)) nl empty (runner-alive k s g p.0) (sits-not s b (runner s) (second_passed p))

-- one unsubscribes
pub unsubscribe_keeps : (b : ℕ) → Keeps (unsubscribe b)
unsubscribe_keeps b k s g p =
    let there = not-false (sits s b (runner s)) (second_passed p) in
    stand_up_keeps k s g b (seat_of s b (runner s)) (sits-bus s b (runner s) there k g (eqb-false (runner s) 0 p.0)) (sits_seat s b (runner s) there)

-- a value is read, or there is nothing new
pub read_keeps : (b room : ℕ) → Keeps (read b room)
read_keeps b room k s g p =
    let j = oldest_unread s b (runner s) in
    split (ltb j (head s ISSUED))
    (λ q. rw q (read_off_keeps k s g (seat_of s b (runner s)) j (sits_seat s b (runner s) (not-false (sits s b (runner s)) (third_passed p))) (ltb-true j (head s ISSUED) q) b))
    (λ q. rw q g)
