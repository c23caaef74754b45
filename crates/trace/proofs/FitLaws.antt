-- The numbers in front of an answer fit 64 bits where those that were passed do.
use Prim.Native.Nat.{ℕ, ◌+◌, ◌-◌, ◌*◌, ◌^◌, ◌<◌, ◌≤◌}
use mathlib.Core.Path.{◌≡◌}
use mathlib.Core.Bool.{Bool, true, false, cond, not}
use mathlib.Core.List.{List, []}
use native.Mathlib.Omega.{arith}
use lib.ListN.{length, take, drop, length-drop, length-take}
use lib.Dec.{eqb, ltb}
use Rattle.ledger.specs.Call.{Op}
use Rattle.ledger.specs.Call.Call.{op}
use Rattle.ledger.specs.Call.Op.{spawn, next, yield, notify, receive, show, shown, after, every, cancel, link, unlink, monitor, demonitor, exit, advance, report, bus, publish, subscribe, unsubscribe, read}
use Rattle.pools.proofs.BoolLaws.{split}
use Rattle.tables.specs.declared.Caps.{Caps}
use Rattle.tables.specs.Columns.{HAND, ISSUED, LENGTH, PAYLOAD}
use Rattle.tables.specs.Limits.{ENTRY-BYTES, HEADER-BYTES}
use Rattle.tables.specs.State.{State, at, head}
use Rattle.rules.specs.Buses.{oldest_unread, sits, unread_length, value_at}
use Rattle.rules.specs.Calls.{Copy, Out, copy, entry, ruled}
use Rattle.rules.specs.Good.{Good}
use Rattle.rules.specs.Run.{step}
use Rattle.rules.specs.Terms.{runner}
use Rattle.trace.specs.Codec.{Small}
use Rattle.trace.specs.Kinds.{Fits, opening}
use Rattle.trace.specs.Writing.{Passes, done}

-- of a sound runtime, a shown part is no longer than the payload area
part-within : (n o : ℕ) (l : List ℕ) → length (take n (drop o l)) ≤ length l
part-within n o l = let d : length (drop o l) ≡ length l - o = length-drop o l in let t = length-take n (drop o l) in omega arith

part_small : (k : Caps) (s : State) → Good k s → length (ruled (entry show) k s).ans < 256 ^ 8
unfolding ruled
part_small k s g =
    split (eqb (runner s) 0) (λ q. rw q (omega arith))
    (λ q. split (eqb (at s HAND (runner s - 1)) 0) (λ h. rw (q, h) (omega arith))
    (λ h. rw (q, h) (omega (arith, part-within (at s LENGTH (at s HAND (runner s - 1) - 1)) (ENTRY-BYTES * (at s HAND (runner s - 1) - 1) + HEADER-BYTES) (s PAYLOAD), g.sized.bytes, g.range.few_datas))))

-- nor is what a read copies; and the number beside it is small
record Brief (c : Copy) : Type 0 where
  number : c.no < 256 ^ 8
  size : length c.bytes < 256 ^ 8

-- nothing copied
bare : (n : ℕ) → n < 6 → Brief (copy n [])
bare n h = record { number = omega arith; size = omega arith }

either : (b : Bool) (x y : Out Copy) → Brief x.ans → Brief y.ans → Brief (cond b x y).ans
either true x y h g = h
either false x y h g = g

copy-small : (b n : ℕ) (k : Caps) (s : State) → Good k s → Brief (ruled (entry (read b n)) k s).ans
unfolding ruled
copy-small b n k s g =
    let j = oldest_unread s b (runner s) in
    let d = value_at s j in
    let within = part-within (at s LENGTH d) (ENTRY-BYTES * d + HEADER-BYTES) (s PAYLOAD) in
    either (eqb (runner s) 0) _ _ (bare 4 (omega arith))
    (either (ltb n (unread_length s b (runner s))) _ _ (bare 1 (omega arith))
    (either (not (sits s b (runner s))) _ _ (bare 3 (omega arith))
    (either (ltb j (head s ISSUED)) _ _ (record { number = omega arith; size = omega (arith, within, g.sized.bytes, g.range.few_datas) }) (bare 5 (omega arith)))))

front_small : (o : Op) (k : Caps) (s : State) → Good k s → Small (opening o).numbers → Small (done o k s).front
front_small (spawn a) k s g h = h
front_small next k s g h = h
front_small yield k s g h = h
front_small (notify a b c) k s g h = h
front_small (receive a b c d) k s g h = h
front_small show k s g h = (part_small k s g, record {})
front_small shown k s g h = h
front_small (after a) k s g h = h
front_small (every a) k s g h = h
front_small (cancel a) k s g h = h
front_small (link a) k s g h = h
front_small (unlink a) k s g h = h
front_small (monitor a) k s g h = h
front_small (demonitor a) k s g h = h
front_small (exit a) k s g h = h
front_small (advance a) k s g h = h
front_small report k s g h = h
front_small (bus a b c d) k s g h = h
front_small (publish a b) k s g h = h
front_small (subscribe a) k s g h = h
front_small (unsubscribe a) k s g h = h
front_small (read a b) k s g h = let c = copy-small a b k s g in (h.0, (h.1.0, (c.number, (c.size, record {}))))

pub fits_op : (o : Op) (k : Caps) (s : State) → Good k s → Passes 0 0 (op o) → Fits 0 0 (op o) (step o k s).ans
fits_op o k s g h = record { small = front_small o k s g h.small; signs = h.signs }
