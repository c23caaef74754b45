-- What is left to fire of the present state is what was to fire of the first.
use Prim.Native.Nat.{◌<◌, ◌≤◌, ◌-◌, ◌+◌}
use mathlib.Core.Path.{ap, ◌≡◌, sym, ◌∙◌}
use mathlib.Core.Bool.{true, false}
use mathlib.Core.List.{[], ◌∷◌, ◌++◌}
use native.Mathlib.Omega.{arith}
use lib.ListN.{length}
use lib.Dec.{lit<}
use Rattle.std.proofs.lemmas.List.{length_push}
use Rattle.tables.specs.Columns.{DUE, TIMER-OWNER}
use Rattle.tables.specs.State.{view}
use Rattle.rules.specs.Actions.{has_room}
use Rattle.rules.specs.Calls.{Fired, next_due}
use Rattle.rules.proofs.Reckoned.Clock.{fire_late, ticks}
use Rattle.rules.proofs.Kept.Clock.{late_sized}
use Rattle.endings.specs.Order.{Waiting}
use Rattle.endings.proofs.EndingLaws.{fire-ends, fire-turn, late_fires}
use Rattle.endings.proofs.FiringLaws.{last_fires, last_next, last_rest, waiting_ends, waiting_stops}
use Rattle.endings.proofs.advance.fire_row.Goals as goal

pub returns-then-not-has_room : goal.returns-then-not-has_room
returns-then-not-has_room c =
    let l = c.loop-i in
    let a = c.args in
    let s = view a.k l.t l.p in
    let r : has_room a.k s ≡ false = sym c.has_room.ensures ∙ c.if-not-has_room.true in
    let f = sym l.invariant.same ∙ fire-ends a.k l.count s (a.k.timers - l.count) (waiting_stops a.k s r) in
    (sym (ap (λ (u : Fired). u.count) f), record { is = sym (ap (λ (u : Fired). u.state) f); room = l.invariant.room })

pub fire-requires : goal.fire-requires
fire-requires c =
    let l = c.loop-i in
    let a = c.args in
    let s = view a.k l.t l.p in
    let row = c.next.new.self.iter.rest.now in
    let x = c.in-Some.i.now in
    let o : Waiting a.k s (length (row ++ x ∷ [])) (row ++ x ∷ []) = rw c.in-Some.ensures.steps at l.invariant.waiting in
    let r : has_room a.k s ≡ true = sym c.has_room.ensures ∙ c.if-not-has_room.false in
    let e : next_due a.k s - 1 ≡ x = omega (arith, last_next a.k s row x o) in
    let (clock, late) = l.invariant.raised in
    (l.invariant.room, rw e at (late_fires a.k clock s late (last_fires a.k s row x o r)))

pub loop-i-preserved : goal.loop-i-preserved
loop-i-preserved c =
    let l = c.loop-i in
    let a = c.args in
    let s = view a.k l.t l.p in
    let row = c.next.new.self.iter.rest.now in
    let x = c.in-Some.i.now in
    let p = c.in-Some.ensures.steps in
    let o : Waiting a.k s (length (row ++ x ∷ [])) (row ++ x ∷ []) = rw p at l.invariant.waiting in
    let b : l.count + (length row + 1) ≤ a.k.timers = rw (p, length_push row x) at l.invariant.few in
    let r : has_room a.k s ≡ true = sym c.has_room.ensures ∙ c.if-not-has_room.false in
    let q = last_fires a.k s row x o r in
    let e : next_due a.k s - 1 ≡ x = omega (arith, last_next a.k s row x o) in
    let d = c.fire.ensures in
    let v = l.invariant.raised in
    let z = (late_sized a.k v.0 s v.1).words in
    let n = a.k.timers - l.count in
    let m : a.k.timers - (l.count + 1) ≡ n - 1 = omega arith in
    let u : 0 < n = omega arith in
    record {
      room = d.room;
      raised = (v.0, rw d.is (rw e at (fire_late a.k (ticks a.k) v.0 s v.1 q)));
      waiting = rw d.is (last_rest a.k s row x o (z TIMER-OWNER (lit< tt)) (z DUE (lit< tt)));
      few = omega arith;
      same = rw (d.is, m, ← e) (sym (fire-turn a.k l.count s n u q) ∙ l.invariant.same);
    }

pub returns : goal.returns
returns c =
    let l = c.loop-i in
    let a = c.args in
    let s = view a.k l.t l.p in
    let row = l.i-iterator.iter.rest.now in
    let z : length row ≡ 0 = c.in-None.ensures.steps.0 in
    let f = sym l.invariant.same ∙ fire-ends a.k l.count s (a.k.timers - l.count) (waiting_ends a.k s (length row) row l.invariant.waiting z) in
    (sym (ap (λ (u : Fired). u.count) f), record { is = sym (ap (λ (u : Fired). u.state) f); room = l.invariant.room })
