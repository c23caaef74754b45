-- A record replayed on two buffers is judged as the definition of the verdict says, and leaves what stands after it.
use Prim.Native.Nat.{ℕ, ◌*◌, ◌≤◌}
use mathlib.Core.Path.{◌≡◌, refl, sym, ap, ◌∙◌}
use mathlib.Core.Bool.{Bool, true, false, cond, ◌&&◌}
use mathlib.Core.List.{List}
use native.Mathlib.Omega.{arith}
use lib.Dec.{leb}
use Rattle.ledger.specs.Call.{Answer, Call, Op, Sizes}
use Rattle.ledger.specs.Call.Answer.{plain}
use Rattle.ledger.specs.Call.Call.{start, op}
use Rattle.pools.proofs.BoolLaws.{and_left, split, true_false}
use Rattle.tables.specs.declared.Caps.{Caps}
use Rattle.tables.specs.Limits.{ENTRY-BYTES, MOST-DATAS, WORDS-MOST}
use Rattle.tables.specs.State.{InRange, caps_of, needed, needed_p, view}
use Rattle.rules.specs.Rule.{Holds, test}
use Rattle.rules.specs.Sound.{range_rule, sound_rule, view_of}
use Rattle.rules.specs.Host.{can_start}
use Rattle.rules.specs.Run.{step}
use Rattle.rules.specs.Story.{Meets, caps_from}
use Rattle.rules.specs.Trim.{newly, trim}
use Rattle.rules.proofs.Frames.Past.{line-past}
use Rattle.rules.proofs.Kept.Rules.{reads}
use Rattle.rules.proofs.Kept.Sound.{range_of}
use Rattle.rules.proofs.Stories.Plays.{can_start_lem, hold, hold_line, start-holds}
use Rattle.rules.proofs.Frames.Trim.{trim-fresh, trim-step}
use Rattle.trace.specs.Kinds.{Asked, asked, encode}
use Rattle.trace.specs.Kinds.Asked.{unknown, begins, asks}
use Rattle.trace.specs.Verdict.{Stand, can_begin, matched, right_one, same, judged}
use Rattle.trace.specs.Verdict.Stand.{stands}
use Rattle.trace.specs.Verdict.Taken.{go, stop}
use Rattle.judge.specs.Feeding.{Bench, Comes, standing}
use Rattle.judge.specs.Replayed.{Begun, Judged, Replayed, Unmoved}

-- ---- room
-- no runtime needs more than there is on the bench
needed_most : (k : Caps) → InRange k → (needed k ≤ WORDS-MOST) × (needed_p k ≤ ENTRY-BYTES * MOST-DATAS)
needed_most k r = (omega (arith, r.few_actors, r.few_mails, r.few_datas, r.few_links, r.few_monitors, r.few_timers), omega (arith, r.few_datas))

module _ {first : Bool} {w p : List ℕ} (h : Bench first w p) where
  -- so a start that could be done where it was made can be done here
  bench_starts : (k : Caps) (m n : ℕ) → can_begin k m n ≡ true → can_start k w p ≡ true
  bench_starts k m n q =
      let t : test (range_rule k) ≡ true = and_left (test (range_rule k)) (leb (needed k) m && leb (needed_p k) n) q in
      let e = needed_most k (range_of k ((reads (range_rule k)).0 t)) in
      can_start_lem k w p t (omega (arith, e.0, h.words)) (omega (arith, e.1, h.bytes))

  -- the bench is as long after a call as it was
  bench_on : (c : Call) (r : Answer) (w' p' : List ℕ) → Meets c w p r w' p' → Holds (sound_rule w' p') → Bench false w' p'
  bench_on c r w' p' m s =
      let l = line-past c w p r w' p' m in
      record { words = omega (arith, l.0, h.words); bytes = omega (arith, l.1, h.bytes); sound = λ q. s }

-- ---- what comes of a record
-- no call was made
comes_not : {w p : List ℕ} {b : Bool} {w' p' : List ℕ} → Unmoved w p b w' p' → Comes stop b w' p'
comes_not {b = b} u = record { right = λ q. absurd (true_false b q u.is); wrong = λ q. refl }

-- a record was compared, and what stands after it is there
comes_so : (x r : List ℕ) (s : Stand) {b : Bool} {w' p' : List ℕ} → b ≡ same x r → s ≡ standing false w' p' → Bench false w' p' → Comes (cond (same x r) (go s) stop) b w' p'
comes_so x r s e f g = record { right = λ q. (rw (sym e ∙ q) (ap go f), g); wrong = λ q. rw (sym e ∙ q) }

-- a call that is no start
comes_call : (o : Op) (w p r : List ℕ) (b : Bool) (w' p' : List ℕ) → Bench false w p → Judged o w p r b w' p' → Comes (matched (right_one (asks o) (standing false w p)) r) b w' p'
unfolding right_one
comes_call o w p r b w' p' h j =
    let k = caps_of w in
    let s = view_of w p in
    let x = hold_line o w p j.ans w' p' j.called (hold w p (h.sound refl)) in
    let t = trim-step o k s in
    let e : encode 0 0 (op o) (step o k (trim s)).ans ≡ encode 0 0 (op o) j.ans = ap (encode 0 0 (op o)) (t.0 ∙ sym x.0) in
    let f : stands k (step o k (trim s)).state ≡ standing false w' p' =
    ap (stands k) (t.1 ∙ ap trim (sym x.1.state)) ∙ ap (λ (c : Caps). stands c (trim (view_of w' p'))) (sym x.1.caps) in
    comes_so (encode 0 0 (op o) (step o k (trim s)).ans) r (stands k (step o k (trim s)).state) (j.is ∙ ap (λ (y : List ℕ). same y r) (sym e)) f (bench_on h (op o) j.ans w' p' j.called x.1.sound)

-- a start that is done
module _ (m n : ℕ) (z : Sizes) {first : Bool} (w p r : List ℕ) (b : Bool) (w' p' : List ℕ) (h : Bench first w p) (j : Begun m n z first w p r b w' p') where
  done_so : can_begin (caps_from z) m n ≡ true → Comes (cond (same (encode m n (start z) (plain 0)) r) (go (stands (caps_from z) (newly (caps_from z)))) stop) b w' p'
  done_so q =
      let k = caps_from z in
      let c = bench_starts h k m n q in
      let g = j.began in
      let v : j.no ≡ 0 = rw (q, c) at g.ans in
      let a : Meets (start z) w p (plain 0) w' p' = record { ans = rw c; words = rw c (rw (q, c) at g.table); bytes = rw c (rw (q, c) at g.area) } in
      let x = start-holds z w p (plain 0) w' p' a c in
      let e : b ≡ same (encode m n (start z) (plain 0)) r = first_done first j.no v j.is in
      let f : stands k (newly k) ≡ standing false w' p' = ap (stands k) (sym (ap trim x.1.state ∙ trim-fresh k (view k w p))) ∙ ap (λ (i : Caps). stands i (trim (view_of w' p'))) (sym x.1.caps) in
      comes_so (encode m n (start z) (plain 0)) r (stands k (newly k)) e f (bench_on h (start z) (plain 0) w' p' a x.1.sound)
    where
      first_done : (f : Bool) (v : ℕ) → v ≡ 0 → b ≡ cond (f && mathlib.Core.Bool.not (lib.Dec.eqb v 0)) false (same (encode m n (start z) (plain v)) r) → b ≡ same (encode m n (start z) (plain 0)) r
      first_done true v e i = rw e at i
      first_done false v e i = rw e at i

  -- one that is refused changes nothing
  not_so : can_begin (caps_from z) m n ≡ false → (j.no ≡ 1) × (w' ≡ w) × (p' ≡ p)
  not_so q = let g = j.began in (rw q at g.ans, rw q at g.table, rw q at g.area)

comes_start : (m n : ℕ) (z : Sizes) (first : Bool) (w p r : List ℕ) (b : Bool) (w' p' : List ℕ) → Bench first w p → Begun m n z first w p r b w' p' →
    Comes (matched (right_one (begins m n z) (standing first w p)) r) b w' p'
unfolding right_one
comes_start m n z true w p r b w' p' h j =
    split (can_begin (caps_from z) m n)
    (λ q. rw q (done_so m n z w p r b w' p' h j q))
    (λ q. let x = not_so m n z w p r b w' p' h j q in
    let e : b ≡ false = rw x.0 at j.is in
    rw q (record { right = λ t. absurd (true_false b t e); wrong = λ t. refl }))
comes_start m n z false w p r b w' p' h j =
    split (can_begin (caps_from z) m n)
    (λ q. rw q (done_so m n z w p r b w' p' h j q))
    (λ q. let x = not_so m n z w p r b w' p' h j q in
    let e : b ≡ same (encode m n (start z) (plain 1)) r = rw x.0 at j.is in
    rw (q, x.1, x.2) (comes_so (encode m n (start z) (plain 1)) r (standing false w p) e refl h))

-- THE THEOREM: what a record does on the buffers is what the definition says of what stands in them
comes : (a : Asked) (first : Bool) (w p r : List ℕ) (b : Bool) (w' p' : List ℕ) → Bench first w p → Replayed a first w p r b w' p' → Comes (matched (right_one a (standing first w p)) r) b w' p'
unfolding right_one
comes unknown first w p r b w' p' h j = comes_not j
comes (begins m n z) first w p r b w' p' h j = comes_start m n z first w p r b w' p' h j
comes (asks o) true w p r b w' p' h j = comes_not j
comes (asks o) false w p r b w' p' h j = comes_call o w p r b w' p' h j

pub replayed_comes : (first : Bool) (w p r : List ℕ) (b : Bool) (w' p' : List ℕ) → Bench first w p → Replayed (asked r) first w p r b w' p' → Comes (judged (standing first w p) r) b w' p'
replayed_comes first w p r b w' p' h j = comes (asked r) first w p r b w' p' h j
