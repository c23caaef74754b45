-- A trace that was written from a successful start gives `ok`.
use Prim.Native.Nat.{ℕ, suc, ◌+◌, ◌^◌, ◌<◌, ◌≤◌}
use mathlib.Core.Path.{◌≡◌, refl, sym, ap, subst, ◌∙◌}
use mathlib.Core.Bool.{true, false, ◌&&◌}
use mathlib.Core.Logic.{◌↔◌}
use mathlib.Core.List.{List, [], ◌∷◌, ◌++◌, append_assoc, append-nil}
use native.Mathlib.Omega.{arith}
use lib.ListN.{length, take, drop}
use lib.Dec.{leb}
use Rattle.ledger.specs.Call.{Answer, Call, Line, Op, Sizes}
use Rattle.ledger.specs.Call.Answer.{plain}
use Rattle.ledger.specs.Call.Call.{start, op}
use Rattle.pools.proofs.BoolLaws.{and_left, split}
use Rattle.records.specs.Bytes.{Bytes, of_le}
use Rattle.tables.specs.declared.Caps.{Caps}
use Rattle.tables.specs.State.{State, needed, needed_p, view}
use Rattle.rules.specs.Rule.{test}
use Rattle.rules.specs.Sound.{range_rule}
use Rattle.rules.specs.Calls.{Out}
use Rattle.rules.specs.Host.{can_start, fresh}
use Rattle.rules.specs.Run.{afterwards, lines, step}
use Rattle.rules.specs.Story.{Meets, Story, caps_from, line}
use Rattle.rules.specs.Trim.{newly, trim}
use Rattle.rules.specs.Good.{Good}
use Rattle.rules.proofs.Kept.Rules.{reads}
use Rattle.rules.proofs.Kept.Sound.{range_of}
use Rattle.rules.proofs.Kept.Start.{fresh_good}
use Rattle.rules.proofs.Stories.Plays.{Hold, did_start, start-holds, story_plays}
use Rattle.rules.proofs.Table.{step_keeps}
use Rattle.rules.proofs.Frames.Trim.{trim-fresh, trim-step}
use Rattle.trace.specs.Codec.{Note, Small, body, bytes}
use Rattle.trace.specs.Kinds.{Asked, abridged, asked, encode, note_of, start_args}
use Rattle.trace.specs.Kinds.Asked.{asks, begins}
use Rattle.trace.specs.Verdict.{Ending, Said, Stand, Taken, Traced, Verdict, begun, can_begin, extent_of, goes_on, left, matched, right_one, judged, unbegun, verdict, verdict_from}
use Rattle.trace.specs.Verdict.Said.{right}
use Rattle.trace.specs.Verdict.Stand.{before, stands}
use Rattle.trace.specs.Verdict.Taken.{go}
use Rattle.trace.specs.Verdict.Verdict.{ok, bad}
use Rattle.trace.specs.Writing.{Fitted, Fitting, Means, Passes, done, written}
use Rattle.trace.proofs.CodecLaws.{length-bytes, size-bytes}
use Rattle.trace.proofs.FitLaws.{fits_op}
use Rattle.trace.proofs.KindLaws.{abridged-same, abridged-step, known, read_op, read-start, short-start}
use Rattle.trace.proofs.OkLaws.{ok_fits, same_refl, verdict_means}
use Rattle.trace.proofs.StepLaws.{from_cut, from_next, from_none, from-whole}

-- ---- one record in front of others
-- it says its own length
record Framed (r : List ℕ) : Type 0 where
  long : 2 ≤ length r
  says : 2 + of_le (take 2 r) ≡ length r

framed : (n : Note) → 2 + length (body n) < 256 ^ 2 → Framed (bytes n)
framed n h = record { long = omega (arith, length-bytes n); says = omega (arith, length-bytes n, size-bytes n h) }

framed_op : (o : Op) (k : Caps) (s : State) → Framed (encode 0 0 (op o) (step o k s).ans)
unfolding encode
framed_op o k s = framed (done o k s) (known o k s).size

framed-start : (w p : ℕ) (z : Sizes) (n : ℕ) → Framed (encode w p (start z) (plain n))
unfolding encode
framed-start w p z n = framed (note_of w p (start z) (plain n)) (short-start w p z n)

-- where the rules say it of what it asks for, it is taken, and the rest is judged from there
from_right : (n : ℕ) (b t : Stand) (r bs : List ℕ) → Framed r → right_one (asked r) b ≡ right r t → verdict_from n b (r ++ bs) ≡ verdict_from (suc n) t bs
from_right n b t r bs f e =
    let g : judged b r ≡ go t = ap (λ (x : Said). matched x r) e ∙ rw (same_refl r) in
    from-whole n b r bs f.long f.says ∙ ap (λ (x : Taken). goes_on x (λ u. verdict_from (suc n) u bs) (bad n)) g

-- ---- each line
said-done : (w p : ℕ) (z : Sizes) (b : Stand) → can_begin (caps_from z) w p ≡ true → right_one (begins w p z) b ≡ begun w p z
unfolding right_one
said-done w p z before q = rw q
said-done w p z (stands k s) q = rw q

said-not : (w p : ℕ) (z : Sizes) (k : Caps) (s : State) → can_begin (caps_from z) w p ≡ false → right_one (begins w p z) (stands k s) ≡ unbegun w p z (stands k s)
unfolding right_one
said-not w p z k s q = rw q

-- a payload over 252 bytes is read back as zeros, and neither record nor rule sees it
said_op : (o : Op) (k : Caps) (s : State) → right_one (asks (abridged o)) (stands k s) ≡ right (encode 0 0 (op o) (step o k s).ans) (stands k (step o k s).state)
unfolding right_one
said_op o k s =
    ap (λ (x : Out Answer). right (encode 0 0 (op (abridged o)) x.ans) (stands k x.state)) (abridged-step o k s)
    ∙ ap (λ (x : List ℕ). right x (stands k (step o k s).state)) (abridged-same o (step o k s).ans)

-- ---- WHAT `Traced` SAYS IS ENOUGH
-- nothing, or a sound runtime
abbrev Fine : Stand → Type 0
Fine before = record {}
Fine (stands k s) = Good k s

begun-fine : (k : Caps) (w p : ℕ) → can_begin k w p ≡ true → Good k (newly k)
unfolding newly
begun-fine k w p q = fresh_good k (λ c. []) (range_of k ((reads (range_rule k)).0 (and_left (test (range_rule k)) (leb (needed k) w && leb (needed_p k) p) q)))

-- such lines are right, whatever comes after them
from_traced : {b : Stand} {bs : List ℕ} {n : ℕ} (t : Traced b bs n) → Fitting t → Fine b → (i : ℕ) (rest : List ℕ) → verdict_from i b (bs ++ rest) ≡ verdict_from (i + n) (left t) rest
unfolding Fitting left
from_traced {b} Traced.over f g i rest = ap (λ (j : ℕ). verdict_from j b rest) (omega arith)
from_traced {b} (Traced.started {bs = bs} {n = n} w p z q t) f g i rest =
    let r = encode w p (start z) (plain 0) in
    ap (verdict_from i b) (append_assoc r bs rest)
    ∙ from_right i b (stands (caps_from z) (newly (caps_from z))) r (bs ++ rest) (framed-start w p z 0)
    (ap (λ (x : Asked). right_one x b) (read-start w p z 0 f.0.small) ∙ said-done w p z b q)
    ∙ from_traced t f.1 (begun-fine (caps_from z) w p q) (suc i) rest ∙ ap (λ (j : ℕ). verdict_from j (left t) rest) (omega arith)
from_traced (Traced.refused {k} {s} {bs} {n} w p z q t) f g i rest =
    let r = encode w p (start z) (plain 1) in
    ap (verdict_from i (stands k s)) (append_assoc r bs rest)
    ∙ from_right i (stands k s) (stands k s) r (bs ++ rest) (framed-start w p z 1)
    (ap (λ (x : Asked). right_one x (stands k s)) (read-start w p z 1 f.0.small) ∙ said-not w p z k s q)
    ∙ from_traced t f.1 g (suc i) rest ∙ ap (λ (j : ℕ). verdict_from j (left t) rest) (omega arith)
from_traced (Traced.called {k} {s} {bs} {n} o t) f g i rest =
    let r = encode 0 0 (op o) (step o k s).ans in
    ap (verdict_from i (stands k s)) (append_assoc r bs rest)
    ∙ from_right i (stands k s) (stands k (step o k s).state) r (bs ++ rest) (framed_op o k s)
    (ap (λ (x : Asked). right_one x (stands k s)) (read_op o k s (fits_op o k s g f.0)) ∙ said_op o k s)
    ∙ from_traced t f.1 (step_keeps o k s g) (suc i) rest ∙ ap (λ (j : ℕ). verdict_from j (left t) rest) (omega arith)

ending_is : {b : Stand} {rest : List ℕ} {n : ℕ} {v : Verdict} → Ending b rest n v → verdict_from n b rest ≡ v
ending_is {b} {rest} {n} (Ending.all h) = from_none n b rest h
ending_is {b} {rest} {n} (Ending.inside h p) = from_cut n b rest h p
ending_is {b} {rest} {n} (Ending.amiss h p q) = from_next n b rest h p ∙ ap (λ (x : Taken). goes_on x (λ t. verdict_from (suc n) t (drop (extent_of rest) rest)) (bad n)) q

-- EXACTLY THEN: some bytes give a verdict where they are what it says, and nowhere else
pub judged_so : (bs : List ℕ) (v : Verdict) → Means bs v → verdict bs ≡ v
judged_so bs v x = ap verdict x.is ∙ from_traced x.traced x.fitting (record {}) 0 x.rest ∙ ap (λ (j : ℕ). verdict_from j (left x.traced) x.rest) (omega arith) ∙ ending_is x.ending

pub verdict_exactly : (bs : List ℕ) (v : Verdict) → Bytes bs → (verdict bs ≡ v) ↔ Means bs v
verdict_exactly bs v b = (λ e. subst (Means bs) e (verdict_means bs b), judged_so bs v)

-- the converse of `ok_means`: records of n lines, the first a start that was done, each answer the rules', and every number that was passed of 64 bits
pub traced_ok : {bs : List ℕ} {n : ℕ} (t : Traced before bs n) → Fitting t → verdict bs ≡ ok n
traced_ok {bs} {n} t f = judged_so bs (ok n) (record { count = n; front = bs; rest = []; is = sym (append-nil bs); traced = t; fitting = f; ending = Ending.all refl })

pub ok_exactly : (bs : List ℕ) (n : ℕ) → Bytes bs → (verdict bs ≡ ok n) ↔ ((t : Traced before bs n) × Fitting t)
ok_exactly bs n b = (ok_fits bs n b, λ x. traced_ok x.0 x.1)

-- ---- a story
-- the bytes are the records of n lines, and every number that was passed fits
abbrev Recorded : Stand → List ℕ → ℕ → Type 0
Recorded b bs n = (t : Traced b bs n) × Fitting t

encode_op : (w p : ℕ) (o : Op) (a : Answer) → encode w p (op o) a ≡ encode 0 0 (op o) a
unfolding encode
encode_op w p o a = refl

-- a call on buffers that hold a state: a story of one line
hold_op : {k : Caps} {u : State} (o : Op) (w p : List ℕ) (r : Answer) (w₁ p₁ : List ℕ) → Meets (op o) w p r w₁ p₁ → Hold k u w p → (r ≡ (step o k u).ans) × Hold k (step o k u).state w₁ p₁
unfolding lines afterwards
hold_op {k} {u} o w p r w₁ p₁ m h =
    let g = story_plays k u (o ∷ []) h (Story.then {x = line (op o) r} m Story.over) refl in
    let e : line (op o) r ∷ [] ≡ line (op o) (step o k u).ans ∷ [] = g.0 in
    (ap first_answer e, g.1)
  where
    first_answer : List Line → Answer
    first_answer [] = plain 0
    first_answer (x ∷ xs) = x.answer

-- a start that is done, whatever stood before
done-line : (b : Stand) (z : Sizes) (w p : List ℕ) (r : Answer) (bs : List ℕ) (n : ℕ) → r ≡ plain 0 → can_start (caps_from z) w p ≡ true → Passes (length w) (length p) (start z) →
    Recorded (stands (caps_from z) (trim (fresh (caps_from z) (view (caps_from z) w p)))) bs n → Recorded b (encode (length w) (length p) (start z) r ++ bs) (suc n)
unfolding Fitting
done-line b z w p r bs n a q f x =
    let y : Recorded (stands (caps_from z) (newly (caps_from z))) bs n = subst (λ (s : State). Recorded (stands (caps_from z) s) bs n) (trim-fresh (caps_from z) (view (caps_from z) w p)) x in
    rw a (Traced.started (length w) (length p) z q y.0, (f, y.1))

-- any line: what is after it stands on what it leaves
one_line : (c : Call) (w p : List ℕ) (r : Answer) (w₁ p₁ : List ℕ) (k : Caps) (u : State) (bs : List ℕ) (n : ℕ) → Meets c w p r w₁ p₁ → Passes (length w) (length p) c → Hold k u w p →
    ((k : Caps) (u : State) → Hold k u w₁ p₁ → Recorded (stands k (trim u)) bs n) → Recorded (stands k (trim u)) (encode (length w) (length p) c r ++ bs) (suc n)
unfolding Fitting
one_line (start z) w p r w₁ p₁ k u bs n m f h x =
    split (can_start (caps_from z) w p)
    (λ q. let g = start-holds z w p r w₁ p₁ m q in done-line (stands k (trim u)) z w p r bs n g.0 q f (x (caps_from z) (fresh (caps_from z) (view (caps_from z) w p)) g.1))
    (λ q. let a : r ≡ plain 1 = rw q at m.ans in
    let y = x k u (rw (rw q at m.words, rw q at m.bytes) h) in
    rw a (Traced.refused (length w) (length p) z q y.0, (f, y.1)))
one_line (op o) w p r w₁ p₁ k u bs n m f h x =
    let g = hold_op o w p r w₁ p₁ m h in
    let e = trim-step o k u in
    let y : Recorded (stands k (step o k (trim u)).state) bs n = subst (λ (s : State). Recorded (stands k s) bs n) (sym e.1) (x k (step o k u).state g.1) in
    let a : encode (length w) (length p) (op o) r ≡ encode 0 0 (op o) (step o k (trim u)).ans = encode_op (length w) (length p) o r ∙ ap (encode 0 0 (op o)) (g.0 ∙ sym e.0) in
    rw a (Traced.called o y.0, (record { small = f.small; signs = f.signs }, y.1))

story_lines : {w p w' p' : List ℕ} {xs : List Line} (s : Story w p xs w' p') → Fitted s → (k : Caps) (u : State) → Hold k u w p → Recorded (stands k (trim u)) (written s) (length xs)
unfolding written Fitted Fitting
story_lines Story.over f k u h = (Traced.over, record {})
story_lines (Story.then {w} {p} {w₁} {p₁} {x = x} {xs = xs} m s) f k u h = one_line x.call w p x.answer w₁ p₁ k u (written s) (length xs) m f.0 h (story_lines s f.1)

-- A TRACE WRITTEN FROM A SUCCESSFUL START, of calls on its buffers that nobody else writes, gives `ok` of its number of lines. Every number that was passed fits 64 bits
pub trace_ok : (z : Sizes) {w p w₁ p₁ w' p' : List ℕ} {xs : List Line} → Meets (start z) w p (plain 0) w₁ p₁ → (s : Story w₁ p₁ xs w' p') →
    Small (start_args (length w) (length p) z) → Fitted s → verdict (encode (length w) (length p) (start z) (plain 0) ++ written s) ≡ ok (suc (length xs))
trace_ok z {w} {p} {w₁} {p₁} {xs = xs} m s f g =
    let q = did_start z w p w₁ p₁ m in
    let k = caps_from z in
    let u = fresh k (view k w p) in
    let x = story_lines s g k u (start-holds z w p (plain 0) w₁ p₁ m q).1 in
    let y = done-line before z w p (plain 0) (written s) (length xs) refl q (record { small = f; signs = record {} }) x in
    traced_ok y.0 y.1
