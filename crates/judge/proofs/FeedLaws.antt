-- A piece of a trace, record by record.
use Prim.Native.Nat.{ℕ, suc, ◌+◌, ◌-◌, ◌*◌, ◌<◌, ◌≤◌}
use mathlib.Core.Path.{◌≡◌, refl, sym, ap, ◌∙◌}
use mathlib.Core.Bool.{Bool, true, false, ◌||◌}
use mathlib.Core.List.{List, ◌++◌, append_assoc}
use native.Mathlib.Numerals.{add-one}
use native.Mathlib.Omega.{arith}
use lib.ListN.{drop, length, length-drop, take, take-append-drop}
use lib.Seq.{drop-drop, length-take-le, take-take}
use lib.Dec.{eqb, ltb}
use borrow.Author.Tests.{lt-ltb, ne_eqb}
use Rattle.pools.proofs.BoolLaws.{true_false}
use Rattle.records.specs.Bytes.{field, of_le}
use Rattle.tables.specs.Limits.{ENTRY-BYTES, MOST-DATAS, WORDS-MOST}
use Rattle.trace.specs.Kinds.{asked}
use Rattle.trace.specs.Verdict.{Taken, extent_of, goes_on, judged, verdict_from}
use Rattle.trace.specs.Verdict.Verdict.{bad}
use Rattle.trace.proofs.StepLaws.{from-whole}
use Rattle.judge.specs.Feeding.{Bench, Comes, Going, standing, unfinished}
use Rattle.judge.specs.Replayed.{Replayed, is_first}
use Rattle.judge.proofs.ReplayLaws.{replayed_comes}

-- before the first record any two buffers will do that are long enough
pub bench_before : (w p : List ℕ) → WORDS-MOST ≤ length w → ENTRY-BYTES * MOST-DATAS ≤ length p → Bench true w p
bench_before w p a b = record { words = a; bytes = b; sound = λ q. absurd (true_false true refl q) }

-- so far every record was right: whatever follows the piece, the verdict is that on what is left of it
pub record Reached (n : ℕ) (w₀ p₀ bs w p : List ℕ) (count used : ℕ) : Type 0 where
  pub part : used ≤ length bs
  pub few : count ≤ n + used
  pub words : length w ≡ length w₀
  pub bytes : length p ≡ length p₀
  pub bench : Bench (is_first count) w p
  pub same : (rest : List ℕ) → verdict_from n (standing (is_first n) w₀ p₀) (bs ++ rest) ≡ verdict_from count (standing (is_first count) w p) (drop used bs ++ rest)

-- before the first record of the piece
pub reached_first : (n : ℕ) (w p bs : List ℕ) → Bench (is_first n) w p → Reached n w p bs w p n 0
reached_first n w p bs h = record { part = omega arith; few = omega arith; words = refl; bytes = refl; bench = h; same = λ rest. refl }

-- ---- one more record, which lies from `used` to `end`
module _ {n : ℕ} {w₀ p₀ bs w p : List ℕ} {count used : ℕ} (h : Reached n w₀ p₀ bs w p count used) (end : ℕ) (e : end ≡ used + 2 + field 2 used bs) (l : end ≤ length bs) where
  abbrev it : List ℕ
  it = take (end - used) (drop used bs)

  abbrev rest_of : List ℕ → List ℕ
  rest_of rest = drop end bs ++ rest

  d : length (drop used bs) ≡ length bs - used
  d = length-drop used bs

  it-length : length it ≡ end - used
  it-length = length-take-le (end - used) (drop used bs) (omega (arith, d))

  it-says : 2 + of_le (take 2 it) ≡ length it
  it-says = let x : take 2 it ≡ take 2 (drop used bs) = take-take 2 (end - used) (drop used bs) (omega arith) in ap (λ (y : List ℕ). 2 + of_le y) x ∙ omega (arith, it-length)

  it-first : (rest : List ℕ) → drop used bs ++ rest ≡ it ++ rest_of rest
  it-first rest =
      let i : used + (end - used) ≡ end = omega arith in
      let x : drop (end - used) (drop used bs) ≡ drop end bs = drop-drop (end - used) used bs ∙ ap (λ (i : ℕ). drop i bs) i in
      ap (λ (y : List ℕ). y ++ rest) (sym (take-append-drop (end - used) (drop used bs)))
      ∙ append_assoc it (drop (end - used) (drop used bs)) rest
      ∙ ap (λ (y : List ℕ). it ++ (y ++ rest)) x

  -- the verdict after it
  onward : (rest : List ℕ) →
      verdict_from n (standing (is_first n) w₀ p₀) (bs ++ rest) ≡ goes_on (judged (standing (is_first count) w p) it) (λ t. verdict_from (suc count) t (rest_of rest)) (bad count)
  onward rest =
      h.same rest ∙ ap (verdict_from count (standing (is_first count) w p)) (it-first rest)
      ∙ from-whole count (standing (is_first count) w p) it (rest_of rest) (omega (arith, it-length)) it-says

  module _ (b : Bool) (w' p' : List ℕ) (j : Replayed (asked it) (is_first count) w p it b w' p') where
    came : Comes (judged (standing (is_first count) w p) it) b w' p'
    came = replayed_comes (is_first count) w p it b w' p' h.bench j

    -- it is right
    pub reached_next : b ≡ true → length w' ≡ length w → length p' ≡ length p → Reached n w₀ p₀ bs w' p' (count + 1) end
    reached_next q x y =
        let c = came.right q in
        let f : is_first (count + 1) ≡ false = ne_eqb (count + 1) 0 (λ (z : count + 1 ≡ 0). omega arith) in
        record {
          part = l;
          few = omega (arith, h.few);
          words = x ∙ h.words;
          bytes = y ∙ h.bytes;
          bench = rw f c.1;
          same = λ rest. onward rest ∙ ap (λ (t : Taken). goes_on t (λ s. verdict_from (suc count) s (rest_of rest)) (bad count)) c.0 ∙ rw (f, add-one count);
        }

    -- it is not
    pub reached_wrong : b ≡ false → (rest : List ℕ) → verdict_from n (standing (is_first n) w₀ p₀) (bs ++ rest) ≡ bad count
    reached_wrong q rest = onward rest ∙ ap (λ (t : Taken). goes_on t (λ s. verdict_from (suc count) s (rest_of rest)) (bad count)) (came.wrong q)

-- ---- no more whole record
or_true : (b : Bool) → b || true ≡ true
or_true true = refl
or_true false = refl

module _ {n : ℕ} {w₀ p₀ bs w p : List ℕ} {count used : ℕ} (h : Reached n w₀ p₀ bs w p count used) where
  pub reached_end : unfinished (drop used bs) ≡ true → Going n w₀ p₀ bs (record { count = count; used = used }) w p
  reached_end u = record { part = h.part; left = u; bench = h.bench; same = h.same }

  -- not even its length is there
  pub reached_none : length bs - used < 2 → unfinished (drop used bs) ≡ true
  reached_none l =
      let d : length (drop used bs) ≡ length bs - used = length-drop used bs in
      rw (lt-ltb (length (drop used bs)) 2 (omega arith)) (or_true (eqb (length (drop used bs)) 0))

  -- it is longer than what is there
  pub reached_part : length bs < used + 2 + field 2 used bs → unfinished (drop used bs) ≡ true
  reached_part l =
      let d : length (drop used bs) ≡ length bs - used = length-drop used bs in
      rw (lt-ltb (length (drop used bs)) (extent_of (drop used bs)) (omega (arith, h.part)), or_true (ltb (length (drop used bs)) 2)) (or_true (eqb (length (drop used bs)) 0))
