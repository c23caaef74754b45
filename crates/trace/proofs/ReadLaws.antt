-- What a record asks for, by its kind: what a reader needs that looks at the kind first, and then at numbers at their places.
use Prim.Native.Nat.{ℕ, zero, suc, ◌+◌, ◌-◌, ◌*◌, ◌<◌, ◌≤◌}
use mathlib.Core.Path.{◌≡◌, sym, ap, ◌∙◌}
use mathlib.Core.Bool.{true, false}
use mathlib.Core.List.{List, map}
use native.Mathlib.Omega.{arith}
use lib.ListN.{get_or-eq_default, get_or-map, drop, get_or, length}
use lib.Seq.{drop-drop}
use lib.Dec.{eqb, leb}
use borrow.Author.Tests.{eqb-true, le-leb, leb-false, leb-true, lt-leb}
use Rattle.ledger.specs.Call.{Op}
use Rattle.pools.proofs.BoolLaws.{and_left, split}
use Rattle.records.specs.Bytes.{field}
use Rattle.trace.specs.Codec.{Form, extent, formed, front_of, kind_of, numbers_in}
use Rattle.trace.specs.Kinds.{Asked, FIRST, Row, asked, call_of, length_right, no_row, nth, read_as, row_of, rows}
use Rattle.trace.specs.Kinds.Asked.{unknown, asks}

-- ---- numbers
-- number i of those that begin at a place is the field of eight bytes there
pub nth_number : (k i at : ℕ) (r : List ℕ) → i < k → nth (numbers_in k (drop at r)) i ≡ field 8 (at + 8 * i) r
nth_number zero i at r h = absurd (omega arith)
nth_number (suc k) zero at r h = let e : at + 8 * 0 ≡ at = omega arith in rw e
nth_number (suc k) (suc i) at r h =
    let d : drop 8 (drop at r) ≡ drop (at + 8) r = drop-drop 8 at r in
    let e : at + 8 + 8 * i ≡ at + 8 * suc i = omega arith in
    rw d (nth_number k i (at + 8) r (omega arith)) ∙ ap (λ (j : ℕ). field 8 j r) e

-- ---- the row of a kind
pub row_at : (k : ℕ) → FIRST ≤ k → row_of k ≡ get_or rows (k - FIRST) no_row
unfolding row_of
row_at k h = rw (le-leb FIRST k h)

pub row_below : (k : ℕ) → k < FIRST → row_of k ≡ no_row
unfolding row_of
row_below k h = rw (lt-leb FIRST k h)

pub row-past : (k : ℕ) → FIRST + length rows ≤ k → row_of k ≡ no_row
row-past k h = row_at k (omega arith) ∙ get_or-eq_default rows no_row {n = k - FIRST} (omega arith)

-- a column of the table: what each kind's row gives, in order
module _ (f : Row → ℕ) (none : f no_row ≡ 0) where
  pub column-at : (k : ℕ) → FIRST ≤ k → get_or (map f rows) (k - FIRST) 0 ≡ f (row_of k)
  column-at k h = ap (get_or (map f rows) (k - FIRST)) (sym none) ∙ get_or-map f rows (k - FIRST) no_row ∙ ap f (sym (row_at k h))

-- ---- what a record asks for
module _ (r : List ℕ) where
  -- one that has not its kind's length, nothing
  pub asked-not : length_right r ≡ false → asked r ≡ unknown
  asked-not h = rw h

  -- any other, what the row of its kind says
  pub asked_as : (k : ℕ) → length_right r ≡ true → kind_of r ≡ k → asked r ≡ read_as (row_of k) r
  unfolding call_of
  asked_as k h e = rw h (ap (λ (j : ℕ). read_as (row_of j) r) e)

  -- it is at least as long as the numbers in front
  pub formed_long : (f : Form) → formed f r ≡ true → 4 + 8 * f.fore ≤ length r
  unfolding formed
  formed_long f h =
      let e : length r ≡ extent f (front_of f r) = eqb-true _ _ (and_left (eqb (length r) (extent f (front_of f r))) _ h) in
      omega arith

-- ---- no other kind than the first asks for a start
pub data Plain : Asked → Type 0 where
  none : Plain unknown
  call : (o : Op) → Plain (asks o)

plain_row : (i : ℕ) (ns t : List ℕ) → Plain ((get_or rows (suc i) no_row).call ns t)
plain_row zero ns t = Plain.call _
plain_row (suc zero) ns t = Plain.call _
plain_row (suc (suc zero)) ns t = Plain.call _
plain_row (suc (suc (suc zero))) ns t = Plain.call _
plain_row (suc (suc (suc (suc zero)))) ns t = Plain.call _
plain_row (suc (suc (suc (suc (suc zero))))) ns t = Plain.call _
plain_row (suc (suc (suc (suc (suc (suc zero)))))) ns t = Plain.call _
plain_row (suc (suc (suc (suc (suc (suc (suc zero))))))) ns t = Plain.call _
plain_row (suc (suc (suc (suc (suc (suc (suc (suc zero)))))))) ns t = Plain.call _
plain_row (suc (suc (suc (suc (suc (suc (suc (suc (suc zero))))))))) ns t = Plain.call _
plain_row (suc (suc (suc (suc (suc (suc (suc (suc (suc (suc zero)))))))))) ns t = Plain.call _
plain_row (suc (suc (suc (suc (suc (suc (suc (suc (suc (suc (suc zero))))))))))) ns t = Plain.call _
plain_row (suc (suc (suc (suc (suc (suc (suc (suc (suc (suc (suc (suc zero)))))))))))) ns t = Plain.call _
plain_row (suc (suc (suc (suc (suc (suc (suc (suc (suc (suc (suc (suc (suc zero))))))))))))) ns t = Plain.call _
plain_row (suc (suc (suc (suc (suc (suc (suc (suc (suc (suc (suc (suc (suc (suc zero)))))))))))))) ns t = Plain.call _
plain_row (suc (suc (suc (suc (suc (suc (suc (suc (suc (suc (suc (suc (suc (suc (suc zero))))))))))))))) ns t = Plain.call _
plain_row (suc (suc (suc (suc (suc (suc (suc (suc (suc (suc (suc (suc (suc (suc (suc (suc zero)))))))))))))))) ns t = Plain.call _
plain_row (suc (suc (suc (suc (suc (suc (suc (suc (suc (suc (suc (suc (suc (suc (suc (suc (suc zero))))))))))))))))) ns t = Plain.call _
plain_row (suc (suc (suc (suc (suc (suc (suc (suc (suc (suc (suc (suc (suc (suc (suc (suc (suc (suc zero)))))))))))))))))) ns t = Plain.call _
plain_row (suc (suc (suc (suc (suc (suc (suc (suc (suc (suc (suc (suc (suc (suc (suc (suc (suc (suc (suc zero))))))))))))))))))) ns t = Plain.call _
plain_row (suc (suc (suc (suc (suc (suc (suc (suc (suc (suc (suc (suc (suc (suc (suc (suc (suc (suc (suc (suc zero)))))))))))))))))))) ns t = Plain.call _
plain_row (suc (suc (suc (suc (suc (suc (suc (suc (suc (suc (suc (suc (suc (suc (suc (suc (suc (suc (suc (suc (suc zero))))))))))))))))))))) ns t = Plain.call _
plain_row (suc (suc (suc (suc (suc (suc (suc (suc (suc (suc (suc (suc (suc (suc (suc (suc (suc (suc (suc (suc (suc (suc i)))))))))))))))))))))) ns t = Plain.none

pub plain_kind : (r : List ℕ) (k : ℕ) → length_right r ≡ true → kind_of r ≡ k → (k ≡ FIRST → ⊥) → Plain (asked r)
plain_kind r k h e n =
    split (leb FIRST k)
    (λ q. let g = leb-true FIRST k q in
    let i : k - FIRST ≡ suc (k - FIRST - 1) = omega arith in
    rw (asked_as r k h e, row_at k g, i) (plain_row (k - FIRST - 1) _ _))
    (λ q. rw (asked_as r k h e, row_below k (leb-false FIRST k q)) Plain.none)
