-- The forms as the code has them are those of the table of kinds, and a record has the form of its kind where its length says so.
use Prim.Native.Nat.{ℕ, zero, suc, ◌+◌, ◌-◌, ◌*◌, ◌<◌, ◌≤◌}
use mathlib.Core.Path.{◌≡◌, refl, sym, ap, ◌∙◌}
use mathlib.Core.Bool.{Bool, true, false, cond, ◌&&◌}
use mathlib.Core.List.{List, [], ◌∷◌, ◌++◌}
use native.Mathlib.Omega.{arith}
use lib.ListN.{get_or-append, get_or, get_or-replicate, length, replicate, take}
use lib.Seq.{get_or-append-add}
use lib.Dec.{eqb, leb}
use borrow.Author.Tests.{eq-eqb, le-leb, leb-false, leb-true, lt-leb, ne_eqb}
use Rattle.pools.proofs.BoolLaws.{and_left, and_right, split}
use Rattle.records.specs.Bytes.{field, of_le}
use Rattle.trace.specs.Codec.{Form, extent, form, formed, front_of, text_length}
use Rattle.trace.specs.declared.kind.Kind.{Kind}
use Rattle.trace.specs.declared.kind.Kind.TheVariants.{Start, Spawn, Next, Yield, Notify, Receive, Show, Shown, After, Every, Cancel, Link, Unlink, Monitor, Demonitor, Exit, Advance, Report, Bus, Publish, Subscribe, Unsubscribe, Read}
use Rattle.trace.specs.Kind.{number}
use Rattle.trace.specs.Kinds.{FIRST, no_row, row_of}
use Rattle.trace.proofs.ReadLaws.{column-at, nth_number, row_below, row-past}
use Rattle.judge.specs.declared.forms.Form.{Form as Known}
use Rattle.judge.specs.Forms.{shape_of}

-- ---- the three columns
abbrev fores : List ℕ
fores = 8 ∷ 1 ∷ 0 ∷ 0 ∷ 3 ∷ 4 ∷ 1 ∷ 0 ∷ 1 ∷ 1 ∷ 1 ∷ 1 ∷ 1 ∷ 1 ∷ 1 ∷ 1 ∷ 1 ∷ 0 ∷ 4 ∷ 2 ∷ 1 ∷ 1 ∷ 4 ∷ []

abbrev longests : List ℕ
longests = 0 ∷ 0 ∷ 0 ∷ 0 ∷ 252 ∷ 0 ∷ 252 ∷ 0 ∷ 0 ∷ 0 ∷ 0 ∷ 0 ∷ 0 ∷ 0 ∷ 0 ∷ 0 ∷ 0 ∷ 0 ∷ 0 ∷ 252 ∷ 0 ∷ 0 ∷ 252 ∷ []

abbrev afts : List ℕ
afts = 1 ∷ 2 ∷ 4 ∷ 1 ∷ 1 ∷ 5 ∷ 0 ∷ 3 ∷ 2 ∷ 2 ∷ 1 ∷ 1 ∷ 1 ∷ 2 ∷ 1 ∷ 3 ∷ 2 ∷ 7 ∷ 2 ∷ 1 ∷ 1 ∷ 1 ∷ 0 ∷ []

pub form-at : (k : ℕ) → FIRST ≤ k → form (get_or fores (k - FIRST) 0) (get_or longests (k - FIRST) 0) (get_or afts (k - FIRST) 0) ≡ (row_of k).shape
form-at k h =
    let e₁ : get_or fores (k - FIRST) 0 ≡ (row_of k).shape.fore = column-at (λ r. r.shape.fore) refl k h in
    let e₂ : get_or longests (k - FIRST) 0 ≡ (row_of k).shape.longest = column-at (λ r. r.shape.longest) refl k h in
    let e₃ : get_or afts (k - FIRST) 0 ≡ (row_of k).shape.aft = column-at (λ r. r.shape.aft) refl k h in
    rw (e₁, e₂, e₃)

-- and those are the forms that the code has: what `form_of` answers for a number, by its contract, stands in the columns
pub form-answered : (k : ℕ) (f : Known) → FIRST ≤ k → shape_of f ≡ (row_of k).shape →
    (f.fore ≡ get_or fores (k - FIRST) 0) × (f.longest ≡ get_or longests (k - FIRST) 0) × (f.aft ≡ get_or afts (k - FIRST) 0)
form-answered k f h e =
    let g : shape_of f ≡ form (get_or fores (k - FIRST) 0) (get_or longests (k - FIRST) 0) (get_or afts (k - FIRST) 0) = e ∙ sym (form-at k h) in
    (ap (λ (x : Form). x.fore) g, ap (λ (x : Form). x.longest) g, ap (λ (x : Form). x.aft) g)

-- the kinds from 24 to 32 have one number in front
fores-one : (j : ℕ) → j < 9 → get_or fores (8 + j) 0 ≡ 1
fores-one j l =
    get_or-append-add (8 ∷ 1 ∷ 0 ∷ 0 ∷ 3 ∷ 4 ∷ 1 ∷ 0 ∷ []) (replicate 9 1 ++ (0 ∷ 4 ∷ 2 ∷ 1 ∷ 1 ∷ 4 ∷ [])) j 0
    ∙ get_or-append (replicate 9 1) (0 ∷ 4 ∷ 2 ∷ 1 ∷ 1 ∷ 4 ∷ []) 0 j l
    ∙ get_or-replicate 9 j 1 0 l

pub fore_one : (k : ℕ) → 24 ≤ k → k < 33 → (row_of k).shape.fore ≡ 1
fore_one k a b =
    let e : k - FIRST ≡ 8 + (k - 24) = omega arith in
    sym (column-at (λ r. r.shape.fore) refl k (omega arith)) ∙ ap (λ (i : ℕ). get_or fores i 0) e ∙ fores-one (k - 24) (omega arith)

-- no number in a list is more than this
abbrev at_most : ℕ → List ℕ → Bool
at_most b [] = true
at_most b (x ∷ xs) = leb x b && at_most b xs

most_at : (b : ℕ) (l : List ℕ) (i : ℕ) → at_most b l ≡ true → get_or l i 0 ≤ b
most_at b [] i h = omega arith
most_at b (x ∷ xs) zero h = leb-true x b (and_left (leb x b) (at_most b xs) h)
most_at b (x ∷ xs) (suc i) h = most_at b xs i (and_right (leb x b) (at_most b xs) h)

pub form_most : (i : ℕ) → (get_or fores i 0 ≤ 8) × (get_or longests i 0 ≤ 252) × (get_or afts i 0 ≤ 7)
form_most i = (most_at 8 fores i refl, most_at 252 longests i refl, most_at 7 afts i refl)

-- ---- a number that is no kind's
-- one more number is told apart
apart : {j k : ℕ} → (j ≡ k → ⊥) → j ≤ k → suc j ≤ k
apart n l = omega arith

-- a number that is no kind's is in no row
pub no_kind : (n : ℕ) → ((kind : Kind) → number kind ≡ n → ⊥) → row_of n ≡ no_row
no_kind n h = split (leb FIRST n) (λ q. row-past n (past (leb-true FIRST n q))) (λ q. row_below n (leb-false FIRST n q))
  where
    past : 16 ≤ n → 39 ≤ n
    past q = apart (h Read) (apart (h Unsubscribe) (apart (h Subscribe) (apart (h Publish) (apart (h Bus) (apart (h Report) (apart (h Advance) (apart (h Exit) (apart (h Demonitor) (apart (h Monitor) (apart (h Unlink) (apart (h Link) (apart (h Cancel) (apart (h Every) (apart (h After) (apart (h Shown) (apart (h Show) (apart (h Receive) (apart (h Notify) (apart (h Yield) (apart (h Next) (apart (h Spawn) (apart (h Start) q))))))))))))))))))))))

-- ---- the length of a record
module _ (f : Form) (r : List ℕ) where
  pub text_none : f.longest ≡ 0 → text_length f (front_of f r) ≡ 0
  text_none e = rw (eq-eqb f.longest 0 e)

  pub text_bare : f.fore ≡ 0 → text_length f (front_of f r) ≡ 0
  text_bare e = rw e (both f.longest)
    where
      both : (n : ℕ) → ◌≡◌ {A = ℕ} (cond (eqb n 0) 0 (cond (leb 0 n) 0 0)) 0
      both zero = refl
      both (suc n) = rw (ne_eqb (suc n) 0 (λ (e : suc n ≡ 0). omega arith), le-leb 0 (suc n) (omega arith))

  last-number : (f.fore ≡ 0 → ⊥) → get_or (front_of f r) (f.fore - 1) 0 ≡ field 8 (8 * f.fore - 4) r
  last-number n =
      let e : 4 + 8 * (f.fore - 1) ≡ 8 * f.fore - 4 = omega arith in
      nth_number f.fore (f.fore - 1) 4 r (omega arith) ∙ ap (λ (i : ℕ). field 8 i r) e

  pub text_whole : (f.longest ≡ 0 → ⊥) → (f.fore ≡ 0 → ⊥) → field 8 (8 * f.fore - 4) r ≤ f.longest → text_length f (front_of f r) ≡ field 8 (8 * f.fore - 4) r
  text_whole a n h = rw (ne_eqb f.longest 0 a, last-number n, le-leb (field 8 (8 * f.fore - 4) r) f.longest h)

  pub text_over : (f.longest ≡ 0 → ⊥) → (f.fore ≡ 0 → ⊥) → f.longest < field 8 (8 * f.fore - 4) r → text_length f (front_of f r) ≡ 0
  text_over a n h = rw (ne_eqb f.longest 0 a, last-number n, lt-leb (field 8 (8 * f.fore - 4) r) f.longest h)

  pub formed-short : length r < 4 + 8 * f.fore → formed f r ≡ false
  unfolding formed
  formed-short h = rw (ne_eqb (length r) (extent f (front_of f r)) (λ (e : length r ≡ extent f (front_of f r)). omega arith))

  pub formed-not : (length r ≡ 4 + 8 * f.fore + text_length f (front_of f r) + 8 * f.aft → ⊥) → formed f r ≡ false
  unfolding formed
  formed-not n = rw (ne_eqb (length r) (extent f (front_of f r)) (λ (e : length r ≡ extent f (front_of f r)). n (omega arith)))

  pub formed-says : length r ≡ 4 + 8 * f.fore + text_length f (front_of f r) + 8 * f.aft → formed f r ≡ eqb (of_le (take 2 r) + 2) (length r)
  unfolding formed
  formed-says e = let g : length r ≡ extent f (front_of f r) = omega arith in rw (eq-eqb (length r) (extent f (front_of f r)) g)
