-- The verdict on a trace.
use Rattle.std.specs.Prelude.{ℕ, zero, suc, ◌+◌, ◌≡◌, Bool, true, false, cond, ◌&&◌, ◌||◌, List, [], ◌∷◌, ◌++◌, length, take, drop, eqb, ltb, leb}
use Rattle.records.specs.Bytes.{of_le}
use Rattle.ledger.specs.Call.{Op, Sizes}
use Rattle.ledger.specs.Call.Answer.{plain}
use Rattle.ledger.specs.Call.Call.{start, op}
use Rattle.tables.specs.declared.Caps.{Caps}
use Rattle.tables.specs.State.{State, needed, needed_p}
use Rattle.rules.specs.Rule.{test}
use Rattle.rules.specs.Sound.{range_rule}
use Rattle.rules.specs.Run.{step}
use Rattle.rules.specs.Story.{caps_from}
use Rattle.rules.specs.Trim.{newly}
use Rattle.trace.specs.Kinds.{Asked, asked, encode}
use Rattle.trace.specs.Kinds.Asked.{unknown, begins, asks}

-- before the first start; after one, the capacities and the state, without what lies past the needed words and bytes
pub data Stand : Type 0 where
  before : Stand
  stands : Caps → State → Stand

-- a start can be done on buffers of w words and p bytes
abbrev pub can_begin : Caps → ℕ → ℕ → Bool
can_begin k w p = test (range_rule k) && (leb (needed k) w && leb (needed_p k) p)

-- ---- one record
-- what the rules make of a call: nothing can be right here; or the record that is, and what stands after it
pub data Said : Type 0 where
  wrong : Said
  right : List ℕ → Stand → Said

-- a start that is done, and one that is refused
abbrev pub begun : ℕ → ℕ → Sizes → Said
begun w p z = right (encode w p (start z) (plain 0)) (stands (caps_from z) (newly (caps_from z)))

abbrev pub unbegun : ℕ → ℕ → Sizes → Stand → Said
unbegun w p z b = right (encode w p (start z) (plain 1)) b

-- "a first record that isn't a successful start gives bad 0"; a later start is judged by the lengths that it carries, as the first is
unfoldable pub right_one : Asked → Stand → Said
right_one unknown b = wrong
right_one (begins w p z) before = cond (can_begin (caps_from z) w p) (begun w p z) wrong
right_one (begins w p z) (stands k s) = cond (can_begin (caps_from z) w p) (begun w p z) (unbegun w p z (stands k s))
right_one (asks o) before = wrong
right_one (asks o) (stands k s) = right (encode 0 0 (op o) (step o k s).ans) (stands k (step o k s).state)

-- the same bytes
abbrev pub same : List ℕ → List ℕ → Bool
same [] [] = true
same [] (y ∷ ys) = false
same (x ∷ xs) [] = false
same (x ∷ xs) (y ∷ ys) = eqb x y && same xs ys

-- a record is right, and this stands after it; or it is not
pub data Taken : Type 0 where
  stop : Taken
  go : Stand → Taken

-- it is right where it is, byte for byte, that of the call that it asks for with the rules' answer
abbrev pub matched : Said → List ℕ → Taken
matched wrong r = stop
matched (right b t) r = cond (same b r) (go t) stop

abbrev pub judged : Stand → List ℕ → Taken
judged b r = matched (right_one (asked r) b) r

-- ---- all of them
pub data Verdict : Type 0 where
  ok bad cut : ℕ → Verdict

-- how long the first record is, its two bytes of length with it; and that the input ends inside it
abbrev pub extent_of : List ℕ → ℕ
extent_of bs = 2 + of_le (take 2 bs)

abbrev pub ends : List ℕ → Bool
ends bs = ltb (length bs) 2 || ltb (length bs) (extent_of bs)

abbrev pub goes_on : Taken → (Stand → Verdict) → Verdict → Verdict
goes_on stop f v = v
goes_on (go t) f v = f t

-- from record n on, in at most m steps: "`cut N`, tested first, when the input ends inside record N"
unfoldable pub judge : ℕ → ℕ → Stand → List ℕ → Verdict
judge zero n b bs = Verdict.ok n
judge (suc m) n b bs =
    cond (eqb (length bs) 0) (Verdict.ok n)
    (cond (ends bs) (Verdict.cut n)
    (goes_on (judged b (take (extent_of bs) bs)) (λ t. judge m (suc n) t (drop (extent_of bs) bs)) (Verdict.bad n)))

-- each record takes two bytes or more, so as many steps as there are bytes are enough
abbrev pub verdict_from : ℕ → Stand → List ℕ → Verdict
verdict_from n b bs = judge (length bs) n b bs

-- "`ok N` after N matching records, `bad N` at the first, counted from 0", that is not right
abbrev pub verdict : List ℕ → Verdict
verdict bs = verdict_from 0 Stand.before bs

-- ---- what `ok` is to mean: the bytes are the records of n lines, the first a start that was done, and each answer is the rules'
pub data Traced : Stand → List ℕ → ℕ → Type 0 where
  over : {b : Stand} → Traced b [] 0
  started : {b : Stand} {bs : List ℕ} {n : ℕ} (w p : ℕ) (z : Sizes) → can_begin (caps_from z) w p ≡ true →
      Traced (stands (caps_from z) (newly (caps_from z))) bs n → Traced b (encode w p (start z) (plain 0) ++ bs) (suc n)
  refused : {k : Caps} {s : State} {bs : List ℕ} {n : ℕ} (w p : ℕ) (z : Sizes) → can_begin (caps_from z) w p ≡ false →
      Traced (stands k s) bs n → Traced (stands k s) (encode w p (start z) (plain 1) ++ bs) (suc n)
  called : {k : Caps} {s : State} {bs : List ℕ} {n : ℕ} (o : Op) →
      Traced (stands k (step o k s).state) bs n → Traced (stands k s) (encode 0 0 (op o) (step o k s).ans ++ bs) (suc n)

-- what stands after them
unfoldable pub left : {b : Stand} {bs : List ℕ} {n : ℕ} → Traced b bs n → Stand
left {b} Traced.over = b
left (Traced.started w p z q t) = left t
left (Traced.refused w p z q t) = left t
left (Traced.called o t) = left t

-- what `ok`, `cut` and `bad` are to mean of what is left of the input after n such records: nothing; it ends inside the next one; the next one is whole and not right
pub data Ending (b : Stand) (rest : List ℕ) (n : ℕ) : Verdict → Type 0 where
  all : length rest ≡ 0 → Ending b rest n (Verdict.ok n)
  inside : (length rest ≡ 0 → ⊥) → ends rest ≡ true → Ending b rest n (Verdict.cut n)
  amiss : (length rest ≡ 0 → ⊥) → ends rest ≡ false → judged b (take (extent_of rest) rest) ≡ Taken.stop → Ending b rest n (Verdict.bad n)
