-- A record as bytes: length of what follows, kind, numbers, a text, numbers. One form for every kind.
use Rattle.std.specs.Prelude.{ℕ, zero, suc, ◌+◌, ◌-◌, ◌*◌, ◌^◌, ◌<◌, ◌≡◌, Bool, cond, ◌&&◌, List, [], ◌∷◌, ◌++◌, length, get_or, take, drop, eqb, leb}
use Rattle.records.specs.Bytes.{le, of_le}

-- the numbers in front of the text, the longest text that is recorded whole (0 where the kind has none), the numbers after it;
-- where a kind has a text, the last number in front of it is its length
pub record Form : Type 0 where
  pub fore : ℕ
  pub longest : ℕ
  pub aft : ℕ

abbrev pub form : ℕ → ℕ → ℕ → Form
form n t m = record { fore = n; longest = t; aft = m }

-- a record taken apart
pub record Note : Type 0 where
  pub kind : ℕ
  pub front : List ℕ
  pub text : List ℕ
  pub back : List ℕ

-- "a payload over 252 or a name over 31 bytes is recorded by its length alone"
abbrev pub text_length : Form → List ℕ → ℕ
text_length f ns = cond (eqb f.longest 0) 0 (let n = get_or ns (f.fore - 1) 0 in cond (leb n f.longest) n 0)

-- ---- writing
-- every number takes eight bytes
abbrev pub words : List ℕ → List ℕ
words [] = []
words (x ∷ xs) = le 8 x ++ words xs

abbrev pub body : Note → List ℕ
body n = words n.front ++ (n.text ++ words n.back)

-- "two-byte length, two-byte kind, arguments, answer"
unfoldable pub bytes : Note → List ℕ
bytes n = le 2 (2 + length (body n)) ++ (le 2 n.kind ++ body n)

-- ---- reading
abbrev pub numbers_in : ℕ → List ℕ → List ℕ
numbers_in zero bs = []
numbers_in (suc k) bs = of_le (take 8 bs) ∷ numbers_in k (drop 8 bs)

abbrev pub kind_of : List ℕ → ℕ
kind_of bs = of_le (take 2 (drop 2 bs))

abbrev pub front_of : Form → List ℕ → List ℕ
front_of f bs = numbers_in f.fore (drop 4 bs)

abbrev pub text_of : Form → List ℕ → List ℕ
text_of f bs = take (text_length f (front_of f bs)) (drop (8 * f.fore) (drop 4 bs))

abbrev pub back_of : Form → List ℕ → List ℕ
back_of f bs = numbers_in f.aft (drop (text_length f (front_of f bs)) (drop (8 * f.fore) (drop 4 bs)))

unfoldable pub note : Form → List ℕ → Note
note f bs = record { kind = kind_of bs; front = front_of f bs; text = text_of f bs; back = back_of f bs }

-- how long a record of this form is whose numbers in front are these
abbrev pub extent : Form → List ℕ → ℕ
extent f ns = 4 + (8 * f.fore + (text_length f ns + 8 * f.aft))

-- the bytes are a record of this form, no shorter and no longer
unfoldable pub formed : Form → List ℕ → Bool
formed f bs = eqb (length bs) (extent f (front_of f bs)) && eqb (of_le (take 2 bs) + 2) (length bs)

-- ---- what a note of a form is
abbrev pub Small : List ℕ → Type 0
Small [] = record {}
Small (x ∷ xs) = (x < 256 ^ 8) × Small xs

-- what stands in front of the answer can be read back
pub record Stated (f : Form) (n : Note) : Type 0 where
  pub fronts : length n.front ≡ f.fore
  pub texts : length n.text ≡ text_length f n.front
  pub kinds : n.kind < 256 ^ 2
  pub small_front : Small n.front

-- and so can the answer
pub record Whole (f : Form) (n : Note) : Type 0 where
  pub stated : Stated f n
  pub backs : length n.back ≡ f.aft
  pub size : 2 + length (body n) < 256 ^ 2
  pub small_back : Small n.back
