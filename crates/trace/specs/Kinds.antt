-- THE TABLE of kinds, and a call with its answer as a note.
use Rattle.std.specs.Prelude.{ℕ, ◌-◌, ◌^◌, ◌<◌, Bool, cond, List, [], ◌∷◌, ◌++◌, length, get_or, replicate, ℤ, pos, negsuc, leb, ltb}
use Rattle.ledger.specs.Call.{Answer, Call, Op, Sizes}
use Rattle.ledger.specs.Call.Answer.{plain, made, turn, received, part, place, ended, advanced, counts, copied}
use Rattle.ledger.specs.Call.Call.{start, op}
use Rattle.ledger.specs.Call.Op.{spawn, next, yield, notify, receive, show, shown, after, every, cancel, link, unlink, monitor, demonitor, exit, advance, report, bus, publish, subscribe, unsubscribe, read}
use Rattle.tables.specs.Limits.{PAYLOAD-MOST}
use Rattle.trace.specs.Codec.{Form, Note, Small, bytes, form, formed, front_of, kind_of, text_of}

-- signed numbers, as two's complement
abbrev pub unsigned : ℤ → ℕ
unsigned (pos n) = n
unsigned (negsuc n) = 2 ^ 64 - 1 - n

abbrev pub signed : ℕ → ℤ
signed x = cond (ltb x (2 ^ 63)) (pos x) (negsuc (2 ^ 64 - 1 - x))

-- "a payload over 252 .. is recorded by its length alone"
abbrev pub kept : List ℕ → List ℕ
kept bs = cond (leb (length bs) PAYLOAD-MOST) bs []

-- what stands for the payload when it is read: itself, or as many zeros
abbrev pub stood : ℕ → List ℕ → List ℕ
stood n bs = cond (leb n PAYLOAD-MOST) bs (replicate n 0)

-- ---- what a record asks for: nothing that is known, a start with the lengths of its buffers, another call
pub data Asked : Type 0 where
  unknown : Asked
  begins : ℕ → ℕ → Sizes → Asked
  asks : Op → Asked

-- ---- a kind: its form, and the call that its numbers and its text ask for
pub record Row : Type 0 where
  pub shape : Form
  pub call : List ℕ → List ℕ → Asked

-- so many numbers in front, a text of at most so many bytes (0: none), so many numbers after it; and the call
abbrev pub row : ℕ → ℕ → ℕ → (List ℕ → List ℕ → Asked) → Row
row n t m f = record { shape = form n t m; call = f }

-- number i, counted from 0
abbrev pub nth : List ℕ → ℕ → ℕ
nth ns i = get_or ns i 0

-- a call with one number
abbrev pub one : (ℕ → Op) → List ℕ → List ℕ → Asked
one f ns t = asks (f (nth ns 0))

-- a call with none
abbrev pub bare : Op → List ℕ → List ℕ → Asked
bare o ns t = asks o

-- kinds 16, 17, 18, ..
abbrev pub rows : List Row
rows =
    row 8 0 1 (λ ns t. begins (nth ns 0) (nth ns 1) (record { actors = nth ns 2; mails = nth ns 3; datas = nth ns 4; links = nth ns 5; monitors = nth ns 6; timers = nth ns 7 }))
    ∷ row 1 0 2 (one spawn)
    ∷ row 0 0 4 (bare next)
    ∷ row 0 0 1 (bare yield)
    ∷ row 3 PAYLOAD-MOST 1 (λ ns t. asks (notify (nth ns 0) (nth ns 1) (stood (nth ns 2) t)))
    ∷ row 4 0 5 (λ ns t. asks (receive (nth ns 0) (nth ns 1) (nth ns 2) (signed (nth ns 3))))
    ∷ row 1 PAYLOAD-MOST 0 (bare show)
    ∷ row 0 0 3 (bare shown)
    ∷ row 1 0 2 (one after)
    ∷ row 1 0 2 (one every)
    ∷ row 1 0 1 (one cancel)
    ∷ row 1 0 1 (one link)
    ∷ row 1 0 1 (one unlink)
    ∷ row 1 0 2 (one monitor)
    ∷ row 1 0 1 (one demonitor)
    ∷ row 1 0 3 (one exit)
    ∷ row 1 0 2 (one advance)
    ∷ row 0 0 7 (bare report)
    ∷ row 4 0 2 (λ ns t. asks (bus (nth ns 0) (nth ns 1) (nth ns 2) (nth ns 3)))
    ∷ row 2 PAYLOAD-MOST 1 (λ ns t. asks (publish (nth ns 0) (stood (nth ns 1) t)))
    ∷ row 1 0 1 (one subscribe)
    ∷ row 1 0 1 (one unsubscribe)
    ∷ row 4 PAYLOAD-MOST 0 (λ ns t. asks (read (nth ns 0) (nth ns 1)))
    ∷ []

-- 1 to 4 are records inside messages, and never a trace's
abbrev pub FIRST : ℕ
FIRST = 16

-- a kind that is in no row
abbrev pub no_row : Row
no_row = row 0 0 0 (λ ns t. unknown)

unfoldable pub row_of : ℕ → Row
row_of kind = cond (leb FIRST kind) (get_or rows (kind - FIRST) no_row) no_row

-- the call that a record asks for
abbrev pub read_as : Row → List ℕ → Asked
read_as r bs = r.call (front_of r.shape bs) (text_of r.shape bs)

unfoldable pub call_of : List ℕ → Asked
call_of bs = read_as (row_of (kind_of bs)) bs

-- a record's length is that of its kind
abbrev pub length_right : List ℕ → Bool
length_right bs = formed (row_of (kind_of bs)).shape bs

-- what some bytes ask for: "whose kind or length is unknown"
abbrev pub asked : List ℕ → Asked
asked bs = cond (length_right bs) (call_of bs) unknown

-- ---- the other way: what stands in front of a call's answer
-- its kind, its numbers, those of them that are signed, its text; and the call that is read back, which has zeros for a payload that was recorded by its length alone
pub record Opening : Type 0 where
  pub kind : ℕ
  pub numbers : List ℕ
  pub signs : List ℤ
  pub text : List ℕ
  pub back : Op

-- one with no signed number and no text
abbrev pub opens : ℕ → List ℕ → Op → Opening
opens k ns o = record { kind = k; numbers = ns; signs = []; text = []; back = o }

abbrev pub opening : Op → Opening
opening (spawn a) = opens 17 (a ∷ []) (spawn a)
opening next = opens 18 [] next
opening yield = opens 19 [] yield
opening (notify a b c) = record { kind = 20; numbers = a ∷ b ∷ length c ∷ []; signs = []; text = kept c; back = notify a b (stood (length c) (kept c)) }
opening (receive a b c d) = record { kind = 21; numbers = a ∷ b ∷ c ∷ unsigned d ∷ []; signs = d ∷ []; text = []; back = receive a b c d }
opening show = opens 22 [] show
opening shown = opens 23 [] shown
opening (after a) = opens 24 (a ∷ []) (after a)
opening (every a) = opens 25 (a ∷ []) (every a)
opening (cancel a) = opens 26 (a ∷ []) (cancel a)
opening (link a) = opens 27 (a ∷ []) (link a)
opening (unlink a) = opens 28 (a ∷ []) (unlink a)
opening (monitor a) = opens 29 (a ∷ []) (monitor a)
opening (demonitor a) = opens 30 (a ∷ []) (demonitor a)
opening (exit a) = opens 31 (a ∷ []) (exit a)
opening (advance a) = opens 32 (a ∷ []) (advance a)
opening report = opens 33 [] report
opening (bus a b c d) = opens 34 (a ∷ b ∷ c ∷ d ∷ []) (bus a b c d)
opening (publish a c) = record { kind = 35; numbers = a ∷ length c ∷ []; signs = []; text = kept c; back = publish a (stood (length c) (kept c)) }
opening (subscribe a) = opens 36 (a ∷ []) (subscribe a)
opening (unsubscribe a) = opens 37 (a ∷ []) (unsubscribe a)
opening (read a b) = opens 38 (a ∷ b ∷ []) (read a b)

-- the call that is read back from the record of a call
abbrev pub abridged : Op → Op
abridged o = (opening o).back

-- ---- a call and its answer as a note: where the answer is a text, the text's length and what is answered beside it stand in front of it, after what was passed
abbrev pub noted : ℕ → List ℕ → List ℕ → List ℕ → Note
noted k ns t ms = record { kind = k; front = ns; text = t; back = ms }

abbrev pub note_with : ℕ → List ℕ → List ℕ → Answer → Note
note_with k ns t (plain n) = noted k ns t (n ∷ [])
note_with k ns t (made n i) = noted k ns t (n ∷ i ∷ [])
note_with k ns t (turn n i r s) = noted k ns t (n ∷ i ∷ r ∷ unsigned s ∷ [])
note_with k ns t (received n s c g l) = noted k ns t (n ∷ s ∷ c ∷ g ∷ l ∷ [])
note_with k ns t (part bs) = noted k (ns ++ (length bs ∷ [])) (kept bs) []
note_with k ns t (place n o l) = noted k ns t (n ∷ o ∷ l ∷ [])
note_with k ns t (ended n s l) = noted k ns t (n ∷ s ∷ l ∷ [])
note_with k ns t (advanced n f) = noted k ns t (n ∷ f ∷ [])
note_with k ns t (counts n fs) = noted k ns t (n ∷ fs)
note_with k ns t (copied n bs) = noted k (ns ++ (n ∷ length bs ∷ [])) (kept bs) []

-- a start's numbers: the lengths of both buffers, the six capacities
abbrev pub start_args : ℕ → ℕ → Sizes → List ℕ
start_args w p z = w ∷ p ∷ z.actors ∷ z.mails ∷ z.datas ∷ z.links ∷ z.monitors ∷ z.timers ∷ []

abbrev pub note_of : ℕ → ℕ → Call → Answer → Note
note_of w p (start z) a = note_with FIRST (start_args w p z) [] a
note_of w p (op o) a = note_with (opening o).kind (opening o).numbers (opening o).text a

-- the record of a call on buffers of w words and p bytes
unfoldable pub encode : ℕ → ℕ → Call → Answer → List ℕ
encode w p c a = bytes (note_of w p c a)

-- ---- what a C caller can pass
-- a signed number of 64 bits
abbrev pub Signed : ℤ → Type 0
Signed (pos n) = n < 2 ^ 63
Signed (negsuc n) = n < 2 ^ 63

abbrev pub AllSigned : List ℤ → Type 0
AllSigned [] = record {}
AllSigned (x ∷ xs) = Signed x × AllSigned xs

abbrev pub signs_of : Call → List ℤ
signs_of (start z) = []
signs_of (op o) = (opening o).signs

-- every number in front of the answer fits 64 bits, as C's do
pub record Fits (w p : ℕ) (c : Call) (a : Answer) : Type 0 where
  pub small : Small (note_of w p c a).front
  pub signs : AllSigned (signs_of c)
