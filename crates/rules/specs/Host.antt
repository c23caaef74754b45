-- What a host call promises of its answer and of both buffers, for any rule; and start.
use Rattle.std.specs.Prelude.{ℕ, ◌+◌, ◌-◌, ◌*◌, ◌^◌, ◌≤◌, min, ◌≡◌, Bool, cond, ◌&&◌, List, length, replicate, take, drop, eqb, leb}
use Rattle.ledger.specs.Call.{Answer}
use Rattle.ledger.specs.Call.Answer.{plain}
use Rattle.tables.specs.declared.Caps.{Caps}
use Rattle.tables.specs.Columns.{ACTORS, DATA-FREE, DATAS, LINKS, MAIL-FREE, MAILS, MONITORS, PAST, PAYLOAD, REST, TIMERS}
use Rattle.pools.specs.Bits.{WORD-BITS}
use Rattle.tables.specs.State.{State, caps_of, join_p, join_w, needed, needed_p, poke, size, view, Does, Reads}
use Rattle.rules.specs.Rule.{Rule, test}
use Rattle.rules.specs.Sound.{range_rule, sound_rule, view_of}
use Rattle.rules.specs.declared.Copied.{Copied}
use Rattle.rules.specs.Calls.{Ans, Copy, Entry, Out, copy, refusal, ruled, shown_entry}

-- "Buffers that hold no sound runtime are refused by every call but start": the answer `seven` and nothing changed;
-- any others give the answer of the rule, and every word and byte is that of the state it leaves
pub record Called {A : Type 0} (seven : A) (rule : Caps → State → Out A) (w p : List ℕ) (r : A) (w' p' : List ℕ) : Type 0 where
  pub ans : r ≡ cond (test (sound_rule w p)) (rule (caps_of w) (view_of w p)).ans seven
  pub words : w' ≡ cond (test (sound_rule w p)) (join_w (rule (caps_of w) (view_of w p)).state) w
  pub bytes : p' ≡ cond (test (sound_rule w p)) (join_p (rule (caps_of w) (view_of w p)).state) p

-- what a function inside a call does: on buffers that hold a state, the rule's answer, and the rule's state left
abbrev pub Gives : {A : Type 0} → (Caps → State → Out A) → Caps → (w p : List ℕ) → A → (w' p' : List ℕ) → Type 0
Gives rule k w p r w' p' = Does k (λ s. (rule k s).ans) (λ s. (rule k s).state) w p r w' p'

-- what a part of the soundness test answers: whether the state that is held keeps a rule
abbrev pub Tests : Caps → (State → Rule) → (w p : List ℕ) → Bool → Type 0
Tests k rule w p r = Reads k (λ s. test (rule s)) w p r

-- ---- where the shown part lies
-- the place so many bytes past another: the same block, so much further on
abbrev pub further : ℕ × ℕ → ℕ → ℕ × ℕ
further area n = (area.0, area.1 + n)

-- the answer that a call gives on these buffers, by its entry
abbrev pub answered : (e : Entry) → (w p : List ℕ) → Ans e.shape
answered e w p = cond (test (sound_rule w p)) (ruled e (caps_of w) (view_of w p)).ans (refusal e.shape 7)

-- "a returned part of the lent area, from its entry's fifth byte": the part begins as far into the area as fg_shown answers on the same buffers, so at the area's first byte beside a refusal
abbrev pub shown_at : (area : ℕ × ℕ) → (w p : List ℕ) → ℕ × ℕ
shown_at area w p = further area (answered shown_entry w p).offset

-- ---- a third slice, lent for a call to copy to
-- the answer with the bytes that were copied: the first of the slice, as many as it says
abbrev pub copy_in : Copied → List ℕ → Copy
copy_in r slice = copy r.no (take r.length slice)

-- so many bytes were written, from the slice's first on; the others stay
abbrev pub Onto : ℕ → (slice slice' : List ℕ) → Type 0
Onto n slice slice' = (n ≤ length slice) × (length slice' ≡ length slice) × (drop n slice' ≡ drop n slice)

-- ---- start
-- "zeros the needed payload bytes", and every needed word; "Words and bytes past the needed ones are never changed"
unfoldable pub zeroed : Caps → State → State
zeroed k s c =
    cond (eqb c REST) (s REST)
    (cond (eqb c PAST) (s PAST) (cond (eqb c PAYLOAD) (replicate (needed_p k) 0) (replicate (size k c) 0)))

-- the six capacities
unfoldable pub stated : Caps → State → State
stated k s =
    poke (poke (poke (poke (poke (poke s ACTORS 0 k.actors) MAILS 0 k.mails) DATAS 0 k.datas) LINKS 0 k.links) MONITORS 0 k.monitors) TIMERS 0 k.timers

-- "A successful start frees every entry": word j of the free bits of n entries
abbrev pub ones : ℕ → ℕ → ℕ
ones n j = 2 ^ min WORD-BITS (n - WORD-BITS * j) - 1

unfoldable pub freed : ℕ → ℕ → State → State
freed c n s = poke (poke (poke (poke s c 0 (ones n 0)) c 1 (ones n 1)) c 2 (ones n 2)) c 3 (ones n 3)

unfoldable pub fresh : Caps → State → State
fresh k s = freed DATA-FREE k.datas (freed MAIL-FREE k.mails (stated k (zeroed k s)))

-- "buffers too short for the capacities are 1 there"
abbrev pub can_start : Caps → List ℕ → List ℕ → Bool
can_start k w p = test (range_rule k) && (leb (needed k) (length w) && leb (needed_p k) (length p))

-- what start promises: 0 and a fresh runtime where it can be done; else 1 and nothing changed
pub record Started (k : Caps) (w p : List ℕ) (r : Answer) (w' p' : List ℕ) : Type 0 where
  pub ans : r ≡ cond (can_start k w p) (plain 0) (plain 1)
  pub words : w' ≡ cond (can_start k w p) (join_w (fresh k (view k w p))) w
  pub bytes : p' ≡ cond (can_start k w p) (join_p (fresh k (view k w p))) p
