-- A set of entries that is marked in words of bits, one entry after the other.
use Rattle.std.specs.Prelude.{ℕ, ◌+◌, ◌-◌, ◌*◌, ◌≤◌, ◌<◌, min, ◌≡◌, Bool, true, false, not, ◌&&◌, List, length, get_or, drop, eqb}
use mir.Val.{bool_byte}
use Rattle.pools.specs.Bits.{WORD-BITS, bit, free}
use Rattle.rules.specs.Rule.{Rule, is, lt, imp, each}
use Rattle.rules.specs.Sound.{OWNERS}
use Rattle.rules.specs.Terms.{RUNNABLE}
use Rattle.tables.specs.Sizes.{BIT-WORDS}

-- the set after each entry e was marked c e times: where it is so told, none was marked twice; where not, one was
pub record Added (c : ℕ → ℕ) (told : Bool) (seen seen' : List ℕ) : Type 0 where
  pub long : length seen' ≡ length seen
  pub once : told ≡ true → (e : ℕ) → bool_byte (free seen' e) ≡ bool_byte (free seen e) + c e
  pub twice : told ≡ false → (e : ℕ) × (2 ≤ bool_byte (free seen e) + c e)

-- the same of two sets, side by side: where it is so told, in neither was one marked twice
pub record AddedBoth (c d : ℕ → ℕ) (told : Bool) (seen seen' held held' : List ℕ) : Type 0 where
  pub in_seen : Bool
  pub in_held : Bool
  pub telling : told ≡ in_seen && in_held
  pub added_seen : Added c in_seen seen seen'
  pub added_held : Added d in_held held held'

-- the owners of data entries but the first, which are the queued messages
abbrev pub OTHERS : List ℕ
OTHERS = drop 1 OWNERS

-- the first n words of a list are below m
abbrev pub Below : ℕ → ℕ → List ℕ → Type 0
Below m n list = (i : ℕ) → i < n → get_or list i 0 < m

-- from the n-th on they are 0
abbrev pub Ended : ℕ → List ℕ → Type 0
Ended n list = (i : ℕ) → n ≤ i → i < length list → get_or list i 0 ≡ 0

-- of the first n numbers those that pass a test have their bit
abbrev pub Flags : (ℕ → Bool) → ℕ → ℕ → Type 0
Flags f n word = (i : ℕ) → i < n → bit word i ≡ bool_byte (f i)

-- so many of n entries have their bit in word j
abbrev pub in_word : ℕ → ℕ → ℕ
in_word n j = min WORD-BITS (n - WORD-BITS * j)

-- a slot that is not runnable
abbrev pub rests : List ℕ → ℕ → Bool
rests states a = not (eqb (get_or states a 0) RUNNABLE)

-- word j has the bits of those of the first n slots; and four words have the bits of all of them
abbrev pub Resting : List ℕ → (n j word : ℕ) → Type 0
Resting states n j word = Flags (λ i. rests states (WORD-BITS * j + i)) (in_word n j) word

pub record AllResting (states : List ℕ) (n : ℕ) (seen : List ℕ) : Type 0 where
  pub long : length seen ≡ BIT-WORDS
  pub slots : (a : ℕ) → a < n → free seen a ≡ rests states a

-- in word j each of n entries is marked
abbrev pub full_rule : ℕ → List ℕ → ℕ → Rule
full_rule n seen j = each WORD-BITS (λ i. imp (lt (WORD-BITS * j + i) n) (is (free seen (WORD-BITS * j + i))))
