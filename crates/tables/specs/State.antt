-- The state of a runtime, a column for each number, and how it lies in the two lent buffers.
use Rattle.std.specs.Prelude.{ℕ, zero, suc, ◌+◌, ◌-◌, ◌*◌, ◌≤◌, ◌<◌, ◌≡◌, cond, List, [], ◌∷◌, ◌++◌, length, get_or, set, take, drop, replicate, eqb, ltb}
use Rattle.tables.specs.Columns.{ACTORS, DATAS, LINKS, MAILS, MONITORS, PAST, PAYLOAD, REST, TIMERS}
use Rattle.tables.specs.Sizes.{ALL-SEATS, BIT-WORDS, BITS, FIXED, HEADS, PER-ACTOR, PER-BUS, PER-DATA, PER-LINK, PER-MAIL, PER-MONITOR, PER-TIMER, SEATINGS, SPARES}
use Rattle.tables.specs.Limits.{ENTRY-BYTES, MOST-ACTORS, MOST-BUSES, MOST-DATAS, MOST-LINKS, MOST-MAILS, MOST-MONITORS, MOST-TIMERS}
use Rattle.tables.specs.declared.Caps.{Caps}

abbrev pub State : Type 0
State = ℕ → List ℕ

-- word i of column c; 0 where it has none
abbrev pub at : State → ℕ → ℕ → ℕ
at s c i = get_or (s c) i 0

-- the word of a column of the head
abbrev pub head : State → ℕ → ℕ
head s c = at s c 0

-- column c anew
unfoldable pub with_col : State → ℕ → List ℕ → State
with_col s c l d = cond (eqb d c) l (s d)

-- word i of column c anew; nothing where the column has no word i
unfoldable pub poke : State → ℕ → ℕ → ℕ → State
poke s c i v = with_col s c (set (s c) i v)

-- ---- a buffer as a row of columns of the sizes ns, and what is past them as one more
unfoldable pub cut : List ℕ → List ℕ → State
cut [] w zero = w
cut [] w (suc c) = []
cut (n ∷ ns) w zero = take n w
cut (n ∷ ns) w (suc c) = cut ns (drop n w) c

abbrev pub sum : List ℕ → ℕ
sum [] = 0
sum (n ∷ ns) = n + sum ns

-- the columns 0 to n, one after the other
unfoldable pub glue : ℕ → State → List ℕ
glue zero f = f 0
glue (suc n) f = f 0 ++ glue n (λ c. f (suc c))

-- ---- the sizes of this runtime's columns: "the number of words needed as a formula of the capacities"
abbrev pub sizes : Caps → List ℕ
sizes k =
    replicate HEADS 1
    ++ (replicate 1 SPARES
    ++ (replicate BITS BIT-WORDS
    ++ (replicate PER-BUS MOST-BUSES
    ++ (replicate SEATINGS ALL-SEATS
    ++ (replicate PER-ACTOR k.actors
    ++ (replicate PER-MAIL k.mails
    ++ (replicate PER-DATA k.datas
    ++ (replicate PER-LINK k.links
    ++ (replicate PER-MONITOR k.monitors
    ++ replicate PER-TIMER k.timers)))))))))

-- "Data entry n begins at byte 256 × n of the area"
abbrev pub sizes_p : Caps → List ℕ
sizes_p k = ENTRY-BYTES * k.datas ∷ []

abbrev pub size : Caps → ℕ → ℕ
size k c = get_or (sizes k) c 0

abbrev pub start : Caps → ℕ → ℕ
start k c = sum (take c (sizes k))

abbrev pub needed : Caps → ℕ
needed k =
    FIXED + k.actors * PER-ACTOR + k.mails * PER-MAIL + k.datas * PER-DATA
    + k.links * PER-LINK + k.monitors * PER-MONITOR + k.timers * PER-TIMER

abbrev pub needed_p : Caps → ℕ
needed_p k = ENTRY-BYTES * k.datas

-- "Words and bytes past the needed ones are never changed"; and both buffers are as long as they were
abbrev pub PastSame : Caps → (w p w' p' : List ℕ) → Type 0
PastSame k w p w' p' =
    (length w' ≡ length w) × (length p' ≡ length p) × (drop (needed k) w' ≡ drop (needed k) w) × (drop (needed_p k) p' ≡ drop (needed_p k) p)

-- ---- there and back
unfoldable pub view : Caps → List ℕ → List ℕ → State
view k w p c = cond (ltb c PAYLOAD) (cut (sizes k) w c) (cut (sizes_p k) p (c - PAYLOAD))

unfoldable pub join_w : State → List ℕ
join_w s = glue REST s

unfoldable pub join_p : State → List ℕ
join_p s = glue 1 (λ c. s (PAYLOAD + c))

-- the capacities that the head states
abbrev pub caps_of : List ℕ → Caps
caps_of w = record {
  actors = get_or w ACTORS 0;
  mails = get_or w MAILS 0;
  datas = get_or w DATAS 0;
  links = get_or w LINKS 0;
  monitors = get_or w MONITORS 0;
  timers = get_or w TIMERS 0;
}

-- "Capacities and ids": the range of each pool at start
pub record InRange (k : Caps) : Type 0 where
  pub some_actors : 1 ≤ k.actors
  pub few_actors : k.actors ≤ MOST-ACTORS
  pub some_mails : 1 ≤ k.mails
  pub few_mails : k.mails ≤ MOST-MAILS
  pub some_datas : 1 ≤ k.datas
  pub few_datas : k.datas ≤ MOST-DATAS
  pub few_links : k.links ≤ MOST-LINKS
  pub few_monitors : k.monitors ≤ MOST-MONITORS
  pub few_timers : k.timers ≤ MOST-TIMERS

-- the capacities are in range, and both buffers hold what they ask for: what every function inside asks
pub record Room (k : Caps) (w p : List ℕ) : Type 0 where
  pub caps : InRange k
  pub words : needed k ≤ length w
  pub bytes : needed_p k ≤ length p

-- the buffers hold the state s, with what the next function asks: what every function inside leaves
pub record Left (k : Caps) (s : State) (w p : List ℕ) : Type 0 where
  pub is : view k w p ≡ s
  pub room : Room k w p

-- ---- what the functions inside ask and promise, of the lists w and p that the buffers hold and the lists w' and p' that they leave
-- Q holds of the state that is held
abbrev pub Of : Caps → (State → Type 0) → (w p : List ℕ) → Type 0
Of k Q w p = Q (view k w p)

-- there is room, and Q holds of the state that is held
abbrev pub RoomWith : Caps → (State → Type 0) → (w p : List ℕ) → Type 0
RoomWith k Q w p = Room k w p × Of k Q w p

-- the answer is f of the state that is held
abbrev pub Reads : {A : Type 0} → Caps → (State → A) → (w p : List ℕ) → A → Type 0
Reads k f w p r = r ≡ f (view k w p)

-- the state that is left is f of the one that was held
abbrev pub Makes : Caps → (State → State) → (w p w' p' : List ℕ) → Type 0
Makes k f w p w' p' = Left k (f (view k w p)) w' p'

-- the answer is f of the state that was held, and the one that is left is g of it
abbrev pub Does : {A : Type 0} → Caps → (State → A) → (State → State) → (w p : List ℕ) → A → (w' p' : List ℕ) → Type 0
Does k f g w p r w' p' = Reads k f w p r × Makes k g w p w' p'

-- a state that lies in buffers: each column has its size, and there are no more
pub record Sized (k : Caps) (s : State) : Type 0 where
  pub words : (c : ℕ) → c < REST → length (s c) ≡ size k c
  pub bytes : length (s PAYLOAD) ≡ ENTRY-BYTES * k.datas
  pub past : (c : ℕ) → PAST < c → s c ≡ []
