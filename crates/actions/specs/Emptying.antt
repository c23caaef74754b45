-- One pass over the arrivals that empties a mailbox: what a turn of it does, and what it leaves.
use Rattle.std.specs.Prelude.{ℕ, suc, ◌-◌, Bool, cond, List, ◌++◌, take, drop, replicate, eqb}
use Rattle.std.proofs.Math.Seq.{slice}
use Rattle.tables.specs.Columns.{ARRIVAL, ARRIVED, MAIL-DATA, MAIL-FREE, MAIL-OWNER}
use Rattle.tables.specs.State.{State, at, head, with_col, poke}
use Rattle.tables.specs.Action.{free_bit}
use Rattle.rules.specs.Actions.{unfill}
use Rattle.rules.specs.Calls.{data_of}

-- is the i-th arrival slot a's?
abbrev pub mine : State → ℕ → ℕ → Bool
mine s a i = eqb (at s MAIL-OWNER (at s ARRIVAL i)) (suc a)

-- mailbox entry e is freed: it is nobody's, and names no data entry
unfoldable pub disown : State → ℕ → State
disown s e = poke (poke (free_bit s MAIL-FREE e) MAIL-OWNER e 0) MAIL-DATA e 0

-- the mailbox entry that arrived as the i-th is freed, with its data entry; it still stands among the arrivals
unfoldable pub discard : State → ℕ → State
discard s i = unfill (disown s (at s ARRIVAL i)) (data_of s i)

-- a turn: the i-th arrival is freed if it is slot a's, and is the w-th that stays if not
unfoldable pub sift : State → ℕ → ℕ → ℕ → State
sift s a w i = cond (mine s a i) (discard s i) (poke s ARRIVAL w (at s ARRIVAL i))

-- the n words of a list close up over those from the w-th on and before the i-th, and as many zeros come after them
abbrev pub closed_over : ℕ → ℕ → ℕ → List ℕ → List ℕ
closed_over n w i l = take w l ++ (slice i n l ++ (replicate (i - w) 0 ++ drop n l))

-- the arrivals from the w-th on and before the i-th leave
unfoldable pub pull_over : State → ℕ → ℕ → State
pull_over s w i =
    poke (with_col s ARRIVAL (closed_over (head s ARRIVED) w i (s ARRIVAL))) ARRIVED 0 (head s ARRIVED - (i - w))
