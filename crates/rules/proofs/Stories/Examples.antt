-- The bench examples hold: every row of the table of specs/Examples.antt.
use Prim.Native.Nat.{ℕ}
use mathlib.Core.Path.{◌≡◌, refl, sym, ap, subst}
use mathlib.Core.Bool.{true}
use mathlib.Core.List.{List, [], ◌∷◌, ◌++◌, map}
use Rattle.ledger.specs.Call.{Answer, Line}
use Rattle.ledger.specs.Call.Answer.{plain}
use Rattle.pools.specs.Pool.{lowest}
use Rattle.records.specs.Bytes.{le}
use Rattle.records.specs.Records.{exit_bytes, read_exit, tick_bytes}
use Rattle.tables.specs.State.{State, glue, join_p, poke, view, with_col}
use Rattle.tables.specs.Action.{free_bit, pull, push, take_bit, write}
use Rattle.rules.specs.Aged.{begin_use, end_own, end_use}
use Rattle.rules.specs.Rule.{test}
use Rattle.rules.specs.Sound.{range_rule}
use Rattle.rules.specs.Terms.{fits, header_at, joins, wants}
use Rattle.rules.specs.Actions.{delist, enlist, fill, least, let_go, post, ready, stir, unfill, unwait}
use Rattle.rules.specs.Buses.{airing, leave_buses}
use Rattle.rules.specs.Calls.{await, cut_link, cut_links, cut_monitor, cut_monitors, depart, drop_all, drop_first, fire, fire_all, first_head, hand_over, loosen, next_beat, rearm, receive_bare, rouse, ruled, run, sleep, tell, tie, vacate}
use Rattle.rules.specs.Host.{fresh, freed, stated, zeroed}
use Rattle.rules.specs.Run.{afterwards, lines, play}
use Rattle.rules.specs.Story.{caps_from}
use Rattle.rules.specs.Examples.{AllRight, Right, Row, Shows, bench_rows, life_rows, print, small_rows, table}
use Rattle.rules.proofs.Stories.BenchRun.{bench_run}
use Rattle.rules.proofs.Stories.SlotLife.{whole_life}
use Rattle.rules.proofs.Stories.Plays.{can_start_lem, hold_bytes, story_computed}

-- ---- a row is right where the rules compute it
-- its capacities are in range, and from a fresh state the rules give what it says, whatever lies past the needed words and bytes
abbrev Computed : Row → Type 0
Computed r =
    let k = caps_from r.sizes in
    (test (range_rule k) ≡ true) × ((s : State) → Shows r.wanted (plain 0 ∷ play k (fresh k s) r.calls) (join_p (afterwards k (fresh k s) r.calls)))

-- THE LAW: then every story of its calls shows that, by the theorem on stories that begin with a start
right : (r : Row) → Computed r → Right r
right r c w p w' p' xs a b y e =
    let k = caps_from r.sizes in
    let s = view k w p in
    let t = story_computed r.sizes r.calls (can_start_lem k w p c.0 a b) y e in
    subst (λ (p : List ℕ). Shows r.wanted (map (λ (x : Line). x.answer) xs) p) (sym (hold_bytes t.1))
    (subst (λ (ys : List Line). Shows r.wanted (map (λ (x : Line). x.answer) ys) (join_p (afterwards k (fresh k s) r.calls))) (sym t.0) (c.1 s))

-- of all rows
abbrev AllComputed : List Row → Type 0
AllComputed [] = Unit
AllComputed (r ∷ rs) = Computed r × AllComputed rs

-- all are right where all are computed
rights : (rs : List Row) → AllComputed rs → AllRight rs
rights [] c = tt
rights (r ∷ rs) c = (right r c.0, rights rs c.1)

-- ---- by computation
-- the rows of small pools
small : AllComputed small_rows
unfolding airing leave_buses ruled lowest le exit_bytes read_exit tick_bytes poke with_col glue join_p free_bit pull push take_bit write fits header_at joins wants delist enlist fill
    least let_go post ready stir unfill unwait begin_use await cut_link cut_links cut_monitor cut_monitors end_use drop_all drop_first end_own depart fire fire_all
    first_head hand_over loosen vacate next_beat rearm receive_bare rouse run sleep tell tie fresh freed stated zeroed afterwards lines
small =
    ((refl, λ s. refl), ((refl, λ s. refl), ((refl, λ s. refl), ((refl, λ s. refl), ((refl, λ s. refl), ((refl, λ s. refl), ((refl, λ s. refl), ((refl, λ s. refl), ((refl, λ s. refl), ((refl, λ s. refl), ((refl, λ s. refl), ((refl, λ s. refl), ((refl, λ s. refl), tt)))))))))))))

-- ---- by theorems on longer runs
-- the bench run
bench : AllComputed bench_rows
unfolding read_exit le
bench = ((refl, λ s. ap (λ (got : List Answer). print (plain 0 ∷ got)) (bench_run s)), ((refl, λ s. ap (λ (got : List Answer). plain 0 ∷ got) (bench_run s)), tt))

-- the whole life of a slot
life : AllComputed life_rows
life = ((refl, λ s. ap (λ (got : List Answer). plain 0 ∷ got) (whole_life s)), tt)

-- ---- EVERY ROW is right
-- of two lists of rows
both : (rs ts : List Row) → AllRight rs → AllRight ts → AllRight (rs ++ ts)
both [] ts a b = b
both (r ∷ rs) ts a b = (a.0, both rs ts a.1 b)

-- THE THEOREM: every row of the table is right, whatever story of its calls happens, on any two buffers long enough
pub all_right : AllRight table
all_right = both small_rows (bench_rows ++ life_rows) (rights small_rows small) (both bench_rows life_rows (rights bench_rows bench) (rights life_rows life))
