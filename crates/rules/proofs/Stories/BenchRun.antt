-- The bench run at the largest capacities, call by call: its answers, whatever lies past the needed words and bytes.
use Prim.Native.Nat.{ℕ, zero, suc, ◌+◌}
use native.Mathlib.Omega.{arith}
use mathlib.Core.Path.{◌≡◌, refl, ap, ◌∙◌}
use mathlib.Core.Bool.{false}
use mathlib.Core.List.{List, [], ◌∷◌}
use lib.ListN.{drop, take, replicate}
use lib.IntN.{negsuc, pos}
use lib.Dec.{ltb}
use borrow.Author.Tests.{le-ltb, ne_eqb}
use Rattle.ledger.specs.Call.{Answer}
use Rattle.ledger.specs.Call.Answer.{plain, made, turn, received, part, ended}
use Rattle.ledger.specs.Call.Op.{spawn, next, show, link, exit}
use Rattle.pools.specs.Pool.{lowest}
use Rattle.pools.proofs.PoolLaws.{lowest_none}
use Rattle.records.specs.Bytes.{le}
use Rattle.records.specs.Header.{packed}
use Rattle.records.specs.Records.{exit_bytes}
use Rattle.tables.specs.declared.Caps.{Caps}
use Rattle.tables.specs.Columns.{LINK-ONE, LINK-TWO}
use Rattle.tables.specs.Limits.{MOST-LINKS}
use Rattle.tables.specs.State.{State, poke, with_col}
use Rattle.tables.specs.Action.{free_bit, pull, push, take_bit, write}
use Rattle.rules.specs.Aged.{end_own, end_use}
use Rattle.rules.specs.Terms.{fits, header_at, joins, wants}
use Rattle.rules.specs.Actions.{delist, enlist, fill, let_go, post, ready, stir, unwait}
use Rattle.rules.specs.Buses.{leave_buses}
use Rattle.rules.specs.Calls.{Out, Told, cut_link, cut_links, cut_monitor, cut_monitors, drop_all, depart, first_head, hand_over, link_of, loosen, out, receive_bare, ruled, run, steps, tell, through, tie, told, vacate, Step}
use Rattle.rules.specs.Host.{fresh, freed, stated, zeroed}
use Rattle.rules.specs.Run.{afterwards, lines, play, step}
use Rattle.rules.specs.Story.{caps_from}
use Rattle.rules.specs.Examples.{BENCH, BENCH-ANSWERS, CRASH, MOST, NOTICE, receive_any}
use Rattle.rules.proofs.Kept.Exit.{cut_link_no}
use Rattle.rules.proofs.Kept.Start.{zero-at}

-- ---- links that are not there
-- where no link is, no slot is linked
no_links : (k : Caps) (s : State) (n a b : ℕ) → s LINK-ONE ≡ replicate n 0 → ltb (link_of k s (suc a) (suc b)) k.links ≡ false
unfolding joins
no_links k s n a b e =
    let f : link_of k s (suc a) (suc b) ≡ k.links = lowest_none (joins (s LINK-ONE) (s LINK-TWO) (suc a) (suc b)) k.links (λ i l. rw (e, zero-at n i, ne_eqb 0 (suc a) (λ q. omega arith), ne_eqb 0 (suc b) (λ q. omega arith))) in
    rw f (le-ltb k.links k.links (omega arith))

-- so once an exit has cut the links with the slots 0 and 1, and none is left, it is done with its links
all-cut : (k : Caps) (a me reason n m : ℕ) (t u : Told) → u.state LINK-ONE ≡ replicate n 0 → cut_links k a me reason 2 t ≡ u → cut_links k a me reason (suc (suc m)) t ≡ u
unfolding cut_links
all-cut k a me reason n zero t u e c = c
all-cut k a me reason n (suc m) t u e c =
    ap (cut_link k a me reason (suc (suc m))) (all-cut k a me reason n m t u e c)
    ∙ cut_link_no k a me reason (suc (suc m)) u (no_links k u.state n a (suc (suc m)) e)

-- ---- the run
-- the largest capacities
abbrev k : Caps
k = caps_from MOST

-- the step that cuts the links is the one after these, and these come after it
abbrev firstly : List Step
firstly = take 1 steps

abbrev lastly : List Step
lastly = drop 2 steps

module _ (s : State) where
  -- once 256 is linked to 257
  unfoldable tied : State
  tied = afterwards k (fresh k s) (spawn 1 ∷ spawn 1 ∷ next ∷ link 257 ∷ [])

  -- once 257 has been told of the exit of 256
  unfoldable noted : State
  noted = post k (tie tied 0 0 0) 1 256 (packed 4 1 0) (exit_bytes 256 CRASH 0)

  -- the links are cut, of which there is one, with slot 1
  two-cut : cut_links k 0 256 CRASH 2 (told 0 0 (through firstly k 0 256 CRASH tied).state) ≡ told 1 0 noted
  unfolding noted tied afterwards ruled lowest poke with_col fresh freed stated zeroed ready push pull run first_head cut_links cut_link tell tie drop_all let_go joins
  two-cut = refl

  -- none is left
  none_left : noted LINK-ONE ≡ replicate MOST-LINKS 0
  unfolding noted tied afterwards ruled lowest poke with_col fresh freed stated zeroed ready push pull run first_head post stir enlist fill take_bit write tie joins unwait fits wants
  none_left = refl

  -- nobody watched it, and of its own monitors and timers it has none
  no_more : through lastly k 0 256 CRASH noted ≡ told 0 0 noted
  unfolding noted tied afterwards ruled lowest poke with_col fresh freed stated zeroed ready push pull run first_head post stir enlist fill take_bit write tie joins cut_monitors cut_monitor unwait fits wants end_own leave_buses
  no_more = refl

  -- so its end tells one, loses no notice, and leaves nothing else to do but its slot
  told-once : through steps k 0 256 CRASH tied ≡ told 1 0 noted
  told-once =
      ap (λ (t : Told). let u = through lastly k 0 256 CRASH t.state in told (0 + (t.sent + u.sent)) (0 + (t.lost + u.lost)) u.state)
      (all-cut k 0 256 CRASH MOST-LINKS 254 (told 0 0 (through firstly k 0 256 CRASH tied).state) (told 1 0 noted) none_left two-cut)
      ∙ ap (λ (u : Told). told (0 + (1 + u.sent)) (0 + (0 + u.lost)) u.state) no_more

  -- an exit is the end of the actor in slot 0, whose id is 256
  asked : step (exit CRASH) k tied ≡ (let t = through steps k 0 256 CRASH tied in out (ended 0 t.sent t.lost) (vacate t.state 0))
  unfolding tied afterwards ruled lowest poke with_col fresh freed stated zeroed ready push pull run first_head tie joins depart
  asked = refl

  -- the calls before the exit
  before : play k (fresh k s) BENCH ≡ made 0 256 ∷ made 0 257 ∷ turn 0 256 0 (pos 0) ∷ plain 0 ∷ (step (exit CRASH) k tied).ans ∷ play k (step (exit CRASH) k tied).state (next ∷ receive_any (negsuc 0) ∷ show ∷ [])
  unfolding lines tied afterwards ruled lowest poke with_col fresh freed stated zeroed ready push pull run first_head tie joins
  before = refl

  -- the calls after it: the notice is received and shown
  after : play k (vacate noted 0) (next ∷ receive_any (negsuc 0) ∷ show ∷ [])
      ≡ turn 0 257 0 (pos 0) ∷ received 0 256 4 0 22
      ∷ part NOTICE
      ∷ []
  unfolding noted tied afterwards ruled lowest poke with_col fresh freed stated zeroed ready push pull run first_head post stir enlist fill take_bit write tie
      joins unwait fits wants lines loosen vacate receive_bare let_go hand_over delist free_bit header_at le exit_bytes end_use
  after = refl

  -- THE THEOREM: the answers of the bench run
  pub bench_run : play k (fresh k s) BENCH ≡ BENCH-ANSWERS
  bench_run =
      before
      ∙ ap (λ (x : Out Answer). made 0 256 ∷ made 0 257 ∷ turn 0 256 0 (pos 0) ∷ plain 0 ∷ x.ans ∷ play k x.state (next ∷ receive_any (negsuc 0) ∷ show ∷ []))
      (asked ∙ ap (λ (t : Told). out (ended 0 t.sent t.lost) (vacate t.state 0)) told-once)
      ∙ ap (λ (ys : List Answer). made 0 256 ∷ made 0 257 ∷ turn 0 256 0 (pos 0) ∷ plain 0 ∷ ended 0 1 0 ∷ ys) after
