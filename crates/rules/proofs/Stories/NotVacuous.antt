-- The calls and the reckoning say something: a story with these answers happens, its reckoning is this ledger, and there each refusal is due to some call.
use Prim.Native.Nat.{ℕ, ◌≤◌}
use mathlib.Core.Path.{◌≡◌, refl, subst}
use mathlib.Core.List.{List, [], ◌∷◌, map}
use lib.ListN.{length}
use lib.IntN.{pos}
use Rattle.ledger.specs.Call.{Answer, Line, Op, Sizes}
use Rattle.ledger.specs.Call.Answer.{plain, made, turn, received, ended, advanced}
use Rattle.ledger.specs.Call.Call.{op, start}
use Rattle.ledger.specs.Call.Op.{advance, cancel, every, exit, link, monitor, next, notify, receive, report, shown, spawn, unlink, yield}
use Rattle.ledger.specs.Ledger.{Ledger, Says, buses, mail, people, ties, time}
use Rattle.ledger.specs.Ledger.Says.{ticked, wrote}
use Rattle.ledger.specs.Lists.{but_first, by_slot, first, some, those}
use Rattle.ledger.specs.Reckon as L
use Rattle.ledger.specs.Reckon.{aired, departed, end_links, end_monitors, end_readers, end_timers, entered, fires, firing, firings, gone, message, notices, page, partner_notes}
use Rattle.ledger.specs.Reckon.{past_clock, rearmed, reckon, runs, sendings, soonest, picked_up, timer, refusal_due, wanted, watcher_notes, worn_by}
use Rattle.pools.specs.Pool.{lowest}
use Rattle.records.specs.Bytes.{le}
use Rattle.records.specs.Records.{exit_bytes, tick_bytes}
use Rattle.tables.specs.Limits.{ANY-CLASS, ANY-SENDER, ANY-TAG}
use Rattle.tables.specs.State.{State, needed, needed_p, poke, view, with_col}
use Rattle.tables.specs.Action.{free_bit, pull, push, take_bit, write}
use Rattle.rules.specs.Aged.{begin_use, end_own, end_use}
use Rattle.rules.specs.Terms.{fits, header_at, joins, wants}
use Rattle.rules.specs.Actions.{delist, enlist, fill, least, let_go, post, ready, stir, unfill, unwait}
use Rattle.rules.specs.Buses.{airing, leave_buses}
use Rattle.rules.specs.Calls.{cut_link, cut_links, cut_monitor, cut_monitors, depart, drop_all, drop_first, fire, fire_all, first_head, hand_over, loosen, next_beat, rearm, receive_bare, rouse, ruled, run, tell, tie, vacate}
use Rattle.rules.specs.Host.{fresh, freed, stated, zeroed}
use Rattle.rules.specs.Run.{lines}
use Rattle.rules.specs.Story.{caps_from, line}
use Rattle.rules.specs.Examples.{CRASH, pools}
use Rattle.rules.proofs.Stories.Plays.{Happens, can_start_lem, story_happens}

abbrev pub FEW : Sizes
FEW = pools 3 4 5 2 1 1

-- 257 links and watches, arms a timer that fires, sends three messages and takes the first with tag 8; then 258, linked to it, ends
abbrev pub RUN : List Op
RUN =
    spawn 1 ∷ spawn 0 ∷ spawn 0 ∷ next
    ∷ link 256 ∷ link 258 ∷ monitor 256 ∷ every 200
    ∷ notify 256 7 (1 ∷ 2 ∷ []) ∷ notify 257 5 [] ∷ notify 257 8 (3 ∷ []) ∷ receive ANY-SENDER ANY-CLASS 8 (pos 0)
    ∷ advance 300 ∷ yield ∷ next ∷ exit CRASH ∷ next ∷ []

abbrev pub ANSWERS : List Answer
ANSWERS =
    made 0 256 ∷ made 0 257 ∷ made 0 258 ∷ turn 0 257 0 (pos 0)
    ∷ plain 0 ∷ plain 0 ∷ made 0 128 ∷ made 0 64
    ∷ plain 0 ∷ plain 0 ∷ plain 0 ∷ received 0 257 0 8 1
    ∷ advanced 0 1 ∷ plain 0 ∷ turn 0 258 0 (pos 0) ∷ ended 0 1 0 ∷ turn 0 257 0 (pos 0) ∷ []

-- who is there and runs; the messages in order, with the tick and the notice, and the one in hand; the clock and the timer, due anew; the link and the monitor that are left
abbrev pub LEFT : Ledger
LEFT = record {
  sizes = FEW;
  people = people (record { id = 256; priority = 1 } ∷ record { id = 257; priority = 0 } ∷ []) 257 [];
  mail = mail
      (message 256 257 (wrote 7 (1 ∷ 2 ∷ []))
      ∷ message 257 257 (wrote 5 [])
      ∷ message 257 0 (ticked 64)
      ∷ message 257 258 (Says.ended 258 CRASH 0)
      ∷ [])
      (message 257 257 (wrote 8 (3 ∷ [])) ∷ []);
  time = time 300 (timer 64 257 400 200 ∷ []) [];
  ties = ties (record { one = 257; two = 256 } ∷ []) (record { id = 128; watcher = 257; target = 256 } ∷ []) [];
  buses = buses [] [] [] 0;
}

-- each call with its answer
abbrev pub lined : List Op → List Answer → List Line
lined [] rs = []
lined (o ∷ os) [] = []
lined (o ∷ os) (r ∷ rs) = line (op o) r ∷ lined os rs

-- the story's lines: a start that answers 0, and then these
abbrev pub RAN : List Line
RAN = line (start FEW) (plain 0) ∷ lined RUN ANSWERS

-- by the rules, whatever lies past the needed words and bytes
computed : (s : State) → lines (caps_from FEW) (fresh (caps_from FEW) s) RUN ≡ lined RUN ANSWERS
unfolding airing leave_buses ruled lowest le exit_bytes tick_bytes poke with_col free_bit pull push take_bit write fits header_at joins wants delist enlist fill least let_go post ready
    stir unfill unwait begin_use cut_link cut_links cut_monitor cut_monitors end_use drop_all drop_first end_own depart fire fire_all first_head hand_over loosen vacate
    next_beat rearm receive_bare rouse run tell tie fresh freed stated zeroed lines
computed s = refl

-- THE THEOREM: on any two buffers that are long enough, whatever they hold, a story with these lines happens
pub not_vacuous : (w p : List ℕ) → needed (caps_from FEW) ≤ length w → needed_p (caps_from FEW) ≤ length p → Happens w p RAN
not_vacuous w p a b =
    let k = caps_from FEW in
    subst (λ (xs : List Line). Happens w p (line (start FEW) (plain 0) ∷ xs)) (computed (view k w p)) (story_happens FEW RUN w p (can_start_lem k w p refl a b))

-- THE THEOREM: and its reckoning, whatever was reckoned before the start, is this ledger
pub reckoned : (l : Ledger) → reckon l RAN ≡ LEFT
unfolding aired but_first by_slot first some those L.cleared L.between L.empty_handed departed end_links end_monitors end_readers end_timers entered fires firing firings gone notices
    partner_notes past_clock rearmed reckon sendings soonest picked_up wanted watcher_notes worn_by
reckoned l = refl

-- calls to it, and the refusal that is due to each: 257 runs and 258 is nobody; the mailboxes, the monitor and the timer are taken; a tag is malformed before a target is unknown
abbrev pub ASKED : List Op
ASKED =
    next ∷ link 257 ∷ notify 258 ANY-TAG [] ∷ notify 258 0 [] ∷ notify 256 0 [] ∷ monitor 256 ∷ every 200
    ∷ cancel 65 ∷ unlink 258 ∷ unlink 256 ∷ shown ∷ yield ∷ []

pub refusals_due : map (λ o. refusal_due LEFT (op o)) ASKED ≡ 4 ∷ 1 ∷ 1 ∷ 3 ∷ 2 ∷ 2 ∷ 2 ∷ 3 ∷ 3 ∷ 0 ∷ 0 ∷ 0 ∷ []
unfolding some L.between
refusals_due = refl

-- the counts that are due to calls: its timer is due at 400, but the mailboxes are full; 257 has one partner, and its own messages make room; the rest is what is free
pub counts_due : map (λ o. (page o).counts LEFT) (advance 1000 ∷ exit 0 ∷ report ∷ yield ∷ []) ≡ (0 ∷ []) ∷ (1 ∷ 0 ∷ []) ∷ (1 ∷ 0 ∷ 0 ∷ 1 ∷ 0 ∷ 0 ∷ []) ∷ [] ∷ []
unfolding by_slot some those L.cleared L.between end_links end_monitors end_timers firings notices partner_notes sendings watcher_notes
counts_due = refl

-- and where there is room, or less of it than is due: with 257's mailbox and hand empty the timer fires once it is due; where 256 runs, which 257 is linked with and watches, one of two notices is lost
pub counts_short : ((page (advance 1000)).counts (L.cleared 257 LEFT) ≡ 1 ∷ []) × ((page (advance 99)).counts (L.cleared 257 LEFT) ≡ 0 ∷ []) × ((page (exit 0)).counts (runs 256 LEFT) ≡ 1 ∷ 1 ∷ [])
unfolding by_slot some those L.cleared L.between end_links end_monitors end_timers firings notices partner_notes sendings watcher_notes
counts_short = (refl, refl, refl)
