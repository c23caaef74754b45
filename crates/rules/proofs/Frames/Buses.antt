-- What each action of the buses writes.
use Prim.Native.Nat.{ℕ, zero, suc}
use mathlib.Core.Path.{refl}
use mathlib.Core.List.{List, [], ◌∷◌}
use lib.Dec.{eqb}
use Rattle.pools.proofs.BoolLaws.{split}
use Rattle.tables.specs.declared.Caps.{Caps}
use Rattle.tables.specs.Columns.{BUS-AGE, BUS-READS, BUS-SEATS, BUS-SIZE, BUSES, DATA-FREE, ISSUE, ISSUED, LENGTH, PAYLOAD, PUBLISHED, READERS, SEAT, SENDER, VALUE-BUS}
use Rattle.tables.specs.State.{State, at, head, poke}
use Rattle.rules.specs.Actions.{data_for}
use Rattle.rules.specs.Buses.{aired, airing, broadcast, bus_full, evict, forget, is_stale, issue, leave_buses}
use Rattle.rules.specs.Buses.{make_bus, oldest_on, read_off, read_out_of, retire, seat_at, seat_of, signed, sit_down, sits, stand_up, value_at}
use Rattle.rules.proofs.Frames.Actions.{wrote_fill, wrote_unfill}
use Rattle.rules.proofs.Frames.Wrote.{Beside, Wrote, beside_of, beside_over, beside_poke, beside_pull, beside_still, beside_within}
use Rattle.rules.proofs.Frames.Wrote.{wrote_cond, wrote_none, wrote_over, wrote_poke, wrote_push, wrote_still, wrote_within}

-- ---- the columns of values: what one writes that begins or ends
abbrev pub AIRED : List ℕ
AIRED = ISSUED ∷ ISSUE ∷ PUBLISHED ∷ READERS ∷ VALUE-BUS ∷ PAYLOAD ∷ LENGTH ∷ SENDER ∷ DATA-FREE ∷ []

-- what one writes that gives up its seats
abbrev pub QUIT : List ℕ
QUIT = SEAT ∷ READERS ∷ []

-- what a new bus writes
abbrev BUILT : List ℕ
BUILT = BUSES ∷ BUS-AGE ∷ BUS-READS ∷ BUS-SEATS ∷ BUS-SIZE ∷ []

-- ---- buses
-- one is made
pub wrote_make_bus : (s : State) (entries subscribers reads age : ℕ) → Wrote BUILT s (make_bus s entries subscribers reads age)
unfolding make_bus
wrote_make_bus s entries subscribers reads age =
    let b = head s BUSES in
    wrote_poke (wrote_poke (wrote_poke (wrote_poke (wrote_poke (wrote_none s) BUS-SIZE b entries) BUS-SEATS b subscribers) BUS-READS b reads) BUS-AGE b age) BUSES 0 _

-- ---- seats
-- one sits down
pub wrote_sit_down : (s : State) (b n a : ℕ) → Wrote (SEAT ∷ []) s (sit_down s b n a)
unfolding sit_down
wrote_sit_down s b n a = wrote_poke (wrote_none s) SEAT (seat_at b n) a

-- one may read nothing any more
pub wrote_forget : (b n d : ℕ) (s : State) → Wrote (READERS ∷ []) s (forget b n d s)
unfolding forget
wrote_forget b n zero s = wrote_still (READERS ∷ []) s
wrote_forget b n (suc d) s =
    let u = forget b n d s in
    wrote_over (READERS ∷ []) (wrote_forget b n d s)
    (wrote_cond (eqb (at u VALUE-BUS d) (suc b)) (wrote_poke (wrote_none u) READERS d _) (wrote_still (READERS ∷ []) u)) refl

-- one stands up
pub wrote_stand_up : (k : Caps) (s : State) (b n : ℕ) → Wrote QUIT s (stand_up k s b n)
unfolding stand_up
wrote_stand_up k s b n = wrote_poke (wrote_forget b n k.datas s) SEAT (seat_at b n) 0

-- from every bus
pub wrote_leave_buses : (k : Caps) (a n : ℕ) (s : State) → Wrote QUIT s (leave_buses k a n s)
unfolding leave_buses
wrote_leave_buses k a zero s = wrote_still QUIT s
wrote_leave_buses k a (suc b) s =
    let u = leave_buses k a b s in
    wrote_over QUIT (wrote_leave_buses k a b s) (wrote_cond (sits u b (suc a)) (wrote_stand_up k u b (seat_of u b (suc a))) (wrote_still QUIT u)) refl

-- ---- values
-- one begins
pub wrote_issue : (s : State) (d b : ℕ) (payload : List ℕ) → Wrote AIRED s (issue s d b payload)
unfolding issue
wrote_issue s d b payload =
    wrote_within AIRED (wrote_push (wrote_poke (wrote_poke (wrote_poke (wrote_fill (wrote_none s) d 0 0 payload) VALUE-BUS d _) READERS d _) PUBLISHED d _) ISSUE ISSUED (suc d)) refl

-- one ends
beside_retire : (s : State) (j : ℕ) → Beside AIRED s (retire s j)
unfolding retire
beside_retire s j =
    let d = value_at s j in
    beside_pull (beside_poke (beside_poke (beside_poke (beside_of (wrote_unfill (wrote_none s) d)) VALUE-BUS d 0) READERS d 0) PUBLISHED d 0) ISSUE ISSUED j

-- the oldest of a full bus
pub beside_evict : (s : State) (b : ℕ) → Beside AIRED s (evict s b)
unfolding evict
beside_evict s b = split (bus_full s b) (λ q. rw q (beside_retire s (oldest_on s b))) (λ q. rw q (beside_still AIRED s))

-- one is published
pub beside_broadcast : (k : Caps) (s : State) (b : ℕ) (payload : List ℕ) → Beside AIRED s (broadcast k s b payload)
unfolding broadcast
beside_broadcast k s b payload =
    let u = evict s b in beside_over AIRED (beside_evict s b) (beside_of (wrote_issue u (data_for k u) b payload)) refl

-- one is read
pub beside_read_off : (s : State) (b n j : ℕ) → Beside AIRED s (read_off s b n j)
unfolding read_off
beside_read_off s b n j =
    let d = value_at s j in
    let u = poke s READERS d (signed (at s READERS d) n) in
    let w : Beside AIRED s u = beside_within AIRED (beside_poke (beside_still [] s) READERS d _) refl in
    split (read_out_of u b d) (λ q. rw q (beside_over AIRED w (beside_retire u j) refl)) (λ q. rw q w)

-- those end that have reached their age, among the first
beside_airing : (i : ℕ) (s : State) → Beside AIRED s (airing i s)
unfolding airing
beside_airing zero s = beside_still AIRED s
beside_airing (suc i) s =
    split (is_stale s i)
    (λ q. rw q (beside_over AIRED (beside_retire s i) (beside_airing i (retire s i)) refl))
    (λ q. rw q (beside_airing i s))

-- all of them
pub beside_aired : (s : State) → Beside AIRED s (aired s)
beside_aired s = beside_airing (head s ISSUED) s
