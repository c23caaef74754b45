-- The message actions keep a sound runtime sound.
use Prim.Native.Nat.{ℕ, zero, suc, ◌+◌, ◌-◌, ◌*◌, ◌^◌, ◌≤◌, ◌<◌}
use native.Mathlib.Decide.{dec_lt}
use native.Mathlib.Omega.{arith}
use mathlib.Core.Path.{◌≡◌, refl, sym, ap, subst, ◌∙◌, fun_ext}
use mathlib.Core.Bool.{true, false, not, ◌||◌}
use mathlib.Core.List.{List, [], ◌∷◌, ◌++◌, map}
use mir.Val.{bool_byte}
use lib.ListN.{length, get_or, set, take, replicate, length-map, length-replicate, get_or-replicate, get_or-eq_default}
use lib.Seq.{get_or-set_same, get_or-take, length-sets, sets}
use lib.IntN.{ℤ, pos, negsuc}
use lib.Dec.{eqb, ltb, leb, lit<}
use borrow.Author.Tests.{eqb-true, eqb-false, eq-eqb, leb-false, leb-true, ltb-true, ltb-false, ne_eqb, not-true, not-false}
use Rattle.pools.specs.Pool.{occurs}
use Rattle.pools.specs.Slot.{slot_of}
use Rattle.pools.proofs.SlotLaws.{age_of_id, id_pos, of_live, slot_of_id}
use Rattle.pools.specs.Bits.{free, taken, released}
use Rattle.pools.proofs.BoolLaws.{split, true_false, and_left, and_right, flag_pos, neither}
use Rattle.pools.proofs.PoolLaws.{lowest-at, lowest-first}
use Rattle.pools.proofs.ListLaws.{occurs-length, occurs-place, occurs-pos}
use Rattle.pools.proofs.FreeLaws.{free_inside, released-other, released-same, taken-other, taken-same}
use Rattle.records.specs.Bytes.{le}
use Rattle.records.specs.Header.{class_of, mark_of, packed, tag_of}
use Rattle.records.proofs.ByteLaws.{length-le}
use Rattle.records.specs.Records.{exit_bytes, tick_bytes}
use Rattle.records.proofs.RecordLaws.{length_exit, length-tick}
use Rattle.records.proofs.HeaderLaws.{class_packed, mark-packed, packed-fits, tag_packed}
use Rattle.ledger.specs.Call.Op.{notify, receive}
use Rattle.tables.specs.declared.Caps.{Caps}
use Rattle.tables.specs.Columns.{AGE, ARRIVAL, ARRIVED, CLOCK, DATA-FREE, DEADLINE, HAND, LENGTH, MAIL-DATA, MAIL-FREE, MAIL-OWNER, PAYLOAD, QUEUE, QUEUED, REASON, RUNNING, SENDER, STATE, VALUE-BUS, WANT-CLASS, WANT-SENDER, WANT-TAG}
use Rattle.tables.specs.Sizes.{COLUMN-BITS}
use Rattle.tables.specs.Limits.{ACTOR-FACTOR, ANY-CLASS, ANY-TAG, CLOCK-END, DEADLINE-END, ENTRY-BYTES, LONGEST-WAIT, PAYLOAD-MOST}
use Rattle.tables.specs.State.{Sized, State, at, head, poke, with_col}
use Rattle.tables.specs.Action.{push, pull, take_bit, free_bit, write}
use Rattle.tables.proofs.LoopLaws.{sets_apart, sets_same}
use Rattle.tables.proofs.ActionLaws.{poke-same, write-append}
use Rattle.rules.specs.Rule.{Holds}
use Rattle.rules.specs.Terms.{MESSAGE, RUNNABLE, RUNS, WAITS, actor_id, alive, fits, is_actor, legal, runner, runner_id}
use Rattle.rules.specs.Sound.{actor_rule, arrival_rule, arrived_rule, bits_rule, filter_rule, head_rule, header_rule, unused_rule, length_rule, mail_rule, once_rule, pair_rule, sender_rule, wait_rule, zeros}
use Rattle.rules.specs.Actions.{data_for, delist, enlist, fill, has_room, hears, let_go, mail_for, post, ready, stir, unfill, unwait, wake}
use Rattle.rules.specs.Calls.{await, bad_wait, data_of, deadline_at, drop_all, drop_first, emptied, first_match, first_of, hand_over, match_at, not_at_all, receive_bare}
use Rattle.rules.specs.Agrees.{arrivals}
use Rattle.rules.proofs.Claims.{Keeps}
use Rattle.rules.proofs.Frames.Wrote.{Wrote, wrote_free, wrote_none, wrote_poke, wrote_pull, wrote_take, wrote_with}
use Rattle.rules.proofs.Frames.Actions.{beside_drop_all, wrote_await, wrote_enlist, wrote_let_go}
use Rattle.rules.specs.Good.{Good}
use Rattle.rules.proofs.Kept.Clauses.{read_back, read_down, runner-fits, queue-fits, clock_fits, arrivals-fit}
use Rattle.rules.proofs.Kept.Groups as Part
use Rattle.rules.proofs.Kept.Patch.{◌by◌also◌, done, patch, patch_living}
use Rattle.rules.proofs.Lists.Columns.{alive-begins, alive-below, alive-of, alive-same, each_set, listed-joins, listed_leaves, once-joins, of-alive, once_leaves, other, set_so, set-zero}
use Rattle.rules.proofs.Reckoned.Ledger.{alive_age, alive_slot, runner-alive, runs-alive, runs-at}
use Rattle.rules.proofs.Kept.Running.{wake_keeps}
use Rattle.rules.proofs.Lists.Messages.{Wiped, Written, bits_free, bits_take, bytes_at, datas-free, datas-take, header-same, written}
use Rattle.rules.proofs.Kept.Owners.{arrivals_long, arrivals_room, column-arrived, free_no_value, occurs-column, occurs-set, owner_below, owner_else, owner_free, owner_fresh, owner_pass, owner_take, owned}
use Rattle.rules.proofs.Guards.{second_passed, third_passed, fourth_passed}

-- ---- a data entry is freed
-- the state with data entry d freed, where q is the payload area with that entry wiped
abbrev pub unfilled : State → ℕ → List ℕ → State
unfilled s d q = with_col (poke (poke (free_bit s DATA-FREE d) SENDER d 0) LENGTH d 0) PAYLOAD q

-- the payload area with entry d wiped
unfoldable pub wipe : List ℕ → ℕ → List ℕ
wipe p d = sets p (ENTRY-BYTES * d + 0) (replicate ENTRY-BYTES 0)

-- to free a data entry is to write four columns
pub unfill_is : (s : State) (d : ℕ) → unfill s d ≡ unfilled s d (wipe (s PAYLOAD) d)
unfolding unfill write poke with_col free_bit wipe
unfill_is s d = refl

-- which are these
pub wrote_unfilled : {ws : List ℕ} {s t : State} → Wrote ws s t → (d : ℕ) (q : List ℕ) → length q ≡ length (t PAYLOAD) → Wrote (PAYLOAD ∷ LENGTH ∷ SENDER ∷ DATA-FREE ∷ ws) s (unfilled t d q)
unfolding poke with_col free_bit
wrote_unfilled w d q e = wrote_with (wrote_poke (wrote_poke (wrote_free w DATA-FREE d) SENDER d 0) LENGTH d 0) PAYLOAD q e

-- and the payload area is wiped there
pub wipe_is : (k : Caps) (s : State) (d : ℕ) → Sized k s → d < k.datas → Wiped (s PAYLOAD) (wipe (s PAYLOAD) d) d
unfolding wipe zeros
wipe_is k s d z l =
    let m : List ℕ = replicate ENTRY-BYTES 0 in
    let n : length m ≡ ENTRY-BYTES = length-replicate {A = ℕ} ENTRY-BYTES 0 in
    record {
      long = length-sets (s PAYLOAD) (ENTRY-BYTES * d + 0) m;
      blank = λ i b. let e : ENTRY-BYTES * d + i ≡ ENTRY-BYTES * d + 0 + i = omega arith in
          rw e (sets_same (s PAYLOAD) (ENTRY-BYTES * d + 0) m i (omega arith) (omega (arith, z.bytes)) ∙ get_or-replicate {A = ℕ} ENTRY-BYTES i 0 0 b);
      apart = λ e q. sets_apart (s PAYLOAD) (ENTRY-BYTES * e) ENTRY-BYTES (ENTRY-BYTES * d + 0) m (λ j n b o r. eqb-false e d q (omega arith));
    }

-- a data entry is written that no mailbox names: each mailbox still holds nothing that its filter matches
pub filters_else : (k : Caps) (s : State) → Good k s → (d v : ℕ) (q : List ℕ) → ((e : ℕ) → eqb e d ≡ false → bytes_at q e ≡ bytes_at (s PAYLOAD) e) →
    ((f : ℕ) → 1 ≤ at s MAIL-DATA f → eqb (at s MAIL-DATA f - 1) d ≡ false) → (f : ℕ) → f < k.mails → Holds (filter_rule (with_col (poke s SENDER d v) PAYLOAD q) f)
unfolding poke with_col
filters_else k s g d v q apart none f m u =
    let r = none f ((g.mails f m).1 u.0).1.0 in
    rw (other (s SENDER) d v (at s MAIL-DATA f - 1) r, header-same (s PAYLOAD) q (at s MAIL-DATA f - 1) (apart (at s MAIL-DATA f - 1) r)) (g.filters f m u)

-- ---- the hand lets go
module _ (k : Caps) (s : State) (g : Good k s) (a : ℕ) (l : a < k.actors) (d : ℕ) (h : at s HAND a ≡ suc d) (q : List ℕ) (w : Wiped (s PAYLOAD) q d) where
  -- sound as before
  pub let_good : Good k (poke (unfilled s d q) HAND a 0)
  unfolding poke with_col free_bit pair_rule
  let_good =
      patch k g (wrote_poke (wrote_unfilled (wrote_none s) d q w.long) HAND a 0) (
      Part.data_bits by (bits_free k.datas (s DATA-FREE) d (owner_below (owned k s g) HAND a refl d h) g.data_bits) also
      Part.actors by (λ b m. ((g.actors b m).0, ((g.actors b m).1.0, set_so (λ x. x ≤ k.datas) (s HAND) a 0 b (omega arith) (g.actors b m).1.1))) also
      Part.unused_words by (λ b m. (λ u. (((g.unused_words b m).0 u).0, set_so (λ x. x ≡ 0) (s HAND) a 0 b refl ((g.unused_words b m).0 u).1), (g.unused_words b m).1)) also
      Part.filters by (filters_else k s g d 0 q w.apart (λ f n. owner_else (owned k s g) HAND a refl d h MAIL-DATA f refl n refl)) also
      Part.datas by (λ e m. datas-free (s DATA-FREE) (s SENDER) (s LENGTH) (s VALUE-BUS) (s VALUE-BUS) (s PAYLOAD) q (s AGE) d (λ f r. refl)
      ((owned k s g).bits d (owner_below (owned k s g) HAND a refl d h)) w e (g.datas e m)) also
      Part.held by (owner_free (owned k s g) HAND a refl d h) also
      done) refl

-- THE THEOREM of a hand that lets go
pub let_go_keeps : (k : Caps) (s : State) (a : ℕ) → Good k s → a < k.actors → Good k (let_go s a)
unfolding let_go
let_go_keeps k s a g l =
    split (eqb (at s HAND a) 0) (λ q. rw q g)
    (λ q. let n = eqb-false (at s HAND a) 0 q in
    let b : at s HAND a - 1 < k.datas = omega (arith, (g.actors a l).1.1) in
    rw (q, unfill_is s (at s HAND a - 1)) (let_good k s g a l (at s HAND a - 1) (omega arith) (wipe (s PAYLOAD) (at s HAND a - 1)) (wipe_is k s (at s HAND a - 1) g.sized b)))

-- ---- a data entry is filled
-- the state with data entry d taken and n its payload's length, where q is the payload area with the message in that entry
abbrev pub filled : State → ℕ → ℕ → ℕ → List ℕ → State
filled s d sender n q = with_col (poke (poke (take_bit s DATA-FREE d) SENDER d sender) LENGTH d n) PAYLOAD q

-- which are four columns
pub wrote_filled : {ws : List ℕ} {s t : State} → Wrote ws s t → (d sender n : ℕ) (q : List ℕ) → length q ≡ length (t PAYLOAD) → Wrote (PAYLOAD ∷ LENGTH ∷ SENDER ∷ DATA-FREE ∷ ws) s (filled t d sender n q)
unfolding poke with_col take_bit
wrote_filled w d sender n q e = wrote_with (wrote_poke (wrote_poke (wrote_take w DATA-FREE d) SENDER d sender) LENGTH d n) PAYLOAD q e

-- the payload area with a message in entry d
abbrev pub ink : State → ℕ → ℕ → List ℕ → List ℕ
ink s d heading payload = sets (s PAYLOAD) (ENTRY-BYTES * d + 0) (le 4 heading ++ payload)

-- to fill a data entry is to write four columns
pub fill_is : (s : State) (d sender heading : ℕ) (payload : List ℕ) → fill s d sender heading payload ≡ filled s d sender (length payload) (ink s d heading payload)
unfolding fill write poke with_col take_bit
fill_is s d sender heading payload =
    let t : State = poke (poke (take_bit s DATA-FREE d) SENDER d sender) LENGTH d (length payload) in
    let e : 4 ≡ 0 + length (le 4 heading) = omega (arith, length-le 4 heading) in
    ap (λ (n : ℕ). write (write t d 0 (le 4 heading)) d n payload) e ∙ write-append t d 0 (le 4 heading) payload

-- a message for which there is room: what is asked of it
pub record Fine (ages : List ℕ) (sender heading : ℕ) (payload : List ℕ) : Type 0 where
  pub small : heading < 2 ^ 32
  pub headed : Holds (header_rule heading)
  pub lengthy : Holds (length_rule (class_of heading) (length payload))
  pub sent : Holds (sender_rule ages (class_of heading) sender)

module _ (k : Caps) (s : State) (g : Good k s) (a : ℕ) (there : alive (s STATE) a ≡ true) (d e : ℕ) (below : d < k.datas) (under : e < k.mails)
    (df : free (s DATA-FREE) d ≡ true) (mf : free (s MAIL-FREE) e ≡ true) (sender heading : ℕ) (payload : List ℕ) (fine : Fine (s AGE) sender heading payload) where
  -- the entry is all zero before
  pub ink_is : Written (s PAYLOAD) (ink s d heading payload) d heading payload
  ink_is = written (s PAYLOAD) payload d heading (omega (arith, g.sized.bytes)) fine.small fine.lengthy.0 ((g.datas d below).0 df).1

  module _ (q : List ℕ) (w : Written (s PAYLOAD) q d heading payload) (deaf : hears s a sender heading ≡ false) where
    -- where the target does not wait for it, the message in its mailbox is sound
    pub enlist_good : Good k (enlist (filled s d sender (length payload) q) e a d)
    unfolding enlist push poke with_col take_bit pair_rule
    enlist_good =
        let taken-mail = taken-same (s MAIL-FREE) e (free_inside (s MAIL-FREE) e mf) in
        let room = arrivals_room k s g e under mf in
        let one_more = read_back g ARRIVED 0 (at s ARRIVED 0 + 1) tt (omega arith) in
        let owner-is = read_down g MAIL-OWNER e a tt under in
        let sender-is = read_back g SENDER d sender tt below in
        patch k g (wrote_enlist (wrote_filled (wrote_none s) d sender (length payload) q w.long) e a d) (
        Part.head by (rw one_more (g.head.0, ((queue-fits g, omega (arith, room)), g.head.1.1))) also
        Part.mail_bits by (bits_take k.mails (s MAIL-FREE) e under g.mail_bits) also
        Part.data_bits by (bits_take k.datas (s DATA-FREE) d below g.data_bits) also
        Part.mails by (λ f m. each_set (λ f. Holds (mail_rule k (enlist (filled s d sender (length payload) q) e a d) f)) e f
        (rw (taken-mail, owner-is, read_back g MAIL-OWNER e (suc a) tt under, read_back g MAIL-DATA e (suc d) tt under)
        (λ u. true_false false u refl, λ u. ((omega arith, there), (omega arith, omega (arith, below)))))
        (λ r. rw (taken-other (s MAIL-FREE) e f (eqb-false f e r), other (s MAIL-OWNER) e (suc a) f r, other (s MAIL-DATA) e (suc d) f r) (g.mails f m))) also
        Part.arrivals by (rw one_more (listed-joins k.mails (at s ARRIVED 0) (s ARRIVAL) (arrivals-fit g) (g.sized.words ARRIVAL (lit< tt)) g.arrivals e under room)) also
        Part.arrived by (rw one_more (once-joins k.mails (at s ARRIVED 0) (s ARRIVAL) (arrivals-fit g) (g.sized.words ARRIVAL (lit< tt)) g.arrivals
        (λ f. not (free (s MAIL-FREE) f)) (λ f. not (free (taken (s MAIL-FREE) e) f)) e room (rw mf) (rw taken-mail) (λ f n. rw (taken-other (s MAIL-FREE) e f n)) g.arrived)) also
        Part.filters by (λ f m. each_set (λ f. f < k.mails → Holds (filter_rule (enlist (filled s d sender (length payload) q) e a d) f)) e f
        (λ m. rw (owner-is, read_down g MAIL-DATA e d tt under, sender-is, w.header)
        (λ u. let y : eqb (at s STATE a) WAITS ≡ true = eq-eqb (at s STATE a) WAITS u.1 in rw (rw y at deaf)))
        (λ r m. rw (taken-other (s MAIL-FREE) e f (eqb-false f e r), other (s MAIL-OWNER) e (suc a) f r, other (s MAIL-DATA) e (suc d) f r)
        (λ u. let c = owner_fresh (owned k s g) MAIL-DATA f refl ((g.mails f m).1 u.0).1.0 d df in
        rw (other (s SENDER) d sender (at s MAIL-DATA f - 1) c, header-same (s PAYLOAD) q (at s MAIL-DATA f - 1) (w.apart (at s MAIL-DATA f - 1) c)) (g.filters f m u)))
        m) also
        Part.datas by (λ f m. datas-take (s DATA-FREE) (s SENDER) (s LENGTH) (s VALUE-BUS) (s VALUE-BUS) (s PAYLOAD) q (s AGE) d (λ e r. refl) sender (length payload) w.apart
        (rw (taken-same (s DATA-FREE) d (free_inside (s DATA-FREE) d df), sender-is, read_back g LENGTH d (length payload) tt below, w.header, free_no_value k s g d below df)
        (λ u. true_false false u refl, λ u. (λ z. ((fine.headed, fine.lengthy), (fine.sent, w.past)), λ z. absurd (z refl))))
        f (g.datas f m)) also
        Part.held by (owner_take (owned k s g) MAIL-DATA e refl (omega (arith, g.sized.words MAIL-DATA (lit< tt))) ((g.mails e under).0 mf).1 d df) also
        done) refl

-- ---- the target is stirred
-- to wake the target after the message joined its mailbox, or before, is the same
pub wake-early : (s : State) (d sender n : ℕ) (q : List ℕ) (e a : ℕ) → wake (enlist (filled s d sender n q) e a d) a MESSAGE ≡ enlist (filled (wake s a MESSAGE) d sender n q) e a d
unfolding enlist push poke with_col take_bit ready unwait
wake-early s d sender n q e a = fun_ext (λ c.
    split (eqb c QUEUED) (λ r. rw (eqb-true c QUEUED r)) (λ q₁.
    split (eqb c QUEUE) (λ r. rw (eqb-true c QUEUE r)) (λ q₂.
    split (eqb c REASON) (λ r. rw (eqb-true c REASON r)) (λ q₃.
    split (eqb c STATE) (λ r. rw (eqb-true c STATE r)) (λ q₄.
    split (eqb c DEADLINE) (λ r. rw (eqb-true c DEADLINE r)) (λ q₅.
    split (eqb c WANT-TAG) (λ r. rw (eqb-true c WANT-TAG r)) (λ q₆.
    split (eqb c WANT-CLASS) (λ r. rw (eqb-true c WANT-CLASS r)) (λ q₇.
    split (eqb c WANT-SENDER) (λ r. rw (eqb-true c WANT-SENDER r)) (λ q₈. simp (q₁, q₂, q₃, q₄, q₅, q₆, q₇, q₈))))))))))

-- the message in the mailbox of slot a, which is not stirred yet
abbrev pub joined : Caps → State → ℕ → ℕ → ℕ → List ℕ → State
joined k s a sender heading payload =
    enlist (filled s (data_for k s) sender (length payload) (ink s (data_for k s) heading payload)) (mail_for k s) a (data_for k s)

-- who waits for what is not written by a message
hears-same : (k : Caps) (s : State) (a sender heading : ℕ) (payload : List ℕ) → hears (joined k s a sender heading payload) a sender heading ≡ hears s a sender heading
unfolding enlist push poke with_col take_bit
hears-same k s a sender heading payload = refl

-- a message that its target does not wait for just joins the mailbox
pub post_unheard : (k : Caps) (s : State) (a sender heading : ℕ) (payload : List ℕ) → hears s a sender heading ≡ false → post k s a sender heading payload ≡ joined k s a sender heading payload
unfolding post stir
post_unheard k s a sender heading payload q = rw (fill_is s (data_for k s) sender heading payload, hears-same k s a sender heading payload, q)

-- one that it waits for joins the mailbox of an actor that was woken
pub post-heard : (k : Caps) (s : State) (a sender heading : ℕ) (payload : List ℕ) → hears s a sender heading ≡ true → post k s a sender heading payload ≡ joined k (wake s a MESSAGE) a sender heading payload
unfolding post stir ready unwait push poke with_col
post-heard k s a sender heading payload q =
    rw (fill_is s (data_for k s) sender heading payload, hears-same k s a sender heading payload, q) (wake-early s (data_for k s) sender (length payload) (ink s (data_for k s) heading payload) (mail_for k s) a)

-- who hears waits
pub hears-waits : (s : State) (a sender heading : ℕ) → hears s a sender heading ≡ true → at s STATE a ≡ WAITS
hears-waits s a sender heading q =
    eqb-true (at s STATE a) WAITS (and_left (eqb (at s STATE a) WAITS) (fits (at s WANT-SENDER a) (at s WANT-CLASS a) (at s WANT-TAG a) sender (class_of heading) (tag_of heading)) q)

-- who was woken waits no more, and hears nothing
pub wake_deaf : (s : State) (a sender heading : ℕ) → a < length (s STATE) → hears (wake s a MESSAGE) a sender heading ≡ false
unfolding ready unwait push poke with_col
wake_deaf s a sender heading l = rw (get_or-set_same (s STATE) a RUNNABLE 0 l)

-- and is alive
pub wake-alive : (s : State) (a : ℕ) → a < length (s STATE) → alive (wake s a MESSAGE STATE) a ≡ true
unfolding ready unwait push poke with_col
wake-alive s a l = alive-begins (s STATE) a RUNNABLE l (λ e. omega arith)

-- room for a message: the lowest free entries of both pools are among the entries, and free
pub room_free : (k : Caps) (s : State) → has_room k s ≡ true →
    (data_for k s < k.datas) × (mail_for k s < k.mails) × (free (s DATA-FREE) (data_for k s) ≡ true) × (free (s MAIL-FREE) (mail_for k s) ≡ true)
room_free k s roomy =
    let m = ltb-true (mail_for k s) k.mails (and_left (ltb (mail_for k s) k.mails) (ltb (data_for k s) k.datas) roomy) in
    let d = ltb-true (data_for k s) k.datas (and_right (ltb (mail_for k s) k.mails) (ltb (data_for k s) k.datas) roomy) in
    (d, m, lowest-at (free (s DATA-FREE)) k.datas d, lowest-at (free (s MAIL-FREE)) k.mails m)

-- a message that its target does not wait for
pub joined_keeps : (k : Caps) (s : State) (a : ℕ) → Good k s → alive (s STATE) a ≡ true → (sender heading : ℕ) (payload : List ℕ) → has_room k s ≡ true → Fine (s AGE) sender heading payload →
    hears s a sender heading ≡ false → Good k (joined k s a sender heading payload)
joined_keeps k s a g there sender heading payload roomy fine q =
    let f = room_free k s roomy in
    let w = ink_is k s g a there (data_for k s) (mail_for k s) f.0 f.1 f.2 f.3 sender heading payload fine in
    enlist_good k s g a there (data_for k s) (mail_for k s) f.0 f.1 f.2 f.3 sender heading payload fine (ink s (data_for k s) heading payload) w q

-- THE THEOREM of a message to a live actor, for which there is room
pub post_keeps : (k : Caps) (s : State) (a : ℕ) → Good k s → alive (s STATE) a ≡ true → (sender heading : ℕ) (payload : List ℕ) → has_room k s ≡ true → Fine (s AGE) sender heading payload →
    Good k (post k s a sender heading payload)
unfolding ready unwait push poke with_col
post_keeps k s a g there sender heading payload roomy fine =
    let l = alive-below (s STATE) a there in
    split (hears s a sender heading)
    (λ q. rw (post-heard k s a sender heading payload q)
    (joined_keeps k (wake s a MESSAGE) a (wake_keeps k s a MESSAGE g (omega (arith, g.sized.words STATE (lit< tt))) (hears-waits s a sender heading q)
    (omega arith)) (wake-alive s a l) sender heading payload roomy fine (wake_deaf s a sender heading l)))
    (λ q. rw (post_unheard k s a sender heading payload q) (joined_keeps k s a g there sender heading payload roomy fine q))

-- ---- a mailbox entry leaves
-- the mailbox entry that arrived as the j-th
abbrev pub mail_of : State → ℕ → ℕ
mail_of s j = at s ARRIVAL j

module _ (k : Caps) (s : State) (g : Good k s) (j : ℕ) (jl : j < at s ARRIVED 0) where
  -- it is one of the entries
  pub mail_of-below : mail_of s j < k.mails
  mail_of-below = (g.arrivals j (omega (arith, arrivals-fit g))).0 jl

  -- it is in use
  pub mail_of_used : not (free (s MAIL-FREE) (mail_of s j)) ≡ true
  mail_of_used =
      let o = occurs-pos (mail_of s j) (arrivals s) j (omega (arith, arrivals_long k s g)) (get_or-take (at s ARRIVED 0) (s ARRIVAL) j 0 jl) in
      flag_pos (not (free (s MAIL-FREE) (mail_of s j))) (omega (arith, g.arrived (mail_of s j) mail_of-below))

  -- it names a data entry
  pub data_of_is : at s MAIL-DATA (mail_of s j) ≡ suc (data_of s j)
  data_of_is = omega (arith, ((g.mails (mail_of s j) mail_of-below).1 mail_of_used).1.0)

  -- which is one of the data entries
  pub data_of-below : data_of s j < k.datas
  data_of-below = omega (arith, ((g.mails (mail_of s j) mail_of-below).1 mail_of_used).1)

  -- it is free afterwards
  freed : free (released (s MAIL-FREE) (mail_of s j)) (mail_of s j) ≡ true
  freed = released-same (s MAIL-FREE) (mail_of s j) (omega (arith, mail_of-below, g.range.few_mails, g.sized.words MAIL-FREE (lit< tt)))

  -- so an entry in use afterwards is another, and was in use
  pub still : (f : ℕ) → not (free (released (s MAIL-FREE) (mail_of s j)) f) ≡ true → (eqb f (mail_of s j) ≡ false) × (not (free (s MAIL-FREE) f) ≡ true)
  still f u =
      let r : eqb f (mail_of s j) ≡ false = ne_eqb f (mail_of s j) (λ e. true_false (free (released (s MAIL-FREE) (mail_of s j)) f) (rw e freed) (not-true (free (released (s MAIL-FREE) (mail_of s j)) f) u)) in
      (r, rw (released-other (s MAIL-FREE) (mail_of s j) f (eqb-false f (mail_of s j) r)) at u)

  -- the count of arrivals, one down
  one_less : get_or (set (s ARRIVED) 0 (at s ARRIVED 0 - 1)) 0 0 ≡ at s ARRIVED 0 - 1
  one_less = read_back g ARRIVED 0 (at s ARRIVED 0 - 1) tt (omega arith)

  -- it writes five columns
  pub delist_wrote : Wrote (ARRIVED ∷ ARRIVAL ∷ MAIL-DATA ∷ MAIL-OWNER ∷ MAIL-FREE ∷ []) s (delist s j)
  unfolding delist poke with_col free_bit
  delist_wrote = wrote_pull (wrote_poke (wrote_poke (wrote_free (wrote_none s) MAIL-FREE (mail_of s j)) MAIL-OWNER (mail_of s j) 0) MAIL-DATA (mail_of s j) 0)
      ARRIVAL ARRIVED j jl (omega (arith, arrivals-fit g, g.sized.words ARRIVAL (lit< tt)))

  -- the head is sound
  pub delist-head : Holds (head_rule k (delist s j))
  unfolding delist pull poke with_col free_bit
  delist-head = rw one_less (g.head.0, ((queue-fits g, omega (arith, arrivals-fit g)), g.head.1.1))

  -- so are the bits
  pub delist_bits : (e : ℕ) → e < COLUMN-BITS → Holds (bits_rule k.mails (delist s j MAIL-FREE) e)
  unfolding delist pull poke with_col free_bit
  delist_bits = bits_free k.mails (s MAIL-FREE) (mail_of s j) mail_of-below g.mail_bits

  -- the mailbox entries
  pub delist-mails : (f : ℕ) → f < k.mails → Holds (mail_rule k (delist s j) f)
  unfolding delist pull poke with_col free_bit
  delist-mails f m = each_set (λ f. Holds (mail_rule k (delist s j) f)) (mail_of s j) f
      (rw (freed, set-zero (s MAIL-OWNER) (mail_of s j), set-zero (s MAIL-DATA) (mail_of s j)) (λ u. (refl, refl), λ u. true_false false u refl))
      (λ r. rw (released-other (s MAIL-FREE) (mail_of s j) f (eqb-false f (mail_of s j) r), other (s MAIL-OWNER) (mail_of s j) 0 f r, other (s MAIL-DATA) (mail_of s j) 0 f r) (g.mails f m))

  -- the arrivals
  pub delist-arrivals : (i : ℕ) → i < k.mails → Holds (arrival_rule k (delist s j) i)
  unfolding delist pull poke with_col free_bit
  delist-arrivals = rw one_less (listed_leaves k.mails (at s ARRIVED 0) (s ARRIVAL) (arrivals-fit g) (g.sized.words ARRIVAL (lit< tt)) g.arrivals j jl)

  -- each entry in use has arrived once
  pub delist-arrived : (e : ℕ) → e < k.mails → Holds (arrived_rule (delist s j) e)
  unfolding delist pull poke with_col free_bit
  delist-arrived = rw one_less (once_leaves k.mails (at s ARRIVED 0) (s ARRIVAL) (arrivals-fit g) (g.sized.words ARRIVAL (lit< tt)) g.arrivals j jl
      (λ f. not (free (s MAIL-FREE) f)) (λ f. not (free (released (s MAIL-FREE) (mail_of s j)) f)) (rw freed) (λ f n. rw (released-other (s MAIL-FREE) (mail_of s j) f n)) g.arrived)

  -- ---- it goes to the empty hand of a live slot
  module _ (a : ℕ) (there : alive (s STATE) a ≡ true) (empty : at s HAND a ≡ 0) where
    -- THE THEOREM of a message that goes to an empty hand: sound as before
    pub hand_over_keeps : Good k (hand_over s a j)
    unfolding hand_over delist pull poke with_col free_bit pair_rule
    hand_over_keeps =
        patch k g (wrote_poke delist_wrote HAND a (suc (data_of s j))) (
        Part.head by (delist-head) also
        Part.mail_bits by (delist_bits) also
        Part.actors by (λ b m. ((g.actors b m).0, ((g.actors b m).1.0, set_so (λ x. x ≤ k.datas) (s HAND) a (suc (data_of s j)) b data_of-below (g.actors b m).1.1))) also
        Part.unused_words by (λ b m. (
          λ u. (
            ((g.unused_words b m).0 u).0,
            rw (other (s HAND) a (suc (data_of s j)) b (ne_eqb b a (λ e. of-alive (s STATE) a there (rw e at u))))
                ((g.unused_words b m).0 u).1,
          ),
          (g.unused_words b m).1,
        )) also
        Part.mails by (delist-mails) also
        Part.arrivals by (delist-arrivals) also
        Part.arrived by (delist-arrived) also
        Part.filters by (λ f m u.
        let r = still f u.0 in
        rw (other (s MAIL-OWNER) (mail_of s j) 0 f r.0, other (s MAIL-DATA) (mail_of s j) 0 f r.0) (g.filters f m (r.1, rw (other (s MAIL-OWNER) (mail_of s j) 0 f r.0) at u.1))) also
        Part.held by (owner_pass (owned k s g) MAIL-DATA (mail_of s j) refl (data_of s j) data_of_is HAND a refl
        (omega (arith, alive_slot k s g a there, g.sized.words HAND (lit< tt))) empty refl) also
        done) refl

  -- ---- its data entry is freed with it
  module _ (q : List ℕ) (w : Wiped (s PAYLOAD) q (data_of s j)) where
    -- sound as before
    pub drop_good : Good k (unfilled (delist s j) (data_of s j) q)
    unfolding delist pull poke with_col free_bit pair_rule
    drop_good =
        patch k g (wrote_unfilled delist_wrote (data_of s j) q w.long) (
        Part.head by (delist-head) also
        Part.mail_bits by (delist_bits) also
        Part.data_bits by (bits_free k.datas (s DATA-FREE) (data_of s j) data_of-below g.data_bits) also
        Part.mails by (delist-mails) also
        Part.arrivals by (delist-arrivals) also
        Part.arrived by (delist-arrived) also
        Part.filters by (λ f m u.
        let r = still f u.0 in
        let v = ((g.mails f m).1 r.1).1 in
        let c : eqb (at s MAIL-DATA f - 1) (data_of s j) ≡ false = owner_else (owned k s g) MAIL-DATA (mail_of s j) refl (data_of s j) data_of_is MAIL-DATA f refl v.0 r.0 in
        rw (
          other (s MAIL-OWNER) (mail_of s j) 0 f r.0,
          other (s MAIL-DATA) (mail_of s j) 0 f r.0,
          other (s SENDER) (data_of s j) 0
              (at s MAIL-DATA f - 1) c,
          header-same (s PAYLOAD) q (at s MAIL-DATA f - 1) (w.apart (at s MAIL-DATA f - 1) c),
        )
        (g.filters f m (r.1, rw (other (s MAIL-OWNER) (mail_of s j) 0 f r.0) at u.1))) also
        Part.datas by (λ e m. datas-free (s DATA-FREE) (s SENDER) (s LENGTH) (s VALUE-BUS) (s VALUE-BUS) (s PAYLOAD) q (s AGE) (data_of s j) (λ f r. refl)
        ((owned k s g).bits (data_of s j) data_of-below) w e (g.datas e m)) also
        Part.held by (owner_free (owned k s g) MAIL-DATA (mail_of s j) refl (data_of s j) data_of_is) also
        done) refl

-- ---- the first message of a slot is dropped
-- what a drop does where there is a message
pub drop_first_is : (s : State) (a : ℕ) → ltb (first_of s a) (at s ARRIVED 0) ≡ true → drop_first s a ≡ unfilled (delist s (first_of s a)) (data_of s (first_of s a)) (wipe (s PAYLOAD) (data_of s (first_of s a)))
unfolding drop_first delist pull poke with_col free_bit
drop_first_is s a q = rw (q, unfill_is (delist s (first_of s a)) (data_of s (first_of s a)))

-- and where there is none
pub drop_first_none : (s : State) (a : ℕ) → ltb (first_of s a) (at s ARRIVED 0) ≡ false → drop_first s a ≡ s
unfolding drop_first
drop_first_none s a q = rw q

-- sound as before
pub drop_first_keeps : (k : Caps) (s : State) (a : ℕ) → Good k s → Good k (drop_first s a)
drop_first_keeps k s a g =
    split (ltb (first_of s a) (at s ARRIVED 0))
    (λ q. let l = ltb-true (first_of s a) (at s ARRIVED 0) q in
    rw (drop_first_is s a q) (drop_good k s g (first_of s a) l (wipe (s PAYLOAD) (data_of s (first_of s a))) (wipe_is k s (data_of s (first_of s a)) g.sized (data_of-below k s g (first_of s a) l))))
    (λ q. rw (drop_first_none s a q) g)

-- all of them are
pub drop_all_keeps : (m : ℕ) (k : Caps) (s : State) (a : ℕ) → Good k s → Good k (drop_all m s a)
unfolding drop_all
drop_all_keeps zero k s a g = g
drop_all_keeps (suc m) k s a g = drop_all_keeps m k (drop_first s a) a (drop_first_keeps k s a g)

-- ---- how many mailbox entries are a slot's
-- every entry with an owner is in use, and has arrived
pub owned_arrived : (k : Caps) (s : State) → Good k s → (e : ℕ) → e < k.mails → (at s MAIL-OWNER e ≡ 0 → ⊥) → (i : ℕ) × (i < at s ARRIVED 0) × (at s ARRIVAL i ≡ e)
owned_arrived k s g e m n =
    let u : free (s MAIL-FREE) e ≡ false = split (free (s MAIL-FREE) e) (λ q. absurd (n ((g.mails e m).0 q).0)) (λ q. q) in
    let p = occurs-place e (take (at s ARRIVED 0) (s ARRIVAL)) (rw (g.arrived e m, u) (omega arith)) in
    let l : p.0 < at s ARRIVED 0 = omega (arith, p.1, arrivals_long k s g) in
    (p.0, l, sym (get_or-take (at s ARRIVED 0) (s ARRIVAL) p.0 0 l) ∙ p.2)

-- a drop takes one of them
drop-one : (k : Caps) (s : State) (a : ℕ) (q : List ℕ) → Good k s → first_of s a < at s ARRIVED 0 →
    occurs (suc a) (unfilled (delist s (first_of s a)) (data_of s (first_of s a)) q MAIL-OWNER) ≡ occurs (suc a) (s MAIL-OWNER) - 1
unfolding delist pull poke with_col free_bit
drop-one k s a q g l =
    let e = at s ARRIVAL (first_of s a) in
    let o : at s MAIL-OWNER e ≡ suc a = eqb-true (at s MAIL-OWNER e) (suc a) (lowest-at (λ i. eqb (at s MAIL-OWNER (at s ARRIVAL i)) (suc a)) (at s ARRIVED 0) l) in
    let t = occurs-set (suc a) (s MAIL-OWNER) e 0 (omega (arith, mail_of-below k s g (first_of s a) l, g.sized.words MAIL-OWNER (lit< tt))) in
    omega (arith, rw (eq-eqb (at s MAIL-OWNER e) (suc a) o, ne_eqb 0 (suc a) (λ z. omega arith)) at t)

-- where there is none to drop no entry is the slot's
pub drop_none : (k : Caps) (s : State) (a : ℕ) → Good k s → ltb (first_of s a) (at s ARRIVED 0) ≡ false → occurs (suc a) (s MAIL-OWNER) ≡ 0
drop_none k s a g q =
    elim (dec_lt 0 (occurs (suc a) (s MAIL-OWNER))) [
      | yes h ↦
          let p = occurs-place (suc a) (s MAIL-OWNER) h in
          let r = owned_arrived k s g p.0 (omega (arith, p.1, g.sized.words MAIL-OWNER (lit< tt))) (λ z. omega (arith, p.2)) in
          true_false (eqb (at s MAIL-OWNER (at s ARRIVAL r.0)) (suc a)) (rw r.2 (eq-eqb (at s MAIL-OWNER p.0) (suc a) p.2))
          (lowest-first (λ i. eqb (at s MAIL-OWNER (at s ARRIVAL i)) (suc a)) (at s ARRIVED 0) r.0 (omega (arith, r.1, ltb-false (first_of s a) (at s ARRIVED 0) q)))
      | no h ↦ omega arith
    ]

-- a drop takes one of them, or there was none
pub drop_first-one : (k : Caps) (s : State) (a : ℕ) → Good k s → occurs (suc a) (drop_first s a MAIL-OWNER) ≡ occurs (suc a) (s MAIL-OWNER) - 1
drop_first-one k s a g =
    split (ltb (first_of s a) (at s ARRIVED 0))
    (λ q. rw (drop_first_is s a q) (drop-one k s a (wipe (s PAYLOAD) (data_of s (first_of s a))) g (ltb-true (first_of s a) (at s ARRIVED 0) q)))
    (λ q. rw (drop_first_none s a q) (omega (arith, drop_none k s a g q)))

-- m drops take m of them
pub drop_all-less : (m : ℕ) (k : Caps) (s : State) (a : ℕ) → Good k s → occurs (suc a) (drop_all m s a MAIL-OWNER) ≡ occurs (suc a) (s MAIL-OWNER) - m
unfolding drop_all
drop_all-less zero k s a g = omega arith
drop_all-less (suc m) k s a g = drop_all-less m k (drop_first s a) a (drop_first_keeps k s a g) ∙ omega (arith, drop_first-one k s a g)

-- there are no more arrivals of a slot than arrivals
pub owned_few : (k : Caps) (s : State) → Good k s → (a : ℕ) → occurs (suc a) (s MAIL-OWNER) ≤ at s ARRIVED 0
owned_few k s g a =
    let c = occurs-column a (s MAIL-OWNER) (arrivals s) (column-arrived k s g (s MAIL-OWNER) (g.sized.words MAIL-OWNER (lit< tt)) (λ e l q. ((g.mails e l).0 q).0) (λ e l q. ((g.mails e l).1 q).0.0)) in
    omega (arith, arrivals_long k s g, c, occurs-length a (map (λ e. at s MAIL-OWNER e - 1) (arrivals s)), length-map (arrivals s) (λ e. at s MAIL-OWNER e - 1))

-- THE THEOREM of a mailbox that is freed: after as many drops as there are arrivals no mailbox entry is the slot's
pub drop_all-empties : (k : Caps) (s : State) (a : ℕ) → Good k s → (e : ℕ) → at (drop_all (at s ARRIVED 0) s a) MAIL-OWNER e ≡ suc a → ⊥
drop_all-empties k s a g e q =
    let t = drop_all (at s ARRIVED 0) s a in
    let l : e < length (t MAIL-OWNER) = elim (dec_lt e (length (t MAIL-OWNER))) [ yes l ↦ l | no n ↦ absurd (omega (arith, get_or-eq_default (t MAIL-OWNER) 0 {n = e} (omega arith))) ] in
    omega (arith, drop_all-less (at s ARRIVED 0) k s a g, owned_few k s g a, occurs-pos (suc a) (t MAIL-OWNER) e l q)

-- ---- a hand that let go is empty
pub let_go_empty : (k : Caps) (s : State) (a : ℕ) → Good k s → a < k.actors → at (let_go s a) HAND a ≡ 0
unfolding let_go
let_go_empty k s a g l =
    split (eqb (at s HAND a) 0) (λ q. rw q (eqb-true (at s HAND a) 0 q))
    (λ q. rw q (rw (poke-same (unfill s (at s HAND a - 1)) HAND a 0) (set-zero (unfill s (at s HAND a - 1) HAND) a)))

-- ---- waiting
-- what a legal filter is
pub legal-of : (class tag : ℕ) → legal class tag ≡ true → (tag ≤ ANY-TAG) × (class ≤ ANY-CLASS) × (4 < class → class ≡ ANY-CLASS)
legal-of class tag e =
    let c = and_left (leb class 4 || eqb class ANY-CLASS) (leb tag ANY-TAG) e in
    let either : (class ≤ ANY-CLASS) × (4 < class → class ≡ ANY-CLASS) =
    split (leb class 4) (λ q. let h = leb-true class 4 q in (omega arith, λ m. absurd (omega arith))) (λ q. let h = eqb-true class ANY-CLASS (rw q at c) in (omega arith, λ m. h)) in
    (leb-true tag ANY-TAG (and_right (leb class 4 || eqb class ANY-CLASS) (leb tag ANY-TAG) e), either.0, either.1)

-- a wait that is taken is no longer than a day
pub wait_fits : (n : ℕ) → bad_wait (pos n) ≡ false → n ≤ LONGEST-WAIT
wait_fits n b = ltb-false LONGEST-WAIT n b

-- a deadline is later than the clock, and in range
pub deadline_fits : (clock : ℕ) (wait : ℤ) → clock ≤ CLOCK-END → bad_wait wait ≡ false → not_at_all wait ≡ false → (deadline_at clock wait ≡ 0 → ⊥) →
    (clock < deadline_at clock wait) × (deadline_at clock wait ≤ DEADLINE-END)
deadline_fits clock (pos n) h b o z =
    let l = wait_fits n b in
    let m = eqb-false n 0 o in
    (omega arith, omega arith)
deadline_fits clock (negsuc n) h b o z = absurd (z refl)

module _ (k : Caps) (s : State) (g : Good k s) (a : ℕ) (runs : runner s ≡ suc a) (sender class tag deadline : ℕ) (right : legal class tag ≡ true)
    (later : (deadline ≡ 0 → ⊥) → (head s CLOCK < deadline) × (deadline ≤ DEADLINE-END))
    (unmet : (i : ℕ) → i < head s ARRIVED → match_at s a sender class tag i ≡ false) where
  -- THE THEOREM of an actor that waits for what its mailbox does not hold
  pub await_keeps : Good k (await s a sender class tag deadline)
  unfolding await poke with_col pair_rule
  await_keeps =
      let (slot-runs, state-runs) = runs-at k s g a runs in
      let w : alive (set (s STATE) a WAITS) ≡ alive (s STATE) = alive-same (s STATE) a WAITS (λ e. omega (arith, state-runs)) (λ e. omega arith) in
      let is = read_back g STATE a WAITS tt slot-runs in
      let e₁ = read_back g WANT-SENDER a sender tt slot-runs in
      let e₂ = read_back g WANT-CLASS a class tt slot-runs in
      let e₃ = read_back g WANT-TAG a tag tt slot-runs in
      let z : get_or (set (s RUNNING) 0 0) 0 0 ≡ 0 = set-zero (s RUNNING) 0 in
      let p = legal-of class tag right in
      patch_living k g (wrote_await (wrote_none s) a sender class tag deadline) (
      Part.head by (rw z ((clock_fits g, omega arith), g.head.1)) also
      Part.actors by (λ b h. each_set (λ b. Holds (actor_rule k (await s a sender class tag deadline) b)) a b
      (let c = g.actors a slot-runs in rw is ((omega arith, c.0.1), ((c.1.0.0, λ e. absurd (omega (arith, state-runs, c.1.0.1 e))), c.1.1)))
      (λ q. rw (other (s STATE) a WAITS b q) (g.actors b h))) also
      Part.unused_words by (λ b h. each_set (λ b. Holds (unused_rule (await s a sender class tag deadline) b)) a b
      (rw is (λ e. absurd (omega arith), (λ e. (g.unused_words a slot-runs).1.0 (λ r. omega (arith, state-runs)), λ e. absurd (e refl))))
      (λ q. rw (other (s STATE) a WAITS b q, other (s WANT-SENDER) a sender b q, other (s WANT-CLASS) a class b q, other (s WANT-TAG) a tag b q, other (s DEADLINE) a deadline b q) (g.unused_words b h))) also
      Part.waits by (λ b h. each_set (λ b. Holds (wait_rule (await s a sender class tag deadline) b)) a b
      (rw (e₂, e₃, read_back g DEADLINE a deadline tt slot-runs) (p.0, ((p.1, p.2), later)))
      (λ q. rw (other (s WANT-CLASS) a class b q, other (s WANT-TAG) a tag b q, other (s DEADLINE) a deadline b q) (g.waits b h))) also
      Part.runs by (λ b h. rw z (each_set (λ b. b < k.actors → bool_byte (eqb (get_or (set (s STATE) a WAITS) b 0) RUNS) ≡ bool_byte (eqb 0 (suc b))) a b
      (λ h. rw (is, ne_eqb 0 (suc a) (λ e. omega arith)))
      (λ q h. rw (other (s STATE) a WAITS b q, ne_eqb 0 (suc b) (λ e. omega arith)) (rw (ne_eqb (runner s) (suc b) (λ e. eqb-false b a q (omega (arith, runs)))) at (g.runs b h))) h)) also
      Part.once by (λ b h. each_set (λ b. b < k.actors → Holds (once_rule (await s a sender class tag deadline) b)) a b
      (λ h. rw is (rw state-runs at (g.once a h)))
      (λ q h. rw (other (s STATE) a WAITS b q) (g.once b h)) h) also
      Part.filters by (λ f m u. split (eqb (at s MAIL-OWNER f - 1) a)
      (λ q. let o : at s MAIL-OWNER f ≡ suc a = omega (arith, ((g.mails f m).1 u.0).0.0, eqb-true (at s MAIL-OWNER f - 1) a q) in
      let r = owned_arrived k s g f m (λ x. omega (arith, o)) in
      let v = rw (r.2, eq-eqb (at s MAIL-OWNER f) (suc a) o) at (unmet r.0 r.1) in
      rw (eqb-true (at s MAIL-OWNER f - 1) a q, e₁, e₂, e₃) (rw v))
      (λ q. rw (other (s WANT-SENDER) a sender (at s MAIL-OWNER f - 1) q, other (s WANT-CLASS) a class (at s MAIL-OWNER f - 1) q, other (s WANT-TAG) a tag (at s MAIL-OWNER f - 1) q)
      (g.filters f m (u.0, rw (other (s STATE) a WAITS (at s MAIL-OWNER f - 1) q) at u.1)))) also
      done) w refl

-- ---- receive
-- once the hand of the running actor is empty
pub receive_bare_keeps : (sender class tag : ℕ) (wait : ℤ) (k : Caps) (s : State) (a : ℕ) → Good k s → runner s ≡ suc a → at s HAND a ≡ 0 → legal class tag ≡ true → bad_wait wait ≡ false →
    Good k (receive_bare sender class tag wait a s).state
unfolding receive_bare
receive_bare_keeps sender class tag wait k s a g runs empty right fair =
    let j = first_match s a sender class tag in
    split (ltb j (head s ARRIVED))
    (λ q. rw q (hand_over_keeps k s g j (ltb-true j (head s ARRIVED) q) a (runs-alive k s g a runs) empty))
    (λ q. split (not_at_all wait) (λ r. rw (q, r) g)
    (λ r. rw (q, r) (await_keeps k s g a runs sender class tag (deadline_at (head s CLOCK) wait) right (deadline_fits (head s CLOCK) wait (clock_fits g) fair r)
    (λ i l. lowest-first (match_at s a sender class tag) (head s ARRIVED) i (omega (arith, ltb-false j (head s ARRIVED) q))))))

-- THE THEOREM of receive
pub receive_keeps : (sender class tag : ℕ) (wait : ℤ) → Keeps (receive sender class tag wait)
receive_keeps sender class tag wait k s g p =
    let a = runner s - 1 in
    let q = eqb-false (runner s) 0 p.0 in
    let l : a < k.actors = omega (arith, runner-fits g) in
    let n = neither (not (legal class tag)) (bad_wait wait) (second_passed p) in
    receive_bare_keeps sender class tag wait k (let_go s a) a (let_go_keeps k s a g l)
    (ap (λ (l : List ℕ). get_or l 0 0) ((wrote_let_go s a).cols RUNNING refl) ∙ omega arith) (let_go_empty k s a g l) (not-false (legal class tag) n.0) n.1

-- ---- notify
-- the id of a live actor is a legal sender
pub sender_fine : (k : Caps) (s : State) (a class : ℕ) → Good k s → alive (s STATE) a ≡ true → Holds (sender_rule (s AGE) class (actor_id s a))
sender_fine k s a class g there =
    let l : a < ACTOR-FACTOR = omega (arith, alive_slot k s g a there, g.range.few_actors) in
    let p = alive_age k s g a there in
    (λ z. absurd (omega (arith, id_pos ACTOR-FACTOR (at s AGE a) a p (lit< tt))), λ n. rw (age_of_id ACTOR-FACTOR (at s AGE a) a l, slot_of_id ACTOR-FACTOR (at s AGE a) a l) (p, omega arith))

-- what notify sends is what is asked of a message
pub notify_fine : (k : Caps) (s : State) (a tag : ℕ) (payload : List ℕ) → Good k s → alive (s STATE) a ≡ true → tag < ANY-TAG → length payload ≤ PAYLOAD-MOST → Fine (s AGE) (actor_id s a) (packed 0 0 tag) payload
notify_fine k s a tag payload g there t l =
    let c : class_of (packed 0 0 tag) ≡ 0 = class_packed 0 0 tag (omega arith) (omega arith) in
    let m : mark_of (packed 0 0 tag) ≡ 0 = mark-packed 0 0 tag (omega arith) (omega arith) in
    let n : tag_of (packed 0 0 tag) ≡ tag = tag_packed 0 0 tag (omega arith) (omega arith) in
    record {
      small = packed-fits 0 0 tag (omega arith) (omega arith) (omega arith);
      headed = (λ z. (m, omega arith), λ z. absurd (z c));
      lengthy = (l, (λ z. absurd (omega arith), λ z. absurd (omega arith)));
      sent = sender_fine k s a (class_of (packed 0 0 tag)) g there;
    }

-- THE THEOREM of notify
pub notify_keeps : (target tag : ℕ) (payload : List ℕ) → Keeps (notify target tag payload)
notify_keeps target tag payload k s g p =
    let bad = leb ANY-TAG tag in
    let long = ltb PAYLOAD-MOST (length payload) in
    post_keeps k s (slot_of ACTOR-FACTOR target) g (alive-of (s STATE) (slot_of ACTOR-FACTOR target)
    (of_live ACTOR-FACTOR (s STATE) (s AGE) target (not-false (is_actor s target) (third_passed p))).0) (runner_id s) (packed 0 0 tag) payload
    (not-false (has_room k s) (fourth_passed p))
    (notify_fine k s (runner s - 1) tag payload g (runner-alive k s g p.0) (leb-false ANY-TAG tag (neither bad long (second_passed p)).0) (ltb-false PAYLOAD-MOST (length payload) (neither bad long (second_passed p)).1))

-- ---- what a message leaves as it was
-- the same actors are alive
pub post-alive : (k : Caps) (s : State) (a sender heading : ℕ) (payload : List ℕ) → alive (post k s a sender heading payload STATE) ≡ alive (s STATE)
unfolding enlist ready unwait push poke with_col take_bit
post-alive k s a sender heading payload =
    split (hears s a sender heading)
    (λ q. rw (post-heard k s a sender heading payload q) (alive-same (s STATE) a RUNNABLE (λ z. omega (arith, hears-waits s a sender heading q)) (λ z. omega arith)))
    (λ q. rw (post_unheard k s a sender heading payload q))

-- ---- what the runtime itself sends
-- a tick is what is asked of a message
pub tick-fine : (ages : List ℕ) (id : ℕ) → Fine ages 0 (packed 3 1 0) (tick_bytes id)
tick-fine ages id = record {
  small = lit< tt;
  headed = (λ z. absurd (omega arith), λ z. ((omega arith, omega arith), (refl, refl)));
  lengthy = rw (length-tick id) (omega arith, (λ z. refl, λ z. absurd (omega arith)));
  sent = (λ z. refl, λ z. absurd (z refl));
}

-- so is the notice of an exit
pub exit_fine : (ages : List ℕ) (me reason monitor : ℕ) → Holds (sender_rule ages 4 me) → Fine ages me (packed 4 1 0) (exit_bytes me reason monitor)
exit_fine ages me reason monitor h = record {
  small = lit< tt;
  headed = (λ z. absurd (omega arith), λ z. ((omega arith, omega arith), (refl, refl)));
  lengthy = rw (length_exit me reason monitor) (omega arith, (λ z. absurd (omega arith), λ z. refl));
  sent = h;
}

-- ---- hand and mailbox of a slot are freed
-- sound as before
pub emptied_keeps : (k : Caps) (s : State) (a : ℕ) → Good k s → a < k.actors → Good k (emptied s a)
emptied_keeps k s a g l = drop_all_keeps (at s ARRIVED 0) k (let_go s a) a (let_go_keeps k s a g l)

-- a hand that lets go changes no mailbox
pub let_go-arrived_lem : (s : State) (a : ℕ) → let_go s a ARRIVED ≡ s ARRIVED
let_go-arrived_lem s a = (wrote_let_go s a).cols ARRIVED refl

-- no mailbox entry is the slot's
pub emptied-empties : (k : Caps) (s : State) (a : ℕ) → Good k s → a < k.actors → (e : ℕ) → at (emptied s a) MAIL-OWNER e ≡ suc a → ⊥
emptied-empties k s a g l e q =
    drop_all-empties k (let_go s a) a (let_go_keeps k s a g l) e
    (subst (λ (n : ℕ). at (drop_all n (let_go s a) a) MAIL-OWNER e ≡ suc a) (ap (λ (c : List ℕ). get_or c 0 0) (sym (let_go-arrived_lem s a))) q)

-- and its hand is empty
pub emptied_hand : (k : Caps) (s : State) (a : ℕ) → Good k s → a < k.actors → at (emptied s a) HAND a ≡ 0
emptied_hand k s a g l = ap (λ (c : List ℕ). get_or c a 0) ((beside_drop_all (at s ARRIVED 0) (let_go s a) a).cols HAND refl) ∙ let_go_empty k s a g l
