-- Values: the row that has them, the masks of empty seats, who may read, how many a bus has, and all of it as the rules have it.
use Prim.Native.Nat.{ℕ, suc, ◌+◌, ◌-◌, ◌/◌, ◌%◌, ◌^◌, ◌≤◌, ◌<◌}
use native.Mathlib.Omega.{arith}
use mathlib.Core.Path.{◌≡◌, refl, sym, ap, ◌∙◌}
use mathlib.Core.Bool.{Bool, true, false, not, ◌&&◌}
use mathlib.Core.List.{List}
use mir.Val.{bool_byte}
use lib.Bits.{bit_and, bit_or}
use lib.Dec.{eqb, leb, ltb}
use lib.ListN.{length, get_or, replicate, take, length-take, length-replicate, get_or-replicate}
use lib.Pow.{shr_lt}
use borrow.Author.Tests.{eqb-true, eqb-false, eq-eqb, ltb-false, ltb-true, ne_eqb, not-true}
use Rattle.pools.specs.Bits.{WORD-BITS, bit, free}
use Rattle.pools.specs.Pool.{occurs}
use Rattle.pools.proofs.BitLaws.{bit_none}
use Rattle.pools.proofs.BoolLaws.{split, and_left, and_right, and_true, flag≤}
use Rattle.pools.proofs.ListLaws.{occurs-length, occurs-place}
use Rattle.tables.specs.declared.Caps.{Caps}
use Rattle.tables.specs.Columns.{BUS-SIZE, BUSES, CLOCK, ISSUE, ISSUED, PUBLISHED, READERS, SEAT, VALUE-BUS}
use Rattle.tables.specs.Limits.{MOST-BUSES, MOST-SEATS}
use Rattle.tables.specs.Sizes.{BIT-WORDS}
use Rattle.tables.specs.State.{State, at, head}
use Rattle.rules.specs.Buses.{in_seat}
use Rattle.rules.specs.Rule.{Rule, test, each, both, imp, is, le, eq, Holds}
use Rattle.rules.specs.Sound.{crowd_rule, issued_rule, issue_rule}
use Rattle.rules.proofs.Kept.Rules.{reads, same_test, all_same}
use Rattle.sound.specs.Kinds.{issued_rules, value_rules}
use Rattle.sound.specs.Marks.{Added, Below}
use Rattle.sound.specs.Values.{Counts, Empties, issue_in, mask_in, named_rule, value_in}
use Rattle.sound.proofs.JoinLaws.{or-test}
use Rattle.sound.proofs.ListLaws.{same_rule}
use Rattle.sound.proofs.MarkLaws.{occurs-more, zero_names}
use Rattle.sound.proofs.StandingLaws.{clear}
use Rattle.sound.proofs.WordLaws.{bit-after, bit-clear, common_none, none_common}

-- ---- the row: the words that count, and the others
pub issue-parts : (list : List ℕ) (n m : ℕ) → m ≤ n →
    test (both (each m (λ i. both (le 1 (get_or list i 0)) (le (get_or list i 0) n))) (each n (λ i. imp (le m i) (eq (get_or list i 0) 0)))) ≡ test (each n (λ i. issue_in n m list i))
issue-parts list n m b =
    same_rule (each n (λ i. issue_in n m list i)) (both (each m (λ i. both (le 1 (get_or list i 0)) (le (get_or list i 0) n))) (each n (λ i. imp (le m i) (eq (get_or list i 0) 0))))
    (λ h. (λ i l. (h i (omega arith)).0 l, λ i l. (h i l).1))
    (λ h i l. (λ k. h.0 i k, h.1 i l))

-- ---- who may read
module _ (mask readers : ℕ) (fits : readers < 2 ^ 64) where
  -- the upper half
  abbrev may : ℕ
  may = readers / 2 ^ MOST-SEATS

  -- it has no more bits than there are seats
  may-fits : may < 2 ^ MOST-SEATS
  may-fits = shr_lt MOST-SEATS MOST-SEATS fits

  -- those who may read have their bits in it
  may-bit : (n : ℕ) → bit may n ≡ bit readers (MOST-SEATS + n)
  may-bit n = bit-after readers MOST-SEATS n

  -- THE LAW: no reader who may read has read, and none has its bit in the mask, exactly where the upper half has no bit in common with the lower one and with the mask
  pub mask_test : eqb (bit_or (bit_and may readers) (bit_and may mask)) 0 ≡ test (each MOST-SEATS (λ n. mask_in mask readers n))
  mask_test =
      or-test (bit_and may readers) (bit_and may mask)
      ∙ same_rule (each MOST-SEATS (λ n. mask_in mask readers n)) (both (eq (bit_and may readers) 0) (eq (bit_and may mask) 0))
      (λ h. (
        none_common MOST-SEATS may readers may-fits (λ n l e. bit-clear readers n (h n l (eq-eqb (bit readers (MOST-SEATS + n)) 1 (sym (may-bit n) ∙ e))).0),
        none_common MOST-SEATS may mask may-fits (λ n l e. (h n l (eq-eqb (bit readers (MOST-SEATS + n)) 1 (sym (may-bit n) ∙ e))).1),
      ))
      (λ (unread, seated) n l t.
      let e : bit may n ≡ 1 = may-bit n ∙ eqb-true (bit readers (MOST-SEATS + n)) 1 t in
      (rw (common_none may readers unread n e), common_none may mask seated n e))

-- ---- a data entry's words
module _ (masks : List ℕ) (made clock : ℕ) (named : Bool) (bus readers published : ℕ) where
  -- it holds none
  pub value_none : bus ≡ 0 → not named && eqb (bit_or readers published) 0 ≡ test (value_in masks made clock named bus readers published)
  value_none z =
      ap (λ (x : Bool). not named && x) (or-test readers published)
      ∙ same_rule (value_in masks made clock named bus readers published) (both (is (not named)) (both (eq readers 0) (eq published 0)))
      (λ h. h.0 z)
      (λ h. (λ e. h, λ n. absurd (n z)))

  -- it holds one of a bus that is made
  pub value_some : (bus ≡ 0 → ⊥) → bus ≤ made → readers < 2 ^ 64 →
      named && (leb published clock && eqb (bit_or (bit_and (readers / 2 ^ MOST-SEATS) readers) (bit_and (readers / 2 ^ MOST-SEATS) (get_or masks (bus - 1) 0))) 0) ≡ test (value_in masks made clock named bus readers published)
  value_some n l f =
      let mask = get_or masks (bus - 1) 0 in
      ap (λ (x : Bool). named && (leb published clock && x)) (mask_test mask readers f)
      ∙ same_rule (value_in masks made clock named bus readers published) (both (is named) (both (le published clock) (each MOST-SEATS (λ i. mask_in mask readers i))))
      (λ h. let (here, ((_, when), who)) = h.1 n in (here, (when, who)))
      (λ (here, (when, who)). (λ z. absurd (n z), λ m. (here, ((l, when), who))))

-- ---- the masks, bus by bus

-- ---- as the rules have them
-- two tests with the same flag are the same
flag_same : (a b : Bool) → bool_byte a ≡ bool_byte b → a ≡ b
flag_same true true e = refl
flag_same true false e = absurd (omega (arith, e))
flag_same false true e = absurd (omega (arith, e))
flag_same false false e = refl

-- data entry d, by the masks of the buses that are made, where those are marked that the row has
module _ (s : State) {masks : List ℕ} {made : ℕ} (m : Empties (s SEAT) made masks) (z : made ≡ head s BUSES) (seen : List ℕ) (d : ℕ) where
  -- an empty seat has its bit
  seat_bit : (n : ℕ) → n < MOST-SEATS → 1 ≤ at s VALUE-BUS d → at s VALUE-BUS d ≤ made → bit (get_or masks (at s VALUE-BUS d - 1) 0) n ≡ bool_byte (eqb (in_seat s (at s VALUE-BUS d - 1) n) 0)
  seat_bit n l some few = m.bits (at s VALUE-BUS d - 1) (omega arith) n l

  -- what is tested of it
  abbrev tested : Rule
  tested = value_in masks made (head s CLOCK) (free seen d) (at s VALUE-BUS d) (at s READERS d) (at s PUBLISHED d)

  -- what the rules say of it says the test, and the other way round
  value_to : Holds (named_rule seen s d) → Holds tested
  value_to ((none, some), e) =
      let q : free seen d ≡ not (eqb (at s VALUE-BUS d) 0) = flag_same (free seen d) (not (eqb (at s VALUE-BUS d) 0)) e in (
        λ y. (rw (q, eq-eqb (at s VALUE-BUS d) 0 y), none y),
        λ n. let ((within, when), who) = some n in
            (q ∙ rw (ne_eqb (at s VALUE-BUS d) 0 n), ((omega arith, when), λ i l t. let (unread, seated) = who i l t in (unread, seat_bit i l (omega arith) (omega arith) ∙ rw (ne_eqb (in_seat s (at s VALUE-BUS d - 1) i) 0 seated)))),
      )

  value_from : Holds tested → Holds (named_rule seen s d)
  value_from (none, some) =
      split (eqb (at s VALUE-BUS d) 0)
      (λ t. let y = eqb-true (at s VALUE-BUS d) 0 t in let (unnamed, words) = none y in
      ((λ y. words, λ n. absurd (n y)), rw (t, not-true (free seen d) unnamed)))
      (λ t. let n = eqb-false (at s VALUE-BUS d) 0 t in let (named, ((within, when), who)) = some n in (
        (
          λ y. absurd (n y),
          λ n. (
            (omega arith, when),
            λ i l t. let (unread, empty) = who i l t in
                (unread, λ e. omega (arith, empty, seat_bit i l (omega arith) within, ap bool_byte (eq-eqb (in_seat s (at s VALUE-BUS d - 1) i) 0 e))),
          ),
        ),
        rw (t, named),
      ))

  pub value_same : test tested ≡ test (named_rule seen s d)
  value_same = same_rule (named_rule seen s d) tested value_to value_from

-- ---- counts, word by word
-- of no word yet
pub counts_none : (list : List ℕ) {counts : List ℕ} → counts ≡ replicate MOST-BUSES 0 → Counts (λ b. occurs (suc b) (take 0 list)) counts
unfolding occurs
counts_none list e = rw e (record { long = length-replicate {A = ℕ} MOST-BUSES 0; of = λ b l. get_or-replicate {A = ℕ} MOST-BUSES b 0 0 l })

-- the same counts
counts_as : {c d : ℕ → ℕ} {counts : List ℕ} → ((b : ℕ) → b < MOST-BUSES → c b ≡ d b) → Counts c counts → Counts d counts
counts_as e h = record { long = h.long; of = λ b l. h.of b l ∙ e b l }

-- one word more
pub counts_more : (list : List ℕ) (i : ℕ) {counts counts' : List ℕ} → i < length list → Counts (λ b. occurs (suc b) (take i list)) counts →
    Counts (λ b. get_or counts b 0 + bool_byte (eqb (get_or list i 0) (suc b))) counts' → Counts (λ b. occurs (suc b) (take (i + 1) list)) counts'
counts_more list i l h m = counts_as (λ b q. omega (arith, h.of b q, occurs-more list i (suc b) l)) m

-- no bus has more than there are words
pub counts_few : (list : List ℕ) (i n : ℕ) {counts : List ℕ} → length list ≤ n → Counts (λ b. occurs (suc b) (take i list)) counts → Below (suc n) MOST-BUSES counts
counts_few list i n l h b q = omega (arith, h.of b q, occurs-length (suc b) (take i list), length-take i list)

-- so they tell whether a bus has too many
pub crowds-same : (s : State) {counts : List ℕ} → Counts (λ b. occurs (suc b) (s VALUE-BUS)) counts → test (each MOST-BUSES (λ b. le (get_or counts b 0) (at s BUS-SIZE b))) ≡ test (each MOST-BUSES (λ b. crowd_rule s b))
crowds-same s h = all_same MOST-BUSES _ _ (λ b l. rw (h.of b l))

-- ---- all values, and the row
-- each value by the masks
pub values_same : (s : State) {masks : List ℕ} {made : ℕ} → Empties (s SEAT) made masks → made ≡ head s BUSES → (seen : List ℕ) (n : ℕ) →
    test (each n (λ d. value_in masks made (head s CLOCK) (free seen d) (at s VALUE-BUS d) (at s READERS d) (at s PUBLISHED d))) ≡ test (each n (λ d. named_rule seen s d))
values_same s m z seen n = all_same n _ _ (λ d l. value_same s m z seen d)

-- nothing is marked at first
clear_none : (n e : ℕ) → free (replicate n 0) e ≡ false
clear_none n e = rw (clear n (e / WORD-BITS), bit_none (e % WORD-BITS))

module _ (k : Caps) (s : State) where
  -- the words of a column are 0
  abbrev pub still : ℕ → Rule
  still c = each k.datas (λ d. imp (le 0 d) (eq (at s c d) 0))

  -- where no value stands
  pub none_told : length (s VALUE-BUS) ≡ k.datas → length (s ISSUE) ≡ k.datas → head s ISSUED ≡ 0 →
      test (both (both (still VALUE-BUS) (still READERS)) (both (still PUBLISHED) (still ISSUE))) ≡ test (both (value_rules k s) (issued_rules k s))
  none_told v r z =
      same_rule (both (value_rules k s) (issued_rules k s)) (both (both (still VALUE-BUS) (still READERS)) (both (still PUBLISHED) (still ISSUE)))
      (λ ((values, issues), (issued, _)).
      let row : (i : ℕ) → i < k.datas → at s ISSUE i ≡ 0 = λ i l. (issues i l).1 (omega arith) in
      let none : (d : ℕ) → d < k.datas → at s VALUE-BUS d ≡ 0 = λ d l. split (eqb (at s VALUE-BUS d) 0) (eqb-true (at s VALUE-BUS d) 0) (λ t. absurd (omega (arith, rw t at (issued d l), zero_names (s ISSUE) (λ i m. row i (omega (arith, r))) d))) in
      ((λ d l m. none d l, λ d l m. ((values d l).0 (none d l)).0), (λ d l m. ((values d l).0 (none d l)).1, λ i l m. row i l)))
      (λ ((buses, readers), (published, row)). (
        (λ d l. (λ y. (readers d l (omega arith), published d l (omega arith)), λ n. absurd (n (buses d l (omega arith)))), λ i l. (λ m. absurd (omega arith), λ m. row i l (omega arith))),
        (λ d l. zero_names (s ISSUE) (λ i m. row i (omega (arith, r)) (omega arith)) d ∙ rw (eq-eqb (at s VALUE-BUS d) 0 (buses d l (omega arith))), λ b l. omega (arith, zero_names (s VALUE-BUS) (λ i m. buses i (omega (arith, v)) (omega arith)) b)),
      ))

  -- where it is one
  module _ (row : Holds (each k.datas (λ i. issue_rule k s i))) (long : length (s ISSUE) ≡ k.datas) {told : Bool} {seen : List ℕ} (a : Added (λ d. occurs (suc d) (s ISSUE)) told (replicate BIT-WORDS 0) seen) where
    -- it names data entries
    row_names : (d : ℕ) → 1 ≤ occurs (suc d) (s ISSUE) → d < k.datas
    row_names d o =
        let p = occurs-place (suc d) (s ISSUE) o in
        let r = row p.0 (omega (arith, p.1)) in
        split (ltb p.0 (head s ISSUED)) (λ t. omega (arith, p.2, (r.0 (ltb-true _ _ t)).1)) (λ t. absurd (omega (arith, p.2, r.1 (ltb-false _ _ t))))

    -- where it has each value once, none is marked twice
    none_twice : Holds (each k.datas (λ d. issued_rule s d)) → told ≡ true
    none_twice issued = split told (λ t. t) (λ f.
        let w = a.twice f in
        let none = ap bool_byte (clear_none BIT-WORDS w.0) in
        absurd (omega (arith, w.1, none, issued w.0 (row_names w.0 (omega (arith, w.1, none))), flag≤ (not (eqb (at s VALUE-BUS w.0) 0)))))

    -- and then an entry is marked where the row has it
    marked-once : told ≡ true → (d : ℕ) → bool_byte (free seen d) ≡ occurs (suc d) (s ISSUE)
    marked-once t d = omega (arith, a.once t d, ap bool_byte (clear_none BIT-WORDS d))

    -- THE LAW: all rules hold exactly where none is marked twice, those are marked that hold a value, and these are sound, and no bus has too many
    pub some-told : {values crowds : Bool} → values ≡ test (each k.datas (λ d. named_rule seen s d)) → crowds ≡ test (each MOST-BUSES (λ b. crowd_rule s b)) →
        (told && values) && crowds ≡ test (both (value_rules k s) (issued_rules k s))
    some-told {values} {crowds} v c =
        sym (same_test (both (value_rules k s) (issued_rules k s)) ((told && values) && crowds)
        (λ ((sound, _), (issued, few)).
        let t = none_twice issued in
        let named = (reads (each k.datas (λ d. named_rule seen s d))).1 (λ d l. (sound d l, marked-once t d ∙ issued d l)) in
        and_true (told && values) crowds (and_true told values t (v ∙ named)) (c ∙ (reads (each MOST-BUSES (λ b. crowd_rule s b))).1 few))
        (λ t.
        let once = and_left (told && values) crowds t in
        let named = (reads (each k.datas (λ d. named_rule seen s d))).0 (sym v ∙ and_right told values once) in
        ((λ d l. (named d l).0, row), (λ d l. sym (marked-once (and_left told values once) d) ∙ (named d l).1, (reads (each MOST-BUSES (λ b. crowd_rule s b))).0 (sym c ∙ and_right (told && values) crowds t)))))
