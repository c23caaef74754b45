-- Buses: those that are made and the others; the seats of one, stamped one by one; and the seats of all, as the rules have them.
use Prim.Native.Nat.{ℕ, suc, ◌+◌, ◌-◌, ◌*◌, ◌/◌, ◌%◌, ◌≤◌, ◌<◌}
use native.Mathlib.Decide.{dec_lt}
use native.Mathlib.Omega.{arith}
use mathlib.Core.Path.{◌≡◌, refl, sym, ap, ◌∙◌}
use mathlib.Core.Bool.{Bool, true, false, not, ◌&&◌}
use mathlib.Core.List.{List}
use lib.Dec.{eqb, leb}
use lib.ListN.{length, get_or, set, take, drop}
use lib.Seq.{get_or-set_same, get_or-set_other, get_or-take, get_or-drop}
use borrow.Author.Tests.{eqb-true, eqb-false, eq-eqb, ne_eqb, le-leb}
use Rattle.pools.proofs.BoolLaws.{split, and_right}
use Rattle.tables.specs.Columns.{BUS-SEATS, BUSES, SEAT, STATE}
use Rattle.tables.specs.Limits.{MOST-BUSES, MOST-SEATS}
use Rattle.tables.specs.Sizes.{ALL-SEATS}
use Rattle.tables.specs.State.{State, at, head}
use Rattle.rules.specs.Buses.{in_seat}
use Rattle.rules.specs.Rule.{Rule, test, each, both, imp, le, eq, differ, Holds}
use Rattle.rules.specs.Sound.{bus_rule, row_rule}
use Rattle.rules.specs.Terms.{alive}
use Rattle.rules.proofs.Kept.Rules.{reads, all_none, all_more}
use Rattle.sound.specs.Buses.{settings_in, bus_in, sitter_in, row_in, rows_in, Before}
use Rattle.sound.specs.Marks.{Below}
use Rattle.sound.specs.Standing.{Spans, Standing, lives_in}
use Rattle.sound.proofs.ListLaws.{same_rule}
use Rattle.sound.proofs.StandingLaws.{lives_in_lem}

-- ---- those that are made, and the others
module _ (sizes seats reads ages : List ℕ) (n : ℕ) (few : n ≤ MOST-BUSES) where
  -- the words of a column past the n-th are 0
  abbrev pub unmade : List ℕ → Rule
  unmade col = each MOST-BUSES (λ b. imp (le n b) (eq (get_or col b 0) 0))

  -- the settings of the first n, and then the four columns
  pub bus-parts : test (both (each n (λ b. settings_in (get_or sizes b 0) (get_or seats b 0) (get_or reads b 0) (get_or ages b 0))) (both (both (unmade sizes) (unmade seats)) (both (unmade reads) (unmade ages)))) ≡ test (each MOST-BUSES (λ b. bus_in sizes seats reads ages n b))
  bus-parts =
      same_rule (each MOST-BUSES (λ b. bus_in sizes seats reads ages n b))
      (both (each n (λ b. settings_in (get_or sizes b 0) (get_or seats b 0) (get_or reads b 0) (get_or ages b 0))) (both (both (unmade sizes) (unmade seats)) (both (unmade reads) (unmade ages))))
      (λ h. (λ b l. (h b (omega arith)).0 l, ((λ b l m. ((h b l).1 m).0.0, λ b l m. ((h b l).1 m).0.1), (λ b l m. ((h b l).1 m).1.0, λ b l m. ((h b l).1 m).1.1))))
      (λ (made, ((few, none), (unread, ageless))) b l. (λ m. made b m, λ m. ((few b l m, none b l m), (unread b l m, ageless b l m))))

-- ---- the seats of one bus, stamped one by one
-- of the places those have the stamp that one of the first n words names, and none has a later one
pub record Stamped (list : List ℕ) (n stamp : ℕ) (stamps : List ℕ) : Type 0 where
  pub before : Before (suc stamp) stamps
  pub new : (a : ℕ) → not (eqb (get_or stamps a 0) stamp) ≡ test (each n (λ m. differ (get_or list m 0) a))

-- none is past the next stamp either
pub before-next : (stamp : ℕ) (stamps : List ℕ) → Before stamp stamps → Before (suc stamp) stamps
before-next stamp stamps h i = omega (arith, h i)

and_no : (x : Bool) → false ≡ x && false
and_no true = refl
and_no false = refl

and_yes : (x : Bool) → x ≡ x && true
and_yes true = refl
and_yes false = refl

module _ (list : List ℕ) {stamp : ℕ} {stamps : List ℕ} where
  pub stamped_none : Before stamp stamps → Stamped list 0 stamp stamps
  stamped_none h = record {
    before = before-next stamp stamps h;
    new = λ a. ap not (ne_eqb (get_or stamps a 0) stamp (λ e. omega (arith, h a))) ∙ sym (all_none (λ m. test (differ (get_or list m 0) a)));
  }

  -- and one more
  pub stamped_more : (n : ℕ) → get_or list n 0 < length stamps → Stamped list n stamp stamps → Stamped list (n + 1) stamp (set stamps (get_or list n 0) stamp)
  stamped_more n l h = record {
    before = λ a. split (eqb word a)
        (λ t. let e : word ≡ a = eqb-true word a t in rw (← e, get_or-set_same stamps word stamp 0 l) (omega arith))
        (λ t. let m : (word ≡ a → ⊥) = eqb-false word a t in rw (get_or-set_other stamps word a stamp 0 (λ e. m (sym e))) (h.before a));
    new = λ a. step a ∙ ap (λ (x : Bool). x && not (eqb word a)) (h.new a) ∙ sym (all_more (λ m. test (differ (get_or list m 0) a)) n);
  }
    where
      word : ℕ
      word = get_or list n 0

      -- a place is then without the stamp where it was and is not the word's
      step : (a : ℕ) → not (eqb (get_or (set stamps word stamp) a 0) stamp) ≡ not (eqb (get_or stamps a 0) stamp) && not (eqb word a)
      step a = split (eqb word a)
          (λ t. let e : word ≡ a = eqb-true word a t in rw (← e, get_or-set_same stamps word stamp 0 l, eq-eqb stamp stamp refl, eq-eqb word word refl) (and_no (not (eqb (get_or stamps word 0) stamp))))
          (λ t. let m : (word ≡ a → ⊥) = eqb-false word a t in rw (get_or-set_other stamps word a stamp 0 (λ e. m (sym e)), t) (and_yes (not (eqb (get_or stamps a 0) stamp))))

-- ---- the seats of one bus
module _ (row : List ℕ) (limit : ℕ) (list : List ℕ) where
  -- where nobody sits
  pub row_empty : true ≡ test (each MOST-SEATS (λ n. imp (le 0 n) (eq (get_or list n 0) 0))) → true ≡ test (row_in row limit list)
  row_empty t =
      let z = (reads (each MOST-SEATS (λ n. imp (le 0 n) (eq (get_or list n 0) 0)))).0 (sym t) in
      sym ((reads (row_in row limit list)).1 (λ n l some. absurd (some (z n l (omega arith))), λ n l some. absurd (some (z n l (omega arith)))))

  -- each word has its place
  pub row_below : {n : ℕ} → Spans n row → Holds (each MOST-SEATS (λ n. sitter_in row limit (get_or list n 0) n)) → Below n MOST-SEATS list
  row_below w h n l =
      elim (dec_lt 0 (get_or list n 0)) [ yes m ↦ (w.live (get_or list n 0) (h n l (λ z. omega arith)).1).1 | no m ↦ omega (arith, w.none) ]

-- ---- as the rules have them
module _ (s : State) {row : List ℕ} (h : Standing (s STATE) row) (b : ℕ) where
  -- the words of its seats
  abbrev pub seats_of : List ℕ
  seats_of = take MOST-SEATS (drop (MOST-SEATS * b) (s SEAT))

  -- each of them
  seat_at_lem : (n : ℕ) → n < MOST-SEATS → get_or seats_of n 0 ≡ in_seat s b n
  seat_at_lem n l = get_or-take MOST-SEATS (drop (MOST-SEATS * b) (s SEAT)) n 0 l ∙ get_or-drop (MOST-SEATS * b) (s SEAT) n 0

  -- what the rules say of them says the test, and the other way round
  row_to : Holds (row_rule s b) → Holds (row_in row (at s BUS-SEATS b) seats_of)
  row_to q = (
    λ n l some.
        let word = in_seat s b n in
        let n0 : word ≡ 0 → ⊥ = λ z. some (seat_at_lem n l ∙ z) in
        let (within, (lives, _)) = q n l n0 in
        (within, ap (lives_in row) (seat_at_lem n l) ∙ lives_in_lem h word ∙ rw (le-leb 1 word (omega arith)) lives),
    λ n l some m k e. (q n l (λ z. some (seat_at_lem n l ∙ z))).1.1 m k (sym (seat_at_lem m (omega arith)) ∙ e ∙ seat_at_lem n l),
  )

  row_from : Holds (row_in row (at s BUS-SEATS b) seats_of) → Holds (row_rule s b)
  row_from (sitters, new) n l some =
      let word = in_seat s b n in
      let n0 : get_or seats_of n 0 ≡ 0 → ⊥ = λ z. some (sym (seat_at_lem n l) ∙ z) in
      let (within, lives) = sitters n l n0 in
      (within, (and_right (leb 1 word) (alive (s STATE) (word - 1)) (sym (lives_in_lem h word) ∙ ap (lives_in row) (sym (seat_at_lem n l)) ∙ lives), λ m k e. new n l n0 m k (seat_at_lem m (omega arith) ∙ e ∙ sym (seat_at_lem n l))))

-- the first n buses, and on the others nobody
module _ (s : State) {row : List ℕ} (h : Standing (s STATE) row) (n : ℕ) (z : n ≡ head s BUSES) (few : n ≤ MOST-BUSES) (made : Holds (each MOST-BUSES (λ b. bus_rule s b))) where
  -- what is tested of them
  abbrev pub seated : Rule
  seated = both (rows_in row (s SEAT) (s BUS-SEATS) n) (each ALL-SEATS (λ i. imp (le (MOST-SEATS * n) i) (eq (at s SEAT i) 0)))

  -- a bus that is not made has no seats
  no_seats : (b : ℕ) → n ≤ b → b < MOST-BUSES → at s BUS-SEATS b ≡ 0
  no_seats b l m = ((made b m).1 (omega arith)).0.1

  -- so nobody sits there
  rest_empty : Holds (each MOST-BUSES (λ b. row_rule s b)) → (i : ℕ) → i < ALL-SEATS → MOST-SEATS * n ≤ i → at s SEAT i ≡ 0
  rest_empty q i l m =
      let b = i / MOST-SEATS in
      let e : MOST-SEATS * b + i % MOST-SEATS ≡ i = omega arith in
      elim (dec_lt 0 (at s SEAT i)) [
        | yes p ↦ let r = q b (omega arith) (i % MOST-SEATS) (omega arith) (λ y. let y' : at s SEAT i ≡ 0 = rw e at y in omega arith) in
            absurd (omega (arith, r.0, no_seats b (omega arith) (omega arith)))
        | no p ↦ omega arith
      ]

  -- THE LAW: that is the rule of all
  pub rows-parts : test seated ≡ test (each MOST-BUSES (λ b. row_rule s b))
  rows-parts =
      same_rule (each MOST-BUSES (λ b. row_rule s b)) seated
      (λ q. (λ b l. row_to s h b (q b (omega arith)), rest_empty q))
      (λ (first, rest) b l. elim (dec_lt b n) [
        | yes m ↦ row_from s h b (first b m)
        | no m ↦ λ i k some. absurd (some (rest (MOST-SEATS * b + i) (omega arith) (omega arith)))
      ])
