-- Links, monitors and timers: turn by turn, by the row of how slots stand, and as the rules have them.
use Prim.Native.Nat.{ℕ, suc, ◌+◌, ◌-◌, ◌≤◌, ◌<◌}
use native.Mathlib.Omega.{arith}
use mathlib.Core.Path.{◌≡◌, refl, sym, ap, ◌∙◌}
use mathlib.Core.Bool.{Bool, true, false, ◌&&◌}
use mathlib.Core.List.{List}
use lib.ListN.{length, get_or}
use lib.Bits.{bit_or}
use lib.Dec.{eqb, leb}
use borrow.Author.Tests.{eqb-true, eqb-false, ne_eqb, le-leb}
use Rattle.pools.proofs.BoolLaws.{split, true_false, and_left, and_right}
use Rattle.rules.specs.Rule.{test, each, both, imp, is, le, eq}
use Rattle.rules.specs.Sound.{interval_rule, link_rule, pair_rule, monitor_rule, timer_rule}
use Rattle.rules.specs.Terms.{alive}
use Rattle.rules.proofs.Kept.Rules.{reads, all_none, all_more, all_same, and_same}
use Rattle.sound.specs.Pairs.{Marked, Square}
use Rattle.sound.specs.Standing.{Clear, Spans, Standing, lives_in}
use Rattle.sound.specs.Ties.{ends_in, link_in, links_in, pair_in, monitor_in, timer_in, LinkSeen}
use Rattle.sound.proofs.ListLaws.{same_rule}
use Rattle.sound.proofs.PairLaws.{marked-first, marked_none, rule_none, marked_more, rule_more}
use Rattle.sound.proofs.JoinLaws.{or-test, pick_no}
use Rattle.sound.proofs.StandingLaws.{lives_in_lem}
use Rattle.tables.specs.Columns.{DUE, INTERVAL, LINK-ONE, LINK-TWO, MONITOR-AGE, STATE, TIMER-AGE, TIMER-OWNER, WATCHED, WATCHER}
use Rattle.tables.specs.Limits.{DUE-END, OLDEST}
use Rattle.tables.specs.State.{State, at}

-- ---- a link
module _ (row : List ℕ) (one two : ℕ) where
  -- one that is
  link_used : (one ≡ 0 → ⊥) → test (ends_in row one two) ≡ test (link_in row one two)
  link_used n = pick_no (eqb two 0) (ne_eqb one 0 n) refl

and_true' : (x : Bool) → x ≡ x && true
and_true' true = refl
and_true' false = refl

module _ {side : ℕ} {row : List ℕ} (w : Spans (suc side) row) where
  -- its ends are in the square
  pub ends_inside : (one two : ℕ) → test (ends_in row one two) ≡ true → ((1 ≤ one) × (one ≤ side)) × ((1 ≤ two) × (two ≤ side))
  ends_inside one two t =
      let (one_lives, (two_lives, _)) = (reads (ends_in row one two)).0 t in
      let (up, below) = w.live one one_lives in
      let (above, under) = w.live two two_lives in
      ((up, omega (arith, below)), (above, omega (arith, under)))

  -- what is told of link i where the square has the pairs before it, and the square then
  link_more : (ones twos : List ℕ) (i : ℕ) {seen seen' : List ℕ} {r : Bool} → Marked side ones twos i seen →
      LinkSeen side row (get_or ones i 0) (get_or twos i 0) seen r seen' →
      (r ≡ test (link_in row (get_or ones i 0) (get_or twos i 0)) && test (pair_in ones twos i)) × (r ≡ true → Marked side ones twos (i + 1) seen')
  link_more ones twos i {seen} {seen'} {r} m q =
      let one = get_or ones i 0 in let two = get_or twos i 0 in
      split (eqb one 0)
      (λ t. let z : one ≡ 0 = eqb-true one 0 t in let s = q.none z in
      (s.0 ∙ rw (rule_none ones twos i z) (and_true' (test (link_in row one two))), λ k. rw s.1 (marked_none ones twos i m z)))
      (λ t. let n : (one ≡ 0 → ⊥) = eqb-false one 0 t in
      split (test (ends_in row one two))
      (λ g. let s = q.good n g in let b = ends_inside one two g in
      (rw (← link_used row one two n, g) (s.new ∙ rule_more ones twos i m b.0 b.1), λ k. rw s.marks (marked_more ones twos i m b.0 b.1)))
      (λ g. (rw (← link_used row one two n, g) (q.bad n g), λ k. true_false r k (q.bad n g))))

-- ---- the links, turn by turn
-- i links are tested, with their pairs; while all are good the square has these
pub record Turned (side : ℕ) (row ones twos : List ℕ) (i : ℕ) (ok : Bool) (seen : List ℕ) : Type 0 where
  pub rule : ok ≡ test (links_in row ones twos i)
  pub marks : ok ≡ true → Marked side ones twos i seen

pub turned_none : {side : ℕ} {seen : List ℕ} (row ones twos : List ℕ) → Square side (length seen) → Clear seen → Turned side row ones twos 0 true seen
turned_none row ones twos q z = record { rule = sym (and_same (all_none _) (all_none _)); marks = λ k. marked-first ones twos q z }

four : (a b c d : Bool) → (a && b) && (c && d) ≡ (a && c) && (b && d)
four true true c d = refl
four true false true d = refl
four true false false d = refl
four false b c d = refl

pub turned_more : {side : ℕ} {row ones twos : List ℕ} (i : ℕ) {ok r : Bool} {seen seen' : List ℕ} → Spans (suc side) row → Turned side row ones twos i ok seen →
    LinkSeen side row (get_or ones i 0) (get_or twos i 0) seen r seen' → Turned side row ones twos (i + 1) (ok && r) seen'
turned_more {side} {row} {ones} {twos} i {ok} {r} {seen} {seen'} w h q = record {
  rule = told ∙ ap (λ (x : Bool). x && (l && p)) h.rule ∙ four links pairs l p ∙ sym (and_same (all_more (λ e. test (link_in row (get_or ones e 0) (get_or twos e 0))) i) (all_more (λ e. test (pair_in ones twos e)) i));
  marks = λ k. (link_more w ones twos i (h.marks (and_left ok r k)) q).1 (and_right ok r k);
}
  where
    l : Bool
    l = test (link_in row (get_or ones i 0) (get_or twos i 0))

    p : Bool
    p = test (pair_in ones twos i)

    links : Bool
    links = test (each i (λ e. link_in row (get_or ones e 0) (get_or twos e 0)))

    pairs : Bool
    pairs = test (each i (λ e. pair_in ones twos e))

    told : ok && r ≡ ok && (l && p)
    told = split ok (λ t. rw t (link_more w ones twos i (h.marks t) q).0) (λ t. rw t)

-- ---- a timer
module _ (row : List ℕ) (owner age due interval : ℕ) where
  pub timer_none : owner ≡ 0 → eqb (bit_or due interval) 0 && leb age OLDEST ≡ test (timer_in row owner age due interval)
  timer_none z =
      ap (λ (x : Bool). x && leb age OLDEST) (or-test due interval)
      ∙ same_rule (timer_in row owner age due interval) (both (both (eq due 0) (eq interval 0)) (le age OLDEST))
      (λ ((age, _), (unused, _)). (unused z, age))
      (λ h. ((h.1, λ n. absurd (n z)), (λ q. h.0, λ n. absurd (n z))))

  pub timer_used : (owner ≡ 0 → ⊥) →
      test (both (both (is (lives_in row owner)) (both (le 1 age) (le age OLDEST))) (both (le due DUE-END) (interval_rule interval))) ≡ test (timer_in row owner age due interval)
  timer_used n =
      same_rule (timer_in row owner age due interval) (both (both (is (lives_in row owner)) (both (le 1 age) (le age OLDEST))) (both (le due DUE-END) (interval_rule interval)))
      (λ ((age, born), (_, used)). (((used n).0, (born n, age)), (used n).1))
      (λ ((lives, (born, age)), times). ((age, λ q. born), (λ z. absurd (n z), λ q. (lives, times))))

-- ---- as the rules have them
-- where no link is in use the words of the other ends decide
pub links-unused : (row ones twos : List ℕ) (n : ℕ) → test (each n (λ i. imp (le 0 i) (eq (get_or ones i 0) 0))) ≡ true →
    test (each n (λ i. imp (le 0 i) (eq (get_or twos i 0) 0))) ≡ test (links_in row ones twos n)
links-unused row ones twos n t =
    same_rule (links_in row ones twos n) (each n (λ i. imp (le 0 i) (eq (get_or twos i 0) 0)))
    (λ (links, _) i l z. (links i l).0 (unused i l))
    (λ h. (λ e l. (λ z. h e l (omega arith), λ m. absurd (m (unused e l))), λ e l m. absurd (m (unused e l))))
  where
    unused : (e : ℕ) → e < n → get_or ones e 0 ≡ 0
    unused e l = (reads (each n (λ i. imp (le 0 i) (eq (get_or ones i 0) 0)))).0 t e l (omega arith)

module _ (s : State) {row : List ℕ} (h : Standing (s STATE) row) (n : ℕ) where
  pub links-same : test (links_in row (s LINK-ONE) (s LINK-TWO) n) ≡ test (both (each n (λ e. link_rule s e)) (each n (λ e. pair_rule s e)))
  unfolding pair_rule
  links-same = and_same (all_same n _ _ (λ e l. rw (lives_in_lem h (at s LINK-ONE e), lives_in_lem h (at s LINK-TWO e)))) refl

  pub monitors-same : test (each n (λ e. monitor_in row (at s WATCHER e) (at s WATCHED e) (at s MONITOR-AGE e))) ≡ test (each n (λ e. monitor_rule s e))
  monitors-same = all_same n _ _ (λ e l. rw (lives_in_lem h (at s WATCHER e), lives_in_lem h (at s WATCHED e)))

  pub timers-same : test (each n (λ e. timer_in row (at s TIMER-OWNER e) (at s TIMER-AGE e) (at s DUE e) (at s INTERVAL e))) ≡ test (each n (λ e. timer_rule s e))
  timers-same = all_same n _ _ (λ e l.
      same_rule (timer_rule s e) (timer_in row (at s TIMER-OWNER e) (at s TIMER-AGE e) (at s DUE e) (at s INTERVAL e))
      (λ (age, (unused, used)). (age, (unused, λ m. (lives_in_lem h (at s TIMER-OWNER e) ∙ rw (le-leb 1 (at s TIMER-OWNER e) (omega arith)) (used m).0, (used m).1))))
      (λ (age, (unused, used)). (age, (unused, λ m. (and_right (leb 1 (at s TIMER-OWNER e)) (alive (s STATE) (at s TIMER-OWNER e - 1)) (sym (lives_in_lem h (at s TIMER-OWNER e)) ∙ (used m).0), (used m).1)))))
