-- The row of the links of one slot: what one more link adds to it, and that it stays right while they end.
use Prim.Native.Nat.{ℕ, zero, suc, ◌+◌, ◌≤◌, ◌<◌}
use mathlib.Core.Path.{◌≡◌, refl, sym, ap, ◌∙◌}
use mathlib.Core.Bool.{Bool, true, false, cond, ◌&&◌, ◌||◌}
use mathlib.Core.List.{List}
use native.Mathlib.Numerals.{add-one}
use native.Mathlib.Omega.{arith}
use lib.ListN.{length, get_or, set, replicate, length-set, get_or-replicate}
use lib.Seq.{get_or-set_same, get_or-set_other}
use lib.Dec.{eqb, ltb}
use borrow.Author.Count.{below_more}
use Rattle.std.specs.Prelude.{Option, None, Some}
use Rattle.std.specs.Option.{option_or}
use borrow.Author.Tests.{eqb-true, eqb-false, eq-eqb, ne_eqb, ltb-true, ltb-false, lt-ltb, le-ltb}
use Rattle.pools.specs.Pool.{lowest}
use Rattle.pools.proofs.BoolLaws.{split}
use Rattle.pools.proofs.PoolLaws.{lowest-at, lowest-first, lowest-found, lowest_none, lowest-same}
use Rattle.tables.specs.declared.Caps.{Caps}
use Rattle.tables.specs.Columns.{LINK-ONE, LINK-TWO}
use Rattle.tables.specs.Limits.{MOST-ACTORS}
use Rattle.tables.specs.State.{State}
use Rattle.rules.specs.Terms.{joins}
use Rattle.rules.specs.Calls.{Told, cut_link, cut_links, link_of, told}
use Rattle.rules.proofs.Kept.Exit.{cut_none, cut_link_no, cut_link_yes, cut_links_cuts}
use Rattle.rules.specs.Good.{Going}
use Rattle.endings.specs.Partners.{Partners, Placed, cut_entry, other_end, slot_of, up}

-- ---- one place
module _ (row : List (Option ℕ)) (b e : ℕ) where
  -- the slot has no place
  pub placed_out : MOST-ACTORS ≤ b → Placed row b e row
  placed_out h = record { long = refl; entry = λ c l. rw (ne_eqb b c (λ q. omega arith)) }

  -- it has
  pub placed_set : b < length row → Placed row b e (set row b (option_or (get_or row b None) (Some e)))
  placed_set l = record {
    long = length-set row b (option_or (get_or row b None) (Some e));
    entry = λ c m. split (eqb b c)
        (λ r. let v : b ≡ c = eqb-true b c r in rw (r, ← v) (get_or-set_same row b (option_or (get_or row b None) (Some e)) None l))
        (λ r. rw r (get_or-set_other row b c (option_or (get_or row b None) (Some e)) None (λ v. eqb-false b c r (sym v))));
  }

-- ---- one link more
-- a number one up is not 0
above_zero : (n : ℕ) → eqb 0 (suc n) ≡ false
above_zero n = ne_eqb 0 (suc n) (λ z. omega arith)

up-some : (n : ℕ) → eqb (suc n) 0 ≡ false
up-some n = ne_eqb (suc n) 0 (λ z. omega arith)

-- x is joined with the slot at the other end
ends : (o w x b : ℕ) → ((eqb o x && eqb w (suc b)) || (eqb o (suc b) && eqb w x)) ≡ eqb (other_end o w x) (suc b)
ends o w x b =
    split (eqb o x)
    (λ q. split (eqb w (suc b))
    (λ r. rw (q, r))
    (λ r. split (eqb o (suc b))
    (λ u. let n : eqb w x ≡ false = ne_eqb w x (λ v. eqb-false w (suc b) r (v ∙ sym (eqb-true o x q) ∙ eqb-true o (suc b) u)) in rw (q, r, u, n))
    (λ u. rw (q, r, u))))
    (λ q. split (eqb w x)
    (λ r. split (eqb o (suc b)) (λ u. rw (q, r, u)) (λ u. rw (q, r, u)))
    (λ r. let z = above_zero b in split (eqb o (suc b)) (λ u. rw (q, r, u, z)) (λ u. rw (q, r, u, z))))

joins-end : (one two : List ℕ) (x b e : ℕ) → joins one two x (suc b) e ≡ eqb (other_end (get_or one e 0) (get_or two e 0) x) (suc b)
unfolding joins
joins-end one two x b e = ends (get_or one e 0) (get_or two e 0) x b

-- the lowest of n + 1 numbers is that of n, where there is one
up_step : (f : ℕ → Bool) (n : ℕ) → up (n + 1) (lowest f (n + 1)) ≡ cond (f n && eqb (up n (lowest f n)) 0) (n + 1) (up n (lowest f n))
up_step f n =
    split (ltb (lowest f n) n)
    (λ q. let l = ltb-true (lowest f n) n q in
    let e : lowest f (n + 1) ≡ lowest f n = lowest-found f (lowest f n) (n + 1) (omega arith) (lowest-at f n l) (lowest-first f n) in
    let m : ltb (lowest f n) (n + 1) ≡ true = lt-ltb (lowest f n) (n + 1) (omega arith) in
    let z = up-some (lowest f n) in
    split (f n) (λ r. rw (e, m, q, r, z)) (λ r. rw (e, m, q, r)))
    (λ q. let h : (j : ℕ) → j < n → f j ≡ false = λ j l. lowest-first f n j (omega (arith, ltb-false (lowest f n) n q)) in
    split (f n)
    (λ r. let e : lowest f (n + 1) ≡ n = lowest-found f n (n + 1) (omega arith) r h in
    let m : ltb n (n + 1) ≡ true = lt-ltb n (n + 1) (omega arith) in
    rw (e, m, q, r) (sym (add-one n)))
    (λ r. let e : lowest f (n + 1) ≡ n + 1 = lowest_none f (n + 1) (below_more (λ j. f j ≡ false) n h r) in
    let m : ltb (n + 1) (n + 1) ≡ false = le-ltb (n + 1) (n + 1) (omega arith) in
    rw (e, m, q, r)))

-- no link yet
pub partners_none : (one two : List ℕ) (x : ℕ) → Partners one two x 0 (replicate MOST-ACTORS None)
unfolding lowest
partners_none one two x = record { entry = λ b l. get_or-replicate {A = Option ℕ} MOST-ACTORS b None None l }

-- the same, as a place has them
noted_step : (f : ℕ → Bool) (n : ℕ) → slot_of (up (n + 1) (lowest f (n + 1))) ≡ cond (f n) (option_or (slot_of (up n (lowest f n))) (Some n)) (slot_of (up n (lowest f n)))
noted_step f n = ap slot_of (up_step f n) ∙ place (f n) (up n (lowest f n)) where
  place : (c : Bool) (u : ℕ) → slot_of (cond (c && eqb u 0) (n + 1) u) ≡ cond c (option_or (slot_of u) (Some n)) (slot_of u)
  place false u = refl
  place true zero = rw (add-one n)
  place true (suc u) = rw (up-some u)

-- slot b is the one at the other end
is_at : Option ℕ → ℕ → Bool
is_at None b = false
is_at (Some c) b = eqb c b

at-end : (m b : ℕ) → eqb m (suc b) ≡ is_at (slot_of m) b
unfolding is_at
at-end zero b = above_zero b
at-end (suc a) b = split (eqb a b)
    (λ q. rw q (eq-eqb (suc a) (suc b) (ap suc (eqb-true a b q))))
    (λ q. rw q (ne_eqb (suc a) (suc b) (λ v. eqb-false a b q (omega arith))))

-- one more, which joins it with no slot
module _ (one two : List ℕ) (x n : ℕ) (row : List (Option ℕ)) (h : Partners one two x n row) where
  pub partners-same : slot_of (other_end (get_or one n 0) (get_or two n 0) x) ≡ None → Partners one two x (n + 1) row
  unfolding is_at
  partners-same e = record {
    entry = λ b l.
        let q : joins one two x (suc b) n ≡ false = joins-end one two x b n ∙ at-end (other_end (get_or one n 0) (get_or two n 0) x) b ∙ ap (λ (o : Option ℕ). is_at o b) e in
        h.entry b l ∙ sym (rw q at (noted_step (joins one two x (suc b)) n));
  }

  -- or with slot c
  pub partners-more : (c : ℕ) (row' : List (Option ℕ)) → slot_of (other_end (get_or one n 0) (get_or two n 0) x) ≡ Some c → Placed row c n row' → Partners one two x (n + 1) row'
  unfolding is_at
  partners-more c row' e p = record {
    entry = λ b l.
        let q : joins one two x (suc b) n ≡ eqb c b = joins-end one two x b n ∙ at-end (other_end (get_or one n 0) (get_or two n 0) x) b ∙ ap (λ (o : Option ℕ). is_at o b) e in
        p.entry b l ∙ rw (← q, h.entry b l) (sym (noted_step (joins one two x (suc b)) n));
  }

-- ---- the links end
-- the link with a slot is the one of before the links with the slots below it ended
link_still : (k : Caps) (a me reason b : ℕ) (s : State) → Going k a me s → link_of k (cut_links k a me reason b (told 0 0 s)).state (suc a) (suc b) ≡ link_of k s (suc a) (suc b)
link_still k a me reason b s w =
    let u = (cut_links k a me reason b (told 0 0 s)).state in
    lowest-same (joins (s LINK-ONE) (s LINK-TWO) (suc a) (suc b)) (joins (u LINK-ONE) (u LINK-TWO) (suc a) (suc b)) k.links
    (λ e l. (cut_links_cuts k s (told 0 0 s) a me reason b (cut_none k s a me w)).joined b e l ∙ rw (le-ltb b b (omega arith)))

-- the link that is noted ends, and no other
cut-noted : (k : Caps) (a me reason b : ℕ) (t : Told) → cut_link k a me reason b t ≡ cut_entry k me reason b (slot_of (up k.links (link_of k t.state (suc a) (suc b)))) t
unfolding cut_entry
cut-noted k a me reason b t =
    split (ltb (link_of k t.state (suc a) (suc b)) k.links)
    (λ q. rw q (cut_link_yes k a me reason b t q))
    (λ q. rw q (cut_link_no k a me reason b t q))

-- by the row of before the first ended
pub cut-row : (k : Caps) (a me reason b : ℕ) (s : State) (row : List (Option ℕ)) → Going k a me s → Partners (s LINK-ONE) (s LINK-TWO) (suc a) k.links row → b < MOST-ACTORS
    → cut_link k a me reason b (cut_links k a me reason b (told 0 0 s)) ≡ cut_entry k me reason b (get_or row b None) (cut_links k a me reason b (told 0 0 s))
cut-row k a me reason b s row w h l =
    let t = cut_links k a me reason b (told 0 0 s) in
    cut-noted k a me reason b t ∙ ap (λ (e : Option ℕ). cut_entry k me reason b e t) (ap (λ (i : ℕ). slot_of (up k.links i)) (link_still k a me reason b s w) ∙ sym (h.entry b l))
