-- One pass over the arrivals empties a mailbox as the rule does, which drops its first message again and again.
use Prim.Native.Nat.{ℕ, zero, suc, ◌+◌, ◌-◌, ◌≤◌, ◌<◌}
use mathlib.Core.Path.{◌≡◌, refl, sym, ap, ◌∙◌, fun_ext}
use mathlib.Core.Bool.{true, false, cond}
use mathlib.Core.List.{List, [], ◌∷◌, ◌++◌, append_assoc}
use native.Mathlib.Nat.{sub-zero}
use native.Mathlib.Numerals.{add-one}
use native.Mathlib.Omega.{arith}
use lib.ListN.{length, get_or, set, take, drop, replicate, length-append, length-set, length-replicate, take-append-drop, get_or-append}
use lib.Seq.{append_snoc, drop-append-add, drop_at, drop-set-lt, get_or_at, get_or-set_other, get_or-set_same, get_or-take, length-slice, length-take-le, set-get_or, set-set, sets, sets-eq, slice, slice-cons, slice_empty, take_at, take-set-lt, take-suc-set}
use lib.Dec.{eqb}
use borrow.Author.Count.{below_more}
use borrow.Author.Tests.{eqb-true, ne_eqb, lt-ltb, le-ltb}
use Rattle.pools.proofs.BoolLaws.{split}
use Rattle.pools.proofs.PoolLaws.{lowest-found, lowest_none}
use Rattle.tables.specs.Columns.{ARRIVAL, ARRIVED, MAIL-DATA, MAIL-OWNER}
use Rattle.tables.specs.State.{State, at, head, with_col, poke}
use Rattle.tables.specs.Action.{closed, pull, free_bit, write}
use Rattle.tables.proofs.ActionLaws.{with_twice}
use Rattle.tables.proofs.LoopLaws.{zero_turn}
use Rattle.rules.specs.Actions.{delist, unfill}
use Rattle.rules.specs.Calls.{data_of, drop_all, drop_first, first_of}
use Rattle.actions.specs.Emptying.{mine, disown, discard, sift, closed_over, pull_over}

-- ---- a list that closes up over some of its words
-- over one more
closed-join : (xs : List ℕ) (y : ℕ) (ys zs : List ℕ) (w m : ℕ) → length xs ≡ w → w + suc (length ys) ≡ m → closed m w (xs ++ ((y ∷ ys) ++ zs)) ≡ xs ++ (ys ++ (0 ∷ zs))
closed-join xs y ys zs w m e f =
    let g : length (xs ++ (y ∷ ys)) ≡ m = length-append xs (y ∷ ys) ∙ omega arith in
    let h : suc w ≡ length xs + 1 = omega arith in
    rw (← append_assoc xs (y ∷ ys) zs, take_at (xs ++ (y ∷ ys)) zs m g, drop_at (xs ++ (y ∷ ys)) zs m g, take_at xs (y ∷ ys) w e, h, drop-append-add xs (y ∷ ys) 1) (append_assoc xs ys (0 ∷ zs))

module _ (n : ℕ) (l : List ℕ) where
  -- over none
  over_none : closed_over n 0 0 l ≡ l
  over_none = take-append-drop n l

  -- over the w-th and all after it
  over_rest : (w : ℕ) → w ≤ n → n ≤ length l → closed_over n w n l ≡ sets l w (replicate (n - w) 0)
  over_rest w h g =
      let e : length (replicate {A = ℕ} (n - w) 0) ≡ n - w = length-replicate (n - w) 0 in
      let f : w + (n - w) ≡ n = omega arith in
      rw slice_empty (sym (sets-eq (replicate (n - w) 0) l w (omega arith) ∙ rw (e, f) (append_assoc (take w l) (replicate (n - w) 0) (drop n l))))

  module _ (w i : ℕ) (h : w ≤ i) (g : i < n) (f : n ≤ length l) where
    -- the i-th stays, as the w-th
    over_keep : closed_over n (w + 1) (i + 1) (set l w (get_or l i 0)) ≡ closed_over n w i l
    over_keep =
        let x = get_or l i 0 in
        let e : suc i - suc w ≡ i - w = omega arith in
        rw (add-one w, add-one i, take-suc-set l w x (omega arith), take-set-lt n l w x (omega arith), drop-set-lt (suc i) (take n l) w x (omega arith), drop-set-lt n l w x (omega arith), slice-cons i n l 0 g f, e)
        (append_snoc (take w l) x (slice (suc i) n l ++ (replicate (i - w) 0 ++ drop n l)))

    -- the i-th leaves
    over_drop : closed_over n w (i + 1) l ≡ closed (n - (i - w)) w (closed_over n w i l)
    over_drop =
        let e : suc i - w ≡ suc (i - w) = omega arith in
        rw (add-one i, e, slice-cons i n l 0 g f)
        (sym (closed-join (take w l) (get_or l i 0) (slice (suc i) n l) (replicate (i - w) 0 ++ drop n l) w (n - (i - w)) (length-take-le w l (omega arith)) (omega (arith, length-slice (suc i) n l f))))

    -- the i-th is the w-th
    over_at : get_or (closed_over n w i l) w 0 ≡ get_or l i 0
    over_at = rw (slice-cons i n l 0 g f) (get_or_at (take w l) (get_or l i 0) (slice (suc i) n l ++ (replicate (i - w) 0 ++ drop n l)) 0 w (length-take-le w l (omega arith)))

  -- those before the w-th stay
  over_before : (w i x : ℕ) → x < w → w ≤ length l → get_or (closed_over n w i l) x 0 ≡ get_or l x 0
  over_before w i x h g = get_or-append (take w l) (slice i n l ++ (replicate (i - w) 0 ++ drop n l)) 0 x (omega (arith, length-take-le w l g)) ∙ get_or-take w l x 0 h

-- ---- arrivals that leave together
-- states that agree at two columns, and at all others
same-but : (s t : State) (c d : ℕ) → s c ≡ t c → s d ≡ t d → ((x : ℕ) → eqb x c ≡ false → eqb x d ≡ false → s x ≡ t x) → s ≡ t
same-but s t c d p q h = fun_ext (λ x. split (eqb x c) (λ e. rw (eqb-true x c e) p) (λ e. split (eqb x d) (λ f. rw (eqb-true x d f) q) (h x e)))

-- none leave
over_still : (v : State) → pull_over v 0 0 ≡ v
unfolding pull_over poke with_col
over_still v = same-but (pull_over v 0 0) v ARRIVAL ARRIVED (over_none (head v ARRIVED) (v ARRIVAL)) (rw (sub-zero (head v ARRIVED)) (set-get_or (v ARRIVED) 0 0)) (λ x e f. rw (e, f))

module _ (v : State) (w i : ℕ) where
  -- whose the arrivals are then
  over_mine : (a x y : ℕ) → get_or (closed_over (head v ARRIVED) w i (v ARRIVAL)) x 0 ≡ at v ARRIVAL y → mine (pull_over v w i) a x ≡ mine v a y
  unfolding pull_over poke with_col
  over_mine a x y e = ap (λ (z : ℕ). eqb (at v MAIL-OWNER z) (suc a)) e

  -- how many there are then
  over_count : 0 < length (v ARRIVED) → head (pull_over v w i) ARRIVED ≡ head v ARRIVED - (i - w)
  unfolding pull_over poke with_col
  over_count h = get_or-set_same (v ARRIVED) 0 (head v ARRIVED - (i - w)) 0 h

  module _ (h : w ≤ i) (g : i < head v ARRIVED) (f : head v ARRIVED ≤ length (v ARRIVAL)) where
    -- the i-th stays, as the w-th
    pull-keep : pull_over (poke v ARRIVAL w (at v ARRIVAL i)) (w + 1) (i + 1) ≡ pull_over v w i
    unfolding pull_over poke with_col
    pull-keep =
        let e : i + 1 - (w + 1) ≡ i - w = omega arith in
        same-but (pull_over (poke v ARRIVAL w (at v ARRIVAL i)) (w + 1) (i + 1)) (pull_over v w i) ARRIVAL ARRIVED
        (over_keep (head v ARRIVED) (v ARRIVAL) w i h g f) (ap (λ (j : ℕ). set (v ARRIVED) 0 (head v ARRIVED - j)) e) (λ x p q. rw (p, q))

    -- the i-th, of mailbox entry e and data entry d, leaves
    pull-drop : 0 < length (v ARRIVED) → (e d : ℕ) → pull_over (unfill (disown v e) d) w (i + 1) ≡ unfill (pull (disown (pull_over v w i) e) ARRIVAL ARRIVED w) d
    unfolding pull_over unfill disown pull write free_bit poke with_col
    pull-drop o e d =
        let c = get_or-set_same (v ARRIVED) 0 (head v ARRIVED - (i - w)) 0 o in
        let m : head v ARRIVED - (i + 1 - w) ≡ head v ARRIVED - (i - w) - 1 = omega arith in
        same-but (pull_over (unfill (disown v e) d) w (i + 1)) (unfill (pull (disown (pull_over v w i) e) ARRIVAL ARRIVED w) d) ARRIVAL ARRIVED
        (rw c (over_drop (head v ARRIVED) (v ARRIVAL) w i h g f)) (rw (c, m) (sym (set-set (v ARRIVED) 0 _ _))) (λ x p q. rw (p, q))

-- ---- those from the w-th on leave
-- the words of the arrivals from the w-th on and before the i-th are 0
abbrev pub swept : State → ℕ → ℕ → State
swept s w i = with_col s ARRIVAL (sets (s ARRIVAL) w (replicate (i - w) 0))

module _ (s : State) (w : ℕ) where
  -- none of them yet
  pub swept_none : s ≡ swept s w w
  unfolding with_col
  swept_none =
      let e : w - w ≡ 0 = omega arith in
      rw e (fun_ext (λ c. split (eqb c ARRIVAL) (λ q. rw (q, eqb-true c ARRIVAL q)) (λ q. rw q)))

  -- one more
  pub swept-turn : (i : ℕ) → w ≤ i → poke (swept s w i) ARRIVAL i 0 ≡ swept s w (i + 1)
  unfolding poke with_col
  swept-turn i h =
      let l = s ARRIVAL in
      let e : i ≡ w + (i - w) = omega arith in
      let f : i + 1 - w ≡ i - w + 1 = omega arith in
      let g : set (sets l w (replicate (i - w) 0)) i 0 ≡ sets l w (replicate (i + 1 - w) 0) = ap (λ (j : ℕ). set (sets l w (replicate (i - w) 0)) j 0) e ∙ rw f (zero_turn l w (i - w)) in
      with_twice s ARRIVAL (sets l w (replicate (i - w) 0)) (set (sets l w (replicate (i - w) 0)) i 0) ∙ ap (λ (m : List ℕ). with_col s ARRIVAL m) g

  -- all of them
  pub swept_all : w ≤ head s ARRIVED → head s ARRIVED ≤ length (s ARRIVAL) → poke (swept s w (head s ARRIVED)) ARRIVED 0 w ≡ pull_over s w (head s ARRIVED)
  unfolding pull_over
  swept_all h g =
      let n = head s ARRIVED in
      let e : n - (n - w) ≡ w = omega arith in
      rw (over_rest n (s ARRIVAL) w h g, e)

-- ---- one message after the other
module _ (s : State) (a : ℕ) where
  -- the first is the j-th arrival
  drop-one : (j : ℕ) → first_of s a ≡ j → j < head s ARRIVED → drop_first s a ≡ unfill (delist s j) (data_of s j)
  unfolding drop_first
  drop-one j e h = rw (e, lt-ltb j (head s ARRIVED) h)

  -- it has mailbox entry e and data entry d
  drop-both : (j e d : ℕ) → at s ARRIVAL j ≡ e → at s MAIL-DATA e - 1 ≡ d → unfill (delist s j) (data_of s j) ≡ unfill (pull (disown s e) ARRIVAL ARRIVED j) d
  unfolding delist disown
  drop-both j e d p q = rw (p, q)

  -- one of m
  drop-step : (m : ℕ) → 0 < m → drop_all m s a ≡ drop_all (m - 1) (drop_first s a) a
  unfolding drop_all
  drop-step zero h = absurd (omega arith)
  drop-step (suc m) h = let e : suc m - 1 ≡ m = omega arith in rw e

  -- there is none
  drop_none : first_of s a ≡ head s ARRIVED → (m : ℕ) → drop_all m s a ≡ s
  unfolding drop_all drop_first
  drop_none e zero = refl
  drop_none e (suc m) = rw (le-ltb (first_of s a) (head s ARRIVED) (omega arith)) (drop_none e m)

-- ---- the pass
-- slot a's mailbox in the state s is being emptied: w of the first i of n arrivals stay, and so the state is v
pub record Emptying (s : State) (a : ℕ) (v : State) (n w i : ℕ) : Type 0 where
  pub stay : w ≤ i
  pub within : i ≤ n
  pub all : head v ARRIVED ≡ n
  pub long : n ≤ length (v ARRIVAL)
  pub some : 0 < length (v ARRIVED)
  pub others : (x : ℕ) → x < w → mine v a x ≡ false
  pub same : drop_all (n - (i - w)) (pull_over v w i) a ≡ drop_all n s a

-- a word made 0 makes no other such
clear-other : (l : List ℕ) (e y b : ℕ) → eqb (get_or l y 0) (suc b) ≡ false → eqb (get_or (set l e 0) y 0) (suc b) ≡ false
clear-other [] e y b h = h
clear-other (x ∷ l) zero zero b h = ne_eqb 0 (suc b) (λ q. omega arith)
clear-other (x ∷ l) zero (suc y) b h = h
clear-other (x ∷ l) (suc e) zero b h = h
clear-other (x ∷ l) (suc e) (suc y) b h = clear-other l e y b h

-- at first
pub pass_start : (s : State) (a n : ℕ) → n ≡ head s ARRIVED → n ≤ length (s ARRIVAL) → 0 < length (s ARRIVED) → Emptying s a s n 0 0
pass_start s a n e h o = record {
  stay = omega arith;
  within = omega arith;
  all = sym e;
  long = h;
  some = o;
  others = λ x l. absurd (omega arith);
  same = rw (over_still s) (ap (λ (m : ℕ). drop_all m s a) (omega arith));
}

module _ {s v : State} {a n w i : ℕ} (z : Emptying s a v n w i) where
  -- the arrivals that stay are none of slot a's
  over_others : (x : ℕ) → x < w → mine (pull_over v w i) a x ≡ false
  over_others x h = over_mine v w i a x x (over_before (head v ARRIVED) (v ARRIVAL) w i x h (omega arith)) ∙ z.others x h

  -- the i-th is not slot a's
  pass_keep : i < n → mine v a i ≡ false → Emptying s a (poke v ARRIVAL w (at v ARRIVAL i)) n (w + 1) (i + 1)
  unfolding poke with_col
  pass_keep h q =
      let e : n - (i + 1 - (w + 1)) ≡ n - (i - w) = omega arith in
      record {
        stay = omega arith;
        within = omega arith;
        all = z.all;
        long = rw length-set z.long;
        some = z.some;
        others = below_more (λ x. mine (poke v ARRIVAL w (at v ARRIVAL i)) a x ≡ false) w
            (λ x l. rw (get_or-set_other (v ARRIVAL) w x (at v ARRIVAL i) 0 (λ e. omega arith)) (z.others x l))
            (rw (get_or-set_same (v ARRIVAL) w (at v ARRIVAL i) 0 (omega arith)) q);
        same = rw (e, pull-keep v w i z.stay (omega arith) (omega arith)) z.same;
      }

  -- the i-th is slot a's
  module _ (h : i < n) (q : mine v a i ≡ true) where
    -- it is the first
    over_first : first_of (pull_over v w i) a ≡ w
    over_first =
        lowest-found (mine (pull_over v w i) a) w (head (pull_over v w i) ARRIVED) (omega (arith, over_count v w i z.some))
        (over_mine v w i a w i (over_at (head v ARRIVED) (v ARRIVAL) w i z.stay (omega arith) (omega arith)) ∙ q)
        over_others

    -- and leaves
    over_leaves : pull_over (discard v i) w (i + 1) ≡ drop_first (pull_over v w i) a
    unfolding discard pull_over poke with_col
    over_leaves =
        let g : i < head v ARRIVED = omega arith in
        let f : head v ARRIVED ≤ length (v ARRIVAL) = omega arith in
        pull-drop v w i z.stay g f z.some (at v ARRIVAL i) (data_of v i)
        ∙ sym (drop-one (pull_over v w i) a w over_first (omega (arith, over_count v w i z.some))
        ∙ drop-both (pull_over v w i) a w (at v ARRIVAL i) (data_of v i) (over_at (head v ARRIVED) (v ARRIVAL) w i z.stay g f) refl)

    -- the turn
    pass_drop : Emptying s a (discard v i) n w (i + 1)
    unfolding discard unfill disown write free_bit poke with_col
    pass_drop = record {
      stay = omega arith;
      within = omega arith;
      all = z.all;
      long = z.long;
      some = z.some;
      others = λ x l. clear-other (v MAIL-OWNER) (at v ARRIVAL i) (at v ARRIVAL x) a (z.others x l);
      same =
          let e : n - (i + 1 - w) ≡ n - (i - w) - 1 = omega arith in
          rw (e, over_leaves) (sym (drop-step (pull_over v w i) a (n - (i - w)) (omega arith)) ∙ z.same);
    }

  -- a turn
  pub pass_turn : i < n → (r : ℕ) → r ≡ cond (mine v a i) w (w + 1) → Emptying s a (sift v a w i) n r (i + 1)
  unfolding sift
  pass_turn h r e = split (mine v a i) (λ q. rw (e, q) (pass_drop h q)) (λ q. rw (e, q) (pass_keep h q))

  -- all were passed: what is left is what the rule leaves
  pub pass_end : n ≤ i → pull_over v w n ≡ drop_all n s a
  pass_end h =
      let e : i ≡ n = omega arith in
      let r : drop_all (n - (n - w)) (pull_over v w n) a ≡ drop_all n s a = rw e at z.same in
      sym (drop_none (pull_over v w n) a (lowest_none (mine (pull_over v w n) a) (head (pull_over v w n) ARRIVED) (λ x l. rw e at (over_others x (omega (arith, over_count v w n z.some))))) (n - (n - w))) ∙ r
