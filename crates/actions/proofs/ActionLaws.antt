-- What the actions' loops and branches turn on.
use Prim.Native.Nat.{ℕ, zero, suc, ◌+◌, ◌-◌, ◌*◌, ◌≤◌, ◌<◌}
use mathlib.Core.Path.{◌≡◌, refl, sym, ◌∙◌, fun_ext}
use mathlib.Core.Bool.{Bool, true, false, ◌&&◌, ◌||◌}
use mathlib.Core.List.{List, [], ◌∷◌}
use native.Mathlib.Numerals.{add-one}
use native.Mathlib.Omega.{arith}
use lib.ListN.{length}
use lib.Seq.{set_out, sets}
use lib.Dec.{eqb, ltb}
use borrow.Author.Count.{below_more}
use borrow.Author.Tests.{eqb-true, ltb-true, ltb-false, lt-ltb, le-ltb, eq-eqb, ne_eqb}
use Rattle.pools.specs.Pool.{lowest}
use Rattle.pools.proofs.BoolLaws.{split}
use Rattle.pools.proofs.PoolLaws.{lowest-found, lowest_none}
use Rattle.tables.specs.Columns.{ARRIVED, PAYLOAD, PRIORITY, QUEUE, QUEUED}
use Rattle.tables.specs.Limits.{ENTRY-BYTES, LEVELS}
use Rattle.tables.specs.State.{State, at, head, with_col, poke}
use Rattle.tables.specs.Action.{push, take_bit, write}
use Rattle.rules.specs.Actions.{enlist, fill, least}
use Rattle.rules.specs.Calls.{first_head}

-- ---- the lowest
-- a search for the lowest of N numbers that passes, which has found none below i; n is N, as the code has it
pub record Searched (f : ℕ → Bool) (N n i : ℕ) : Type 0 where
  pub within : i ≤ n
  pub all : n ≡ N
  pub none : (j : ℕ) → j < i → f j ≡ false

module _ {f : ℕ → Bool} {N n : ℕ} where
  -- at the first
  pub search_start : n ≡ N → Searched f N n 0
  search_start e = record { within = omega arith; all = e; none = λ j l. absurd (omega arith) }

  module _ {i : ℕ} (s : Searched f N n i) where
    -- i does not pass
    pub search_on : {b : Bool} → i < n → b ≡ f i → b ≡ false → Searched f N n (i + 1)
    search_on h e q = record { within = omega arith; all = s.all; none = below_more (λ j. f j ≡ false) i s.none (sym e ∙ q) }

    -- i passes
    pub search_hit : {b : Bool} → i < n → b ≡ f i → b ≡ true → i ≡ lowest f N
    search_hit h e q = sym (lowest-found f i N (omega (arith, s.all)) (sym e ∙ q) s.none)

    -- none is left
    pub search_miss : n ≤ i → n ≡ lowest f N
    search_miss h = s.all ∙ sym (lowest_none f N (λ j l. s.none j (omega (arith, s.all))))

-- ---- the least
-- one turn of the search: entry n comes first, or it does not
module _ (f : ℕ → Bool) (g : ℕ → ℕ) (n : ℕ) where
  pub least-next : f n && (eqb (least f g n) 0 || ltb (g n) (g (least f g n - 1))) ≡ true → least f g (n + 1) ≡ n + 1
  unfolding least
  least-next e = rw (add-one n) (rw e)

  pub least-same : f n && (eqb (least f g n) 0 || ltb (g n) (g (least f g n - 1))) ≡ false → least f g (n + 1) ≡ least f g n
  unfolding least
  least-same e = rw (add-one n) (rw e)

-- ---- the first level
-- the level of the i-th of the queue
abbrev pub level_of : State → ℕ → ℕ
level_of s i = at s PRIORITY (at s QUEUE i)

module _ (s : State) where
  -- none of the queue is of the levels below m
  heads_none : (m : ℕ) → ((j : ℕ) → j < head s QUEUED → m ≤ level_of s j) → first_head s m ≡ head s QUEUED
  unfolding first_head
  heads_none zero h = refl
  heads_none (suc m) h =
      rw (heads_none m (λ j l. omega (arith, h j l)), le-ltb (head s QUEUED) (head s QUEUED) (omega arith))
      (lowest_none (λ i. eqb (level_of s i) m) (head s QUEUED) (λ j l. ne_eqb (level_of s j) m (λ e. omega (arith, h j l))))

  -- the i-th is of level b, none before it is of that level, and none at all is of one below
  heads_first : (i b : ℕ) → i < head s QUEUED → level_of s i ≡ b → ((j : ℕ) → j < i → b < level_of s j) → ((j : ℕ) → j < head s QUEUED → b ≤ level_of s j) → (m : ℕ) → b < m → first_head s m ≡ i
  unfolding first_head
  heads_first i b h e before least zero l = absurd (omega arith)
  heads_first i b h e before least (suc m) l =
      split (ltb b m)
      (λ q. rw (heads_first i b h e before least m (ltb-true b m q), lt-ltb i (head s QUEUED) h))
      (λ q. let o : b ≡ m = omega (arith, ltb-false b m q) in
      rw (heads_none m (λ j g. omega (arith, least j g)), le-ltb (head s QUEUED) (head s QUEUED) (omega arith))
      (lowest-found (λ i. eqb (level_of s i) m) i (head s QUEUED) h (eq-eqb (level_of s i) m (e ∙ o)) (λ j g. ne_eqb (level_of s j) m (λ q. omega (arith, before j g)))))

-- a search for the first of the least level among the n of the queue, which has passed i: it is of level `best`, and there is none yet where that is no level
pub record Ahead (s : State) (n first best i : ℕ) : Type 0 where
  pub within : i ≤ n
  pub all : n ≡ head s QUEUED
  pub above : 0 < best
  pub most : best ≤ LEVELS
  pub least : (j : ℕ) → j < i → best ≤ level_of s j
  pub none : LEVELS ≤ best → first ≡ n
  pub found : best < LEVELS → (first < i) × (level_of s first ≡ best) × ((j : ℕ) → j < first → best < level_of s j)

-- before the first turn
pub ahead-start : {s : State} {n : ℕ} → n ≡ head s QUEUED → Ahead s n n LEVELS 0
ahead-start e = record { within = omega arith; all = e; above = omega arith; most = omega arith; least = λ j l. absurd (omega arith); none = λ l. refl; found = λ l. absurd (omega arith) }

module _ {s : State} {n first best i : ℕ} (z : Ahead s n first best i) where
  -- the i-th is of the first level of all
  pub ahead_top : i < n → level_of s i ≡ 0 → i ≡ first_head s LEVELS
  ahead_top h e = sym (heads_first s i 0 (omega (arith, z.all)) e (λ j l. omega (arith, z.above, z.least j l)) (λ j l. omega arith) LEVELS (omega arith))

  -- it is of a level before the best so far
  pub ahead_better : {level : ℕ} → i < n → level ≡ level_of s i → 0 < level → level < best → Ahead s n i level (i + 1)
  ahead_better {level} h e o l = record {
    within = omega arith;
    all = z.all;
    above = o;
    most = omega arith;
    least = below_more (λ j. level ≤ level_of s j) i (λ j g. omega (arith, z.least j g)) (omega arith);
    none = λ g. absurd (omega arith);
    found = λ g. (omega arith, sym e, λ j g. omega (arith, z.least j g));
  }

  -- it is not
  pub ahead_on : i < n → best ≤ level_of s i → Ahead s n first best (i + 1)
  ahead_on h l = record {
    within = omega arith;
    all = z.all;
    above = z.above;
    most = z.most;
    least = below_more (λ j. best ≤ level_of s j) i z.least l;
    none = z.none;
    found = λ g. (omega (arith, (z.found g).0), (z.found g).1, (z.found g).2);
  }

  -- all were passed
  pub ahead-end : n ≤ i → first ≡ first_head s LEVELS
  ahead-end h =
      let least : (j : ℕ) → j < head s QUEUED → best ≤ level_of s j = λ j l. z.least j (omega (arith, z.all)) in
      split (ltb best LEVELS)
      (λ q. let f = z.found (ltb-true best LEVELS q) in
      sym (heads_first s first best (omega (arith, f.0, z.all, z.within)) f.1 f.2 least LEVELS (ltb-true best LEVELS q)))
      (λ q. let l = ltb-false best LEVELS q in z.none l ∙ z.all ∙ sym (heads_none s LEVELS (λ j g. omega (arith, least j g))))

-- ---- the payload
-- stores past the end do nothing
sets_out : (l : List ℕ) (i : ℕ) (m : List ℕ) → length l ≤ i → sets l i m ≡ l
sets_out l i [] h = refl
sets_out l i (x ∷ m) h = rw (set_out l i x h) (sets_out l (suc i) m (omega arith))

-- nor do bytes written past the area
pub write-out : (s : State) (d i : ℕ) (m : List ℕ) → length (s PAYLOAD) ≤ ENTRY-BYTES * d + i → write s d i m ≡ s
unfolding write with_col
write-out s d i m h = fun_ext (λ c. split (eqb c PAYLOAD) (λ q. rw (q, sets_out (s PAYLOAD) (ENTRY-BYTES * d + i) m h, eqb-true c PAYLOAD q)) (λ q. rw q))

-- ---- the two counts of the head
module _ (s : State) where
  -- a message in its data entry leaves them
  pub fill-arrived : (d sender header : ℕ) (m : List ℕ) → head (fill s d sender header m) ARRIVED ≡ head s ARRIVED
  unfolding fill write take_bit poke with_col
  fill-arrived d sender header m = refl

  pub fill_queued : (d sender header : ℕ) (m : List ℕ) → head (fill s d sender header m) QUEUED ≡ head s QUEUED
  unfolding fill write take_bit poke with_col
  fill_queued d sender header m = refl

  -- one that joins a mailbox leaves the queue's
  pub enlist_queued : (e a d : ℕ) → head (enlist s e a d) QUEUED ≡ head s QUEUED
  unfolding enlist push take_bit poke with_col
  enlist_queued e a d = refl
