-- Slots with ages, over any pool of them: what a use leaves that ends, and that its id is one of its slots'.
use Prim.Native.Nat.{ℕ, zero, suc, ◌+◌, ◌<◌}
use native.Mathlib.Omega.{arith}
use mathlib.Core.Path.{◌≡◌, refl, sym, ap, ◌∙◌}
use mathlib.Core.Bool.{or-false, Bool, true, false, cond, not, ◌||◌, or-true}
use mathlib.Core.List.{List, [], ◌∷◌}
use lib.ListN.{length, get_or, set}
use lib.Seq.{get_or-set_same}
use lib.Dec.{eqb}
use borrow.Author.Tests.{eqb-true, eqb-false, eq-eqb, lt-ltb, le-ltb, not-false}
use Rattle.pools.specs.Slot.{slot_of, aged}
use Rattle.pools.proofs.BoolLaws.{split, true_false, neither, and_left}
use Rattle.pools.proofs.PoolLaws.{lowest-at}
use Rattle.pools.proofs.SlotLaws.{of_live, live_is, of-usable}
use Rattle.tables.specs.declared.Caps.{Caps}
use Rattle.tables.specs.Limits.{OLDEST}
use Rattle.tables.specs.State.{State, at, with_col, poke}
use Rattle.tables.proofs.ActionLaws.{poke-same}
use Rattle.rules.specs.Aged.{Aged, end_own, end_use, is_use, can_take, next_slot, use_id, begin_use, in_slot, older, no_words}
use Rattle.rules.specs.Rule.{Rule, Holds}
use Rattle.rules.specs.Sound.{aged_rule, zero_rule}
use Rattle.rules.specs.Terms.{is_own, runner}
use Rattle.rules.proofs.Lists.Columns.{each_set, other, set-zero}
use Rattle.rules.proofs.Frames.Wrote.{Wrote, mem, wrote_none, wrote_poke, wrote_still}
use Rattle.rules.proofs.Lists.Ties.{below, below_none, below_no, below_yes, cond_twice, used_inside}

-- ---- a word that is written
-- one in another slot
poke-other : (s : State) (d i v c e : ℕ) → eqb e i ≡ false → at (poke s d i v) c e ≡ at s c e
unfolding poke with_col
poke-other s d i v c e q = split (eqb c d) (λ r. rw (r, eqb-true c d r) (other (s d) i v e q)) (λ r. rw r)

-- one column is written, and then others
wrote_then : {d : ℕ} {cs : List ℕ} {s t u : State} → Wrote (d ∷ []) s t → Wrote cs t u → Wrote (d ∷ cs) s u
wrote_then {d = d} {cs = cs} v w =
    record { cols = λ c q. w.cols c (neither (eqb c d) (mem c cs) q).1 ∙ v.cols c (rw (neither (eqb c d) (mem c cs) q).0); long = λ c. w.long c ∙ v.long c }

-- ---- words in some columns of a slot
module _ (i : ℕ) where
  -- those columns alone are written
  wrote_filled : (cs vs : List ℕ) (s : State) → Wrote cs s (in_slot s i cs vs)
  wrote_filled [] vs s = wrote_none s
  wrote_filled (d ∷ cs) [] s = wrote_still (d ∷ cs) s
  wrote_filled (d ∷ cs) (v ∷ vs) s = wrote_then (wrote_poke (wrote_none s) d i v) (wrote_filled cs vs (poke s d i v))

  -- and no other slot
  filled-other : (cs vs : List ℕ) (s : State) (c e : ℕ) → eqb e i ≡ false → at (in_slot s i cs vs) c e ≡ at s c e
  filled-other [] vs s c e q = refl
  filled-other (d ∷ cs) [] s c e q = refl
  filled-other (d ∷ cs) (v ∷ vs) s c e q = filled-other cs vs (poke s d i v) c e q ∙ poke-other s d i v c e q

  -- zeros are read, also past the end
  zeros_here : (cs : List ℕ) (s : State) (c : ℕ) → mem c cs ≡ true → at (in_slot s i cs (no_words cs)) c i ≡ 0
  zeros_here [] s c m = true_false false m refl
  zeros_here (d ∷ cs) s c m =
      split (mem c cs) (zeros_here cs (poke s d i 0) c) (λ q.
      let r : c ≡ d = eqb-true c d (sym (or-false (eqb c d)) ∙ (rw q at m)) in
      ap (λ (l : List ℕ). get_or l i 0) ((wrote_filled cs (no_words cs) (poke s d i 0)).cols c q ∙ ap (poke s d i 0) r ∙ poke-same s d i 0) ∙ set-zero (s d) i)

-- ---- A USE OF SLOT i BEGINS, with word v: it is one older, and no other slot changed
pub record Begins (P : Aged) (i v : ℕ) (s u : State) : Type 0 where
  pub wrote : Wrote (P.age ∷ P.word ∷ P.rest) s u
  pub word : u P.word ≡ set (s P.word) i v
  pub age : u P.age ≡ aged (s P.age) i
  pub others : (c e : ℕ) → eqb e i ≡ false → at u c e ≡ at s c e

-- where the columns of the pool differ
pub use_begins : (P : Aged) (s : State) (i v : ℕ) (vs : List ℕ) → mem P.age (P.word ∷ P.rest) ≡ false → mem P.word (P.age ∷ P.rest) ≡ false → Begins P i v s (begin_use P s i (v ∷ vs))
unfolding begin_use
use_begins P s i v vs x y =
    let t = older P s i in
    record {
      wrote = wrote_then (wrote_poke (wrote_none s) P.age i _) (wrote_filled i (P.word ∷ P.rest) (v ∷ vs) t);
      word = (wrote_filled i P.rest vs (poke t P.word i v)).cols P.word (neither (eqb P.word P.age) (mem P.word P.rest) y).1 ∙ poke-same t P.word i v
          ∙ ap (λ (l : List ℕ). set l i v) ((wrote_poke (wrote_none s) P.age i _).cols P.word (rw (neither (eqb P.word P.age) (mem P.word P.rest) y).0));
      age = (wrote_filled i (P.word ∷ P.rest) (v ∷ vs) t).cols P.age x ∙ poke-same s P.age i _;
      others = λ c e q. filled-other i (P.word ∷ P.rest) (v ∷ vs) t c e q ∙ poke-other s P.age i _ c e q;
    }

-- ---- a free slot: its columns are zero
zero-all : (s : State) (i : ℕ) (cs : List ℕ) → ((c : ℕ) → mem c cs ≡ true → at s c i ≡ 0) → Holds (zero_rule s i cs)
zero-all s i [] h = refl
zero-all s i (c ∷ []) h = h c (rw (eq-eqb c c refl))
zero-all s i (c ∷ d ∷ cs) h = (h c (rw (eq-eqb c c refl)), zero-all s i (d ∷ cs) (λ b m. h b (rw m (or-true (eqb b c)))))

-- and the other way round
zero-each : (s : State) (i : ℕ) (cs : List ℕ) → Holds (zero_rule s i cs) → (c : ℕ) → mem c cs ≡ true → at s c i ≡ 0
zero-each s i [] h c m = true_false false m refl
zero-each s i (d ∷ []) h c m = rw (eqb-true c d (sym (or-false (eqb c d)) ∙ m)) h
zero-each s i (d ∷ e ∷ cs) h c m = split (eqb c d) (λ q. rw (eqb-true c d q) h.0) (λ q. zero-each s i (e ∷ cs) h.1 c (rw q at m))

-- ---- THE USES THAT PASS END: their columns are zero, ages apart, and nothing else changed
pub record Ends (P : Aged) (p : ℕ → Bool) (s u : State) : Type 0 where
  pub wrote : Wrote (P.word ∷ P.rest) s u
  pub gone : (c : ℕ) → mem c (P.word ∷ P.rest) ≡ true → (e : ℕ) → at u c e ≡ cond (p e) 0 (at s c e)

module _ (P : Aged) where
  -- who uses them is one of their columns
  pub word_in : mem P.word (P.word ∷ P.rest) ≡ true
  word_in = rw (eq-eqb P.word P.word refl)

  -- and so are the others
  rest_in : (c : ℕ) → mem c P.rest ≡ true → mem c (P.word ∷ P.rest) ≡ true
  rest_in c m = rw m (or-true (eqb c P.word))

  -- one ends
  pub use_ends : (s : State) (i : ℕ) → Ends P (λ e. eqb e i) s (end_use P s i)
  unfolding end_use
  use_ends s i =
      let cs = P.word ∷ P.rest in
      record {
        wrote = wrote_filled i cs (no_words cs) s;
        gone = λ c m e. split (eqb e i) (λ q. rw (q, eqb-true e i q) (zeros_here i cs s c m)) (λ q. rw q (filled-other i cs (no_words cs) s c e q));
      }

  -- none does
  ends_none : (s : State) (p : ℕ → Bool) → ((e : ℕ) → p e ≡ false) → Ends P p s s
  ends_none s p h = record { wrote = wrote_still (P.word ∷ P.rest) s; gone = λ c m e. rw (h e) }

  -- some end, and then others
  pub ends_then : (s u v : State) (p q r : ℕ → Bool) → Ends P p s u → Ends P q u v → ((e : ℕ) → p e || q e ≡ r e) → Ends P r s v
  ends_then s u v p q r x y h = record {
    wrote = record { cols = λ c m. y.wrote.cols c m ∙ x.wrote.cols c m; long = λ c. y.wrote.long c ∙ x.wrote.long c };
    gone = λ c m e. y.gone c m e ∙ ap (cond (q e) 0) (x.gone c m e) ∙ cond_twice (p e) (q e) (at s c e) ∙ ap (λ (b : Bool). cond b 0 (at s c e)) (h e);
  }

  module _ (a : ℕ) (s : State) where
    -- those of slot a, among the first n, end
    pub own_ends : (n : ℕ) → Ends P (below (s P.word) (suc a) n) s (end_own P a n s)
    unfolding end_own
    own_ends zero = ends_none s (below (s P.word) (suc a) 0) (below_none (s P.word) (suc a))
    own_ends (suc n) =
        let h = own_ends n in
        let u = end_own P a n s in
        let w = s P.word in
        let b = below w (suc a) in
        let e : at u P.word n ≡ get_or w n 0 = h.gone P.word word_in n ∙ rw (le-ltb n n (omega arith)) in
        split (eqb (at u P.word n) (suc a))
        (λ q. rw q (ends_then s u (end_use P u n) (b n) (λ d. eqb d n) (b (suc n)) h (use_ends u n) (below_yes w (suc a) n (rw e at q))))
        (λ q. rw q (ends_then s u u (b n) (λ d. false) (b (suc n)) h (ends_none u (λ d. false) (λ d. refl))
        (λ d. or-false (b n d) ∙ below_no w (suc a) n (rw e at q) d)))

    -- after it none of them is slot a's
    pub own_none : (n i : ℕ) → i < n → at (end_own P a n s) P.word i ≡ suc a → ⊥
    own_none n i l e =
        let o = (own_ends n).gone P.word word_in i in
        split (eqb (at s P.word i) (suc a))
        (λ q. let x : at (end_own P a n s) P.word i ≡ 0 = rw (lt-ltb i n l, q) at o in omega arith)
        (λ q. let x : at (end_own P a n s) P.word i ≡ at s P.word i = rw (lt-ltb i n l, q) at o in eqb-false (at s P.word i) (suc a) q (sym x ∙ e))

  -- ---- soundness: every slot is free, or in use as is asked of one in use
  module _ (used : State → ℕ → Rule) (s u : State) where
    -- a use begins
    pub begins-sound : (i v : ℕ) → Begins P i v s u → i < length (s P.word) → i < length (s P.age) → (v ≡ 0 → ⊥) → at s P.age i < OLDEST → Holds (used u i) →
        ((j : ℕ) → eqb j i ≡ false → Holds (used s j) → Holds (used u j)) → (j : ℕ) → Holds (aged_rule P used s j) → Holds (aged_rule P used u j)
    begins-sound i v b l m n y new stays j =
        each_set (λ j. Holds (aged_rule P used s j) → Holds (aged_rule P used u j)) i j
        (λ g. rw (b.word, b.age, get_or-set_same (s P.word) i v 0 l, get_or-set_same (s P.age) i (at s P.age i + 1) 0 m) ((omega arith, λ q. omega arith), ((λ q. absurd (n q)), λ q. new)))
        (λ q g. rw (b.others P.word j q, b.others P.age j q) (g.0, ((λ e. zero-all u j P.rest (λ c h. b.others c j q ∙ zero-each s j P.rest (g.1.0 e) c h)), λ z. stays j q (g.1.1 z))))

    -- uses end
    pub ends-sound : (p : ℕ → Bool) → Ends P p s u → mem P.age (P.word ∷ P.rest) ≡ false → (i : ℕ) → (p i ≡ false → Holds (used s i) → Holds (used u i)) → Holds (aged_rule P used s i) → Holds (aged_rule P used u i)
    ends-sound p t x i stays g =
        rw (t.wrote.cols P.age x, t.gone P.word word_in i)
        (split (p i)
        (λ q. rw q ((g.0.0, λ n. absurd (n refl)), ((λ e. zero-all u i P.rest (λ c h. t.gone c (rest_in c h) i ∙ rw q)), λ n. absurd (n refl))))
        (λ q. rw q (g.0, ((λ e. zero-all u i P.rest (λ c h. t.gone c (rest_in c h) i ∙ rw q (zero-each s i P.rest (g.1.0 e) c h))), λ n. stays q (g.1.1 n)))))

  -- ---- the slot that is taken
  -- where there is one, it is unused, and not worn
  pub next_slot_lem : (k : Caps) (s : State) → next_slot P k s < P.many k → (at s P.word (next_slot P k s) ≡ 0) × (at s P.age (next_slot P k s) < OLDEST)
  next_slot_lem k s l = of-usable OLDEST (s P.word) (s P.age) (next_slot P k s) (lowest-at (can_take P s) (P.many k) l)

  -- ---- ids
  -- the slot of the id of one of the running actor's own is one of the slots, and the id that of its present use
  pub own_is : (s : State) (id n : ℕ) → 0 < P.factor → length (s P.word) ≡ n → not (is_own P s id) ≡ false → (slot_of P.factor id < n) × (id ≡ use_id P s (slot_of P.factor id))
  own_is s id n f z q =
      let h = and_left (is_use P s id) (eqb (at s P.word (slot_of P.factor id)) (runner s)) (not-false (is_own P s id) q) in
      (omega (arith, used_inside (s P.word) (slot_of P.factor id) (of_live P.factor (s P.word) (s P.age) id h).0), live_is P.factor (s P.word) (s P.age) id f h)
