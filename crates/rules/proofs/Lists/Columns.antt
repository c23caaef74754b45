-- Columns of slots: a word written, who is alive after it, and lists of slots that one joins or leaves. Nothing here knows a call.
use Prim.Native.Nat.{ℕ, zero, suc, ◌+◌, ◌-◌, ◌≤◌, ◌<◌}
use native.Mathlib.Decide.{dec_lt}
use native.Mathlib.Numerals.{add-one}
use native.Mathlib.Omega.{arith}
use mathlib.Core.Path.{◌≡◌, refl, sym, ap, ◌∙◌, fun_ext}
use mathlib.Core.Bool.{Bool, true, false, not, ◌&&◌}
use mathlib.Core.List.{List, ◌∷◌}
use mir.Val.{bool_byte}
use lib.ListN.{length, get_or, set, take, drop, get_or-eq_default, get_or-append}
use lib.Seq.{get_or-set_same, get_or-set_other, set_out, take-suc-set, take_at, get_or-take, get_or-drop, get_or-append-add, length-take-le}
use lib.Dec.{eqb, ltb}
use borrow.Author.Tests.{eqb-true, eqb-false, eq-eqb, ne_eqb, ltb-true, ltb-false, lt-ltb, le-ltb, not-true}
use Rattle.pools.specs.Pool.{occurs, Exact}
use Rattle.pools.specs.Lists.{without}
use Rattle.pools.specs.Slot.{unused}
use Rattle.pools.proofs.BoolLaws.{split, flag≤}
use Rattle.pools.proofs.PoolLaws.{count-not, count-some}
use Rattle.pools.proofs.ListLaws.{occurs_snoc, occurs-without, occurs-place, length_without, without_at, without-before}
use Rattle.pools.proofs.ExactLaws.{exact_length}
use Rattle.tables.specs.Limits.{OLDEST}
use Rattle.tables.specs.Action.{closed}
use Rattle.rules.specs.Aged.{is_worn}
use Rattle.rules.specs.Rule.{Holds}
use Rattle.rules.specs.Terms.{alive}
use Rattle.rules.specs.Sound.{list_rule}

-- ---- one word
-- a word beside the one that is written
pub other : (l : List ℕ) (a v b : ℕ) → eqb b a ≡ false → get_or (set l a v) b 0 ≡ get_or l b 0
other l a v b q = get_or-set_other l a b v 0 (eqb-false b a q)

-- what is said of each entry, after a write to entry a
pub each_set : (P : ℕ → Type 0) (a b : ℕ) → P a → (eqb b a ≡ false → P b) → P b
each_set P a b y n = split (eqb b a) (λ q. rw (eqb-true b a q) y) n

-- what is so of the word that is written and of the old one is so of what is read
pub set_so : (P : ℕ → Type 0) (l : List ℕ) (a v b : ℕ) → P v → P (get_or l b 0) → P (get_or (set l a v) b 0)
set_so P l a v b y n =
    split (eqb b a)
    (λ q. elim (dec_lt a (length l)) [ yes h ↦ rw (eqb-true b a q, get_or-set_same l a v 0 h) y | no h ↦ rw (set_out l a v (omega arith)) n ])
    (λ q. rw (other l a v b q) n)

-- a zero written is read, also past the end
pub set-zero : (l : List ℕ) (a : ℕ) → get_or (set l a 0) a 0 ≡ 0
set-zero l a =
    elim (dec_lt a (length l)) [
      | yes h ↦ get_or-set_same l a 0 0 h
      | no h ↦ ap (λ (m : List ℕ). get_or m a 0) (set_out l a 0 (omega arith)) ∙ get_or-eq_default l 0 (omega arith)
    ]

-- ---- a counted list, in the first m words of a column, closes up over its j-th word
module _ (m j : ℕ) (l : List ℕ) (h : j < m) (w : m ≤ length l) where
  -- one word fewer is before the 0 that comes after them
  closed-short : length (without j (take m l)) ≡ m - 1
  closed-short = let t = length-take-le m l w in omega (arith, length_without (take m l) j (omega arith))

  -- what is so of each word that counts is so of those that count then
  pub closed-first : (P : ℕ → Type 0) → ((i : ℕ) → i < m → P (get_or l i 0)) → (i : ℕ) → i < m - 1 → P (get_or (closed m j l) i 0)
  closed-first P p i u =
      let t = length-take-le m l w in
      rw (get_or-append (without j (take m l)) (0 ∷ drop m l) 0 i (omega (arith, closed-short)))
      (elim (dec_lt i j) [
        | yes b ↦ rw (without-before (take m l) j i b (omega arith), get_or-take m l i 0 (omega arith)) (p i (omega arith))
        | no b ↦ rw (without_at (take m l) j i (omega arith) (omega arith), get_or-take m l (i + 1) 0 (omega arith)) (p (i + 1) (omega arith))
      ])

  -- past them a word is 0, where it was 0 past the others
  pub closed-past : (i : ℕ) → m - 1 ≤ i → (m ≤ i → get_or l i 0 ≡ 0) → get_or (closed m j l) i 0 ≡ 0
  closed-past i u z =
      let e : i ≡ length (without j (take m l)) + (i - (m - 1)) = omega (arith, closed-short) in
      rw (e, get_or-append-add (without j (take m l)) (0 ∷ drop m l) (i - (m - 1)) 0) (past (i - (m - 1)) (omega arith))
    where
      -- the 0, and the words after it
      past : (x : ℕ) → m - 1 + x ≡ i → get_or (0 ∷ drop m l) x 0 ≡ 0
      past zero e = refl
      past (suc x) e = let at_i : m + x ≡ i = omega arith in get_or-drop m l x 0 ∙ ap (λ (y : ℕ). get_or l y 0) at_i ∙ z (omega arith)

-- ---- who is alive
module _ (st : List ℕ) where
  -- a slot whose word is not 0
  pub alive-of : (a : ℕ) → (get_or st a 0 ≡ 0 → ⊥) → alive st a ≡ true
  unfolding alive
  alive-of a h = rw (ne_eqb (get_or st a 0) 0 h)

  -- and the other way round
  pub of-alive : (a : ℕ) → alive st a ≡ true → get_or st a 0 ≡ 0 → ⊥
  unfolding alive
  of-alive a e = eqb-false (get_or st a 0) 0 (not-true (eqb (get_or st a 0) 0) e)

  -- who is alive has a slot
  pub alive-below : (a : ℕ) → alive st a ≡ true → a < length st
  alive-below a e = elim (dec_lt a (length st)) [ yes h ↦ h | no h ↦ absurd (of-alive a e (get_or-eq_default st 0 (omega arith))) ]

  -- a write to slot a changes nothing for the others
  pub alive-other : (a v b : ℕ) → (b ≡ a → ⊥) → alive (set st a v) b ≡ alive st b
  unfolding alive
  alive-other a v b h = rw (get_or-set_other st a b v 0 h)

  -- the slot that is written with a word that is not 0
  pub alive-begins : (a v : ℕ) → a < length st → (v ≡ 0 → ⊥) → alive (set st a v) a ≡ true
  unfolding alive
  alive-begins a v l h = rw (get_or-set_same st a v 0 l, ne_eqb v 0 h)

  -- who lives on in another state: the same are alive
  pub alive-same : (a v : ℕ) → (get_or st a 0 ≡ 0 → ⊥) → (v ≡ 0 → ⊥) → alive (set st a v) ≡ alive st
  alive-same a v h w =
      let l : a < length st = alive-below a (alive-of a h) in
      fun_ext (λ b. split (eqb b a)
      (λ q. rw (eqb-true b a q) (alive-begins a v l w ∙ sym (alive-of a h)))
      (λ q. alive-other a v b (eqb-false b a q)))

  -- who was alive is, once slot a is
  pub alive_grows : (a v b : ℕ) → (v ≡ 0 → ⊥) → alive st b ≡ true → alive (set st a v) b ≡ true
  alive_grows a v b w e =
      split (eqb b a)
      (λ q. let r : b ≡ a = eqb-true b a q in ap (alive (set st a v)) r ∙ alive-begins a v (alive-below a (ap (alive st) (sym r) ∙ e)) w)
      (λ q. alive-other a v b (eqb-false b a q) ∙ e)

-- ---- a list of slots in the first m words of a column of n; f says who stands in it
-- the first m words are slots, and the others 0
abbrev pub Listed : ℕ → ℕ → List ℕ → Type 0
Listed n m q = (i : ℕ) → i < n → Holds (list_rule n m q i)

-- it names each slot of which f holds once, and no other slot
abbrev pub Once : ℕ → ℕ → List ℕ → (ℕ → Bool) → Type 0
Once n m q f = (a : ℕ) → a < n → occurs a (take m q) ≡ bool_byte (f a)

module _ (n m : ℕ) (q : List ℕ) (w : m ≤ n) (z : length q ≡ n) (h : Listed n m q) where
  -- what stands at a place of the list is a slot
  pub listed_at : (i : ℕ) → i < m → get_or q i 0 < n
  listed_at i l = (h i (omega arith)).0 l

  -- no number past the last slot stands in the list
  listed-past : (e : ℕ) → n ≤ e → occurs e (take m q) ≡ 0
  listed-past e l =
      elim (dec_lt 0 (occurs e (take m q))) [
        | yes p ↦ absurd (let r = occurs-place e (take m q) p in
            let t = length-take-le m q (omega arith) in
            let i : r.0 < m = omega (arith, r.1) in
            omega (arith, listed_at r.0 i, get_or-take m q r.0 0 i, r.2))
        | no p ↦ omega arith
      ]

  -- THE LIST IS EXACT: it names each slot of which f holds once, and no other number
  pub listed_exact : (f : ℕ → Bool) → Once n m q f → Exact (take m q) (λ e. ltb e n && f e)
  listed_exact f o e =
      split (ltb e n) (λ r. rw r (o e (ltb-true e n r))) (λ r. rw r (listed-past e (ltb-false e n r)))

  -- a slot that is not in the list leaves room
  pub listed_room : (f : ℕ → Bool) (a : ℕ) → a < n → f a ≡ false → Once n m q f → m < n
  listed_room f a l u o =
      let g : ℕ → Bool = λ e. ltb e n && f e in
      let t = length-take-le m q (omega arith) in
      let c = exact_length (λ e. ltb e n && f e) n (take m q) (λ e k. rw (le-ltb e n k)) (listed_exact f o) in
      let d = count-some (λ e. not (ltb e n && f e)) a n l (rw (lt-ltb a n l, u)) in
      omega (arith, t, c, d, count-not (λ e. ltb e n && f e) n)

  -- slot a joins the tail
  pub listed-joins : (a : ℕ) → a < n → m < n → Listed n (m + 1) (set q m a)
  listed-joins a l g i k =
      each_set (λ i. Holds (list_rule n (m + 1) (set q m a) i)) m i
      (rw (get_or-set_same q m a 0 (omega arith)) (λ u. l, λ u. absurd (omega arith)))
      (λ e. rw (other q m a i e) (λ u. (h i k).0 (omega (arith, eqb-false i m e)), λ u. (h i k).1 (omega arith)))

  -- the list then names a besides
  pub once-joins : (f v : ℕ → Bool) (a : ℕ) → m < n → f a ≡ false → v a ≡ true → ((b : ℕ) → (b ≡ a → ⊥) → v b ≡ f b) → Once n m q f → Once n (m + 1) (set q m a) v
  once-joins f v a g x y s o b k =
      rw (add-one m, take-suc-set q m a (omega arith), occurs_snoc b (take m q) a, o b k)
      (split (eqb b a)
      (λ e. let r : b ≡ a = eqb-true b a e in rw (r, x, y, eq-eqb a a refl))
      (λ e. rw (s b (eqb-false b a e), ne_eqb a b (λ r. eqb-false b a e (sym r))) (omega arith)))

  module _ (j : ℕ) (l : j < m) where
    -- the j-th leaves
    pub listed_leaves : Listed n (m - 1) (closed m j q)
    listed_leaves i k = (closed-first m j q l (omega arith) (λ x. x < n) listed_at i, λ u. closed-past m j q l (omega arith) i u (h i k).1)

    -- the list then names it no more
    pub once_leaves : (f v : ℕ → Bool) → v (get_or q j 0) ≡ false → ((b : ℕ) → (b ≡ get_or q j 0 → ⊥) → v b ≡ f b) → Once n m q f → Once n (m - 1) (closed m j q) v
    once_leaves f v y s o b k =
        let t = length-take-le m q (omega arith) in
        let c = rw (get_or-take m q j 0 l) at (occurs-without b j (take m q) (omega arith)) in
        rw (take_at (without j (take m q)) (0 ∷ drop m q) (m - 1) (closed-short m j q l (omega arith)))
        (split (eqb (get_or q j 0) b)
        (λ e. let r : b ≡ get_or q j 0 = sym (eqb-true (get_or q j 0) b e) in
        rw (ap v r ∙ y) (omega (arith, rw e at c, o b k, flag≤ (f b))))
        (λ e. rw (s b (λ r. eqb-false (get_or q j 0) b e (sym r))) (omega (arith, rw e at c, o b k))))

-- ---- worn slots
-- tests whose opposites are the same
same_not : (a b : Bool) → not a ≡ not b → a ≡ b
same_not true true e = refl
same_not true false e = sym e
same_not false true e = sym e
same_not false false e = refl

-- where the same are alive, the same slots are worn
pub worn_alive : (st new ages : List ℕ) → alive new ≡ alive st → (b : ℕ) → is_worn new ages b ≡ is_worn st ages b
unfolding alive
worn_alive st new ages v b = ap (λ (x : Bool). x && eqb (get_or ages b 0) OLDEST) (same_not (unused new b) (unused st b) (ap (λ (f : ℕ → Bool). f b) v))
