-- Timers, links and monitors over bare columns: a use of a slot begins, uses end, and what the reckoning's lists are then.
use Prim.Native.Nat.{ℕ, suc, ◌+◌, ◌-◌, ◌<◌}
use native.Mathlib.Omega.{arith}
use mathlib.Core.Path.{◌≡◌, refl, sym, ap, ◌∙◌}
use mathlib.Core.Logic.{◌⊎◌, inl, inr, ⊎_elim}
use mathlib.Core.Bool.{and_comm, or_comm, or-true, or-false, Bool, true, false, cond, not, ◌&&◌, ◌||◌}
use mathlib.Core.List.{List, [], ◌∷◌, ◌++◌, map}
use mir.Val.{bool_byte}
use native.Mathlib.Decide.{ℕ_discrete, dec_lt}
use lib.ListN.{length, get_or, set, get_or-eq_default}
use lib.Seq.{get_or-set_same, get_or-set_other}
use lib.Dec.{eqb, ltb}
use borrow.Author.Tests.{eqb-true, eqb-false, eq-eqb, ne_eqb, ltb-true, lt-ltb, le-ltb, not-true}
use Rattle.ledger.specs.Reckon.{worn_by}
use Rattle.pools.specs.Pool.{occurs, Exact}
use Rattle.pools.specs.Lists.{keep}
use Rattle.pools.specs.Slot.{id_of, unused, aged}
use Rattle.pools.proofs.BoolLaws.{split, true_false, same_bool, and_left, and_right}
use Rattle.pools.proofs.ListLaws.{occurs-append, occurs-keep}
use Rattle.pools.proofs.ExactLaws.{exact_same, exact_put, exact_keep}
use Rattle.pools.proofs.SlotLaws.{age_of_id, slot_of_id, id_one}
use Rattle.tables.specs.Limits.{OLDEST}
use Rattle.rules.specs.Aged.{is_worn}
use Rattle.rules.specs.Terms.{joins}
use Rattle.rules.proofs.Lists.Columns.{each_set, other}

-- ---- one word of a column
-- an entry is the written value, or what it was
pub set-cond : (l : List ℕ) (a v b : ℕ) → a < length l → get_or (set l a v) b 0 ≡ cond (eqb b a) v (get_or l b 0)
set-cond l a v b h =
    split (eqb b a) (λ q. rw (q, eqb-true b a q) (get_or-set_same l a v 0 h)) (λ q. rw q (other l a v b q))

-- a word that is not 0 is one of the column
pub used_inside : (l : List ℕ) (i : ℕ) → (get_or l i 0 ≡ 0 → ⊥) → i < length l
used_inside l i d = elim (dec_lt i (length l)) [ yes h ↦ h | no h ↦ absurd (d (get_or-eq_default l 0 (omega arith))) ]

-- a word one up, and down again
pub down : (a : ℕ) → suc a - 1 ≡ a
down a = omega arith

-- a word that is not 0 says b, one up, where it is b + 1
pub one_up : (w b : ℕ) → (w ≡ 0 → ⊥) → eqb (w - 1) b ≡ eqb w (suc b)
one_up w b n =
    same_bool (eqb (w - 1) b) (eqb w (suc b))
    (λ q. eq-eqb w (suc b) (omega (arith, n, eqb-true (w - 1) b q)))
    (λ q. eq-eqb (w - 1) b (omega (arith, eqb-true w (suc b) q)))

-- ---- lists
-- what stands among those that pass stands in the list, and passes
pub keep_in : (p : ℕ → Bool) (l : List ℕ) (e : ℕ) → 0 < occurs e (keep p l) → (0 < occurs e l) × (p e ≡ true)
keep_in p l e o =
    let h : 0 < cond (p e) (occurs e l) 0 = rw (occurs-keep e p l) at o in
    split (p e) (λ q. (rw q at h, q)) (λ q. absurd (let z : 0 < 0 = rw q at h in omega arith))

-- ---- the slots that are worn once the uses of these end
pub worn_keep : (F : ℕ) (ages es : List ℕ) → ((e : ℕ) → 0 < occurs e es → e < F) →
    worn_by F (map (λ e. id_of F (get_or ages e 0) e) es) ≡ keep (λ e. eqb (get_or ages e 0) OLDEST) es
unfolding worn_by keep occurs
worn_keep F ages [] h = refl
worn_keep F ages (x ∷ es) h =
    let here : 0 < bool_byte (eqb x x) + occurs x es = rw (eq-eqb x x refl) (omega arith) in
    let l = h x here in
    let ih = worn_keep F ages es (λ e o. h e (omega arith)) in
    let a = age_of_id F (get_or ages x 0) x l in
    let b = slot_of_id F (get_or ages x 0) x l in
    rw (a, b, ih)

-- ---- a use of slot i begins
module _ (words ages : List ℕ) (i v : ℕ) (l : i < length words) (u : get_or words i 0 ≡ 0) (n : v ≡ 0 → ⊥) where
  -- it comes to the list of those in use
  pub begins : (es : List ℕ) → Exact es (λ j. not (unused words j)) → Exact (es ++ (i ∷ [])) (λ j. not (unused (set words i v) j))
  begins es x =
      exact_put (λ j. not (unused words j)) (λ j. not (unused (set words i v) j)) es i x (rw u)
      (rw (get_or-set_same words i v 0 l, ne_eqb v 0 n)) (λ d n. rw (get_or-set_other words i d v 0 n))

  -- the same slots are worn
  pub worn_begins : (ws : List ℕ) → get_or ages i 0 < OLDEST → Exact ws (is_worn words ages) → Exact ws (is_worn (set words i v) (aged ages i))
  worn_begins ws y x =
      exact_same (is_worn words ages) (is_worn (set words i v) (aged ages i)) ws x (λ e.
      each_set (λ e. is_worn (set words i v) (aged ages i) e ≡ is_worn words ages e) i e
      (rw (get_or-set_same words i v 0 l, ne_eqb v 0 n, u, ne_eqb (get_or ages i 0) OLDEST (λ q. omega arith)))
      (λ q. rw (other words i v e q, other ages i (get_or ages i 0 + 1) e q)))

-- ---- the uses of the slots that pass end
module _ (words words' : List ℕ) (p : ℕ → Bool) (h : (e : ℕ) → get_or words' e 0 ≡ cond (p e) 0 (get_or words e 0)) where
  -- they leave the list of those in use
  pub ends : (es : List ℕ) → Exact es (λ j. not (unused words j)) → Exact (keep (λ e. not (p e)) es) (λ j. not (unused words' j))
  ends es x =
      exact_keep (λ j. not (unused words j)) (λ j. not (unused words' j)) es (λ e. not (p e)) x (λ e.
      rw (h e) (split (p e) (λ q. rw q (split (unused words e) (λ r. rw r) (λ r. rw r))) (λ q. rw q (split (unused words e) (λ r. rw r) (λ r. rw r)))))

  -- a slot is worn that was worn, or whose last use ends
  worn_sum : (ages : List ℕ) (e : ℕ) → bool_byte (is_worn words ages e) + cond (eqb (get_or ages e 0) OLDEST) (cond (p e) (bool_byte (not (unused words e))) 0) 0 ≡ bool_byte (is_worn words' ages e)
  worn_sum ages e =
      rw (h e)
      (split (p e)
      (λ q. rw q (split (unused words e) (λ r. rw r (split (eqb (get_or ages e 0) OLDEST) (λ t. rw t) (λ t. rw t))) (λ r. rw r (split (eqb (get_or ages e 0) OLDEST) (λ t. rw t) (λ t. rw t)))))
      (λ q. rw q (split (unused words e) (λ r. rw r (split (eqb (get_or ages e 0) OLDEST) (λ t. rw t) (λ t. rw t))) (λ r. rw r (split (eqb (get_or ages e 0) OLDEST) (λ t. rw t) (λ t. rw t))))))

  -- and the list of worn slots grows by those whose last use it was
  pub worn_ends : (F : ℕ) (ages es ws : List ℕ) → ((e : ℕ) → 0 < occurs e es → e < F) → Exact es (λ j. not (unused words j)) → Exact ws (is_worn words ages) →
      Exact (ws ++ worn_by F (map (λ e. id_of F (get_or ages e 0) e) (keep p es))) (is_worn words' ages)
  worn_ends F ages es ws f x w e =
      rw (
        worn_keep F ages (keep p es) (λ d o. f d (keep_in p es d o).0),
        occurs-append e ws (keep (λ d. eqb (get_or ages d 0) OLDEST) (keep p es)),
        occurs-keep e (λ d. eqb (get_or ages d 0) OLDEST) (keep p es),
        occurs-keep e p es,
        x e,
        w e,
      )
      (worn_sum ages e)

-- ---- ids and counts
-- ids of one column of ages are the same exactly where the slots are
pub slot_id_eqb : (F : ℕ) (ages : List ℕ) (e i : ℕ) → e < F → i < F → eqb (id_of F (get_or ages e 0) e) (id_of F (get_or ages i 0) i) ≡ eqb e i
slot_id_eqb F ages e i l m =
    same_bool (eqb (id_of F (get_or ages e 0) e) (id_of F (get_or ages i 0) i)) (eqb e i)
    (λ q. eq-eqb e i (id_one F (get_or ages e 0) (get_or ages i 0) e i l m (eqb-true (id_of F (get_or ages e 0) e) (id_of F (get_or ages i 0) i) q)).1)
    (λ q. eq-eqb (id_of F (get_or ages e 0) e) (id_of F (get_or ages i 0) i) (ap (λ (x : ℕ). id_of F (get_or ages x 0) x) (eqb-true e i q)))

-- ---- pairs
-- numbers are the same either way round
pub eqb_sym : (a b : ℕ) → eqb a b ≡ eqb b a
eqb_sym a b = same_bool (eqb a b) (eqb b a) (λ q. eq-eqb b a (sym (eqb-true a b q))) (λ q. eq-eqb a b (sym (eqb-true b a q)))

-- two ends joined are joined the other way round
pub joins_swap : (one two : List ℕ) (a b e : ℕ) → joins one two a b e ≡ joins one two b a e
unfolding joins
joins_swap one two a b e = or_comm (eqb (get_or one e 0) a && eqb (get_or two e 0) b) (eqb (get_or one e 0) b && eqb (get_or two e 0) a)

-- entry d joins the ends of entry j exactly where j joins those of d
pub joins-turn : (one two : List ℕ) (d j : ℕ) → joins one two (get_or one j 0) (get_or two j 0) d ≡ joins one two (get_or one d 0) (get_or two d 0) j
unfolding joins
joins-turn one two d j =
    rw (
      eqb_sym (get_or one d 0) (get_or one j 0),
      eqb_sym (get_or two d 0) (get_or two j 0),
      eqb_sym (get_or one d 0) (get_or two j 0),
      eqb_sym (get_or two d 0) (get_or one j 0),
      and_comm (eqb (get_or two j 0) (get_or one d 0)) (eqb (get_or one j 0) (get_or two d 0)),
    )

-- what an entry's ends are where it joins two
pub joins-ends : (one two : List ℕ) (a b e : ℕ) → joins one two a b e ≡ true →
    ((get_or one e 0 ≡ a) × (get_or two e 0 ≡ b)) ⊎ ((get_or one e 0 ≡ b) × (get_or two e 0 ≡ a))
unfolding joins
joins-ends one two a b e q =
    split (eqb (get_or one e 0) a && eqb (get_or two e 0) b)
    (λ h. inl (eqb-true (get_or one e 0) a (and_left (eqb (get_or one e 0) a) (eqb (get_or two e 0) b) h), eqb-true (get_or two e 0) b (and_right (eqb (get_or one e 0) a) (eqb (get_or two e 0) b) h)))
    (λ h. let r : eqb (get_or one e 0) b && eqb (get_or two e 0) a ≡ true = rw h at q in
    inr (eqb-true (get_or one e 0) b (and_left (eqb (get_or one e 0) b) (eqb (get_or two e 0) a) r), eqb-true (get_or two e 0) a (and_right (eqb (get_or one e 0) b) (eqb (get_or two e 0) a) r)))

-- an entry that is not in use joins no two
pub joins_none : (one two : List ℕ) (a b e : ℕ) → (a ≡ 0 → ⊥) → (b ≡ 0 → ⊥) → get_or one e 0 ≡ 0 → joins one two a b e ≡ false
unfolding joins
joins_none one two a b e p q z = rw (z, ne_eqb 0 a (λ e. p (sym e)), ne_eqb 0 b (λ e. q (sym e)))

-- the ends of another entry than the changed one
pub joins_beside : (one two : List ℕ) (x y a b e d : ℕ) → eqb d e ≡ false → joins (set one e x) (set two e y) a b d ≡ joins one two a b d
unfolding joins
joins_beside one two x y a b e d q = rw (other one e x d q, other two e y d q)

-- "no pair twice"
abbrev pub Pairs : ℕ → List ℕ → List ℕ → Type 0
Pairs n one two = (e : ℕ) → e < n → (get_or one e 0 ≡ 0 → ⊥) → (d : ℕ) → d < e → not (joins one two (get_or one e 0) (get_or two e 0) d) ≡ true

module _ (n : ℕ) (one two : List ℕ) (h : Pairs n one two) where
  -- two entries that join the same two are one
  pub pair_once : (a b d e : ℕ) → d < n → e < n → (a ≡ 0 → ⊥) → (b ≡ 0 → ⊥) → joins one two a b d ≡ true → joins one two a b e ≡ true → d ≡ e
  pair_once a b d e l m p q x y =
      elim (ℕ_discrete d e) [
        | yes z ↦ z
        | no z ↦ elim (dec_lt d e) [
          | yes o ↦ absurd (never d e m o x y)
          | no o ↦ absurd (never e d l (omega arith) y x)
        ]
      ]
    where
      never : (d e : ℕ) → e < n → d < e → joins one two a b d ≡ true → joins one two a b e ≡ true → ⊥
      never d e m o x y =
          let used : get_or one e 0 ≡ 0 → ⊥ = λ z. true_false (joins one two a b e) y (joins_none one two a b e p q z) in
          let f : not (joins one two (get_or one e 0) (get_or two e 0) d) ≡ true = h e m used d o in
          let t : joins one two (get_or one e 0) (get_or two e 0) d ≡ true = ⊎_elim (λ r. rw (r.0, r.1) x) (λ r. rw (r.0, r.1, joins_swap one two b a d) x) (joins-ends one two a b e y) in
          true_false (joins one two (get_or one e 0) (get_or two e 0) d) t (not-true (joins one two (get_or one e 0) (get_or two e 0) d) f)

  -- entry e joins other two, or none, which no other entry in use joins
  pub pairs_set : (e a b : ℕ) → e < length one → e < length two → ((d : ℕ) → d < n → ((a ≡ 0 → ⊥) ⊎ (get_or one d 0 ≡ 0 → ⊥)) → joins one two a b d ≡ false) →
      Pairs n (set one e a) (set two e b)
  pairs_set e a b l m f j i =
      each_set (λ j. j < n → (get_or (set one e a) j 0 ≡ 0 → ⊥) → (d : ℕ) → d < j → not (joins (set one e a) (set two e b) (get_or (set one e a) j 0) (get_or (set two e b) j 0) d) ≡ true) e j
      (λ i u d o. rw (
        get_or-set_same one e a 0 l,
        get_or-set_same two e b 0 m,
        joins_beside one two a b a b e d (ne_eqb d e (λ z. omega arith)),
        f d (omega arith) (inl (λ z. u (get_or-set_same one e a 0 l ∙ z))),
      ))
      (λ q i u d o. let v : get_or one j 0 ≡ 0 → ⊥ = rw (other one e a j q) at u in
      each_set (λ d. d < j → not (joins (set one e a) (set two e b) (get_or (set one e a) j 0) (get_or (set two e b) j 0) d) ≡ true) e d
      (λ o. rw (joins-turn (set one e a) (set two e b) e j, get_or-set_same one e a 0 l, get_or-set_same two e b 0 m)
      (rw (joins_beside one two a b a b e j q, f j i (inr v))))
      (λ r o. rw (joins_beside one two a b (get_or (set one e a) j 0) (get_or (set two e b) j 0) e d r, other one e a j q, other two e b j q) (h j i v d o)) o)
      i

-- an entry in use does not join none
pub joins-zero : (one two : List ℕ) (j : ℕ) → (get_or one j 0 ≡ 0 → ⊥) → joins one two 0 0 j ≡ false
joins-zero one two j u = split (joins one two 0 0 j) (λ t. ⊎_elim (λ r. absurd (u r.0)) (λ r. absurd (u r.0)) (joins-ends one two 0 0 j t)) (λ t. t)

-- ---- the entries below n whose word is v
abbrev pub below : List ℕ → ℕ → ℕ → ℕ → Bool
below words v n e = ltb e n && eqb (get_or words e 0) v

-- what is not n is below n + 1 where it is below n
pub step : (n e : ℕ) → eqb e n ≡ false → ltb e (suc n) ≡ ltb e n
step n e z = same_bool (ltb e (suc n)) (ltb e n) (λ r. lt-ltb e n (omega (arith, ltb-true e (suc n) r, eqb-false e n z))) (λ r. lt-ltb e (suc n) (omega (arith, ltb-true e n r)))

-- none is below 0
pub below_none : (words : List ℕ) (v e : ℕ) → below words v 0 e ≡ false
below_none words v e = rw (le-ltb e 0 (omega arith))

-- one more, which is one of them
pub below_yes : (words : List ℕ) (v n : ℕ) → eqb (get_or words n 0) v ≡ true → (e : ℕ) → below words v n e || eqb e n ≡ below words v (suc n) e
below_yes words v n q e =
    split (eqb e n)
    (λ z. let y : e ≡ n = eqb-true e n z in rw (z, y, q, lt-ltb n (suc n) (omega arith)) (or-true (ltb n n && true)))
    (λ z. rw (z, step n e z) (or-false (below words v n e)))

-- one more, which is none of them
pub below_no : (words : List ℕ) (v n : ℕ) → eqb (get_or words n 0) v ≡ false → (e : ℕ) → below words v n e ≡ below words v (suc n) e
below_no words v n q e =
    split (eqb e n)
    (λ z. let y : e ≡ n = eqb-true e n z in rw (y, q, le-ltb n n (omega arith), lt-ltb n (suc n) (omega arith)))
    (λ z. rw (step n e z))

-- what ends by one test and then by another
pub cond_twice : (p q : Bool) (x : ℕ) → cond q 0 (cond p 0 x) ≡ cond (p || q) 0 x
cond_twice true true x = refl
cond_twice true false x = refl
cond_twice false q x = refl
