-- The owners of data entries, over any list of their columns: laws of one owner's word, to which what the other words name is no matter.
use Prim.Native.Nat.{ℕ, zero, suc, ◌+◌, ◌-◌, ◌/◌, ◌≤◌, ◌<◌}
use native.Mathlib.Decide.{dec_lt}
use native.Mathlib.Nat.{le_of_suc-le-suc}
use native.Mathlib.Omega.{arith}
use mathlib.Core.Path.{◌≡◌, refl, sym, ap, ◌∙◌}
use mathlib.Core.Bool.{Bool, true, false, cond, not, ◌&&◌}
use mathlib.Core.List.{List, [], ◌∷◌, map}
use mir.Val.{bool_byte}
use lib.ListN.{length, get_or, set, length-append, length-map, get_or-eq_default}
use lib.Seq.{length-take-le, take-length}
use lib.Dec.{eqb, ltb, lit<}
use borrow.Author.Tests.{eqb-true, eqb-false, eq-eqb, ne_eqb, ltb-false, ltb-true, not-true}
use Rattle.ledger.specs.Lists.{total}
use Rattle.pools.specs.Pool.{Exact, occurs}
use Rattle.pools.specs.Bits.{WORD-BITS, free, released, taken}
use Rattle.pools.specs.Lists.{keep}
use Rattle.pools.specs.Slot.{unused}
use Rattle.pools.proofs.BoolLaws.{split, flag≤, neither, true_false}
use Rattle.pools.proofs.PoolLaws.{count_same}
use Rattle.pools.proofs.ListLaws.{occurs-append, occurs-count, occurs-place}
use Rattle.pools.proofs.ExactLaws.{exact_keep, exact_length, exact_same, exact_used}
use Rattle.pools.proofs.FreeLaws.{free_inside, released-other, released-same, taken-other, taken-same}
use Rattle.tables.specs.declared.Caps.{Caps}
use Rattle.tables.specs.Columns.{ARRIVAL, ARRIVED, DATA-FREE, HAND, ISSUE, ISSUED, MAIL-DATA, MAIL-FREE, REST, VALUE-BUS}
use Rattle.tables.specs.State.{State, at, head, poke, size}
use Rattle.tables.proofs.ActionLaws.{poke-other, poke-same}
use Rattle.rules.specs.Rule.{Holds}
use Rattle.rules.specs.Sound.{OWNERS, held, plain_rules, sound_at}
use Rattle.rules.specs.Agrees.{arrivals, named, owners, up_to, used_data, used_mail}
use Rattle.rules.proofs.Lists.Columns.{alive-below, alive-of, each_set, listed_exact, listed_room, other}
use Rattle.rules.proofs.Lists.Ties.{one_up}
use Rattle.rules.proofs.Frames.Wrote.{All, mem, wrote_none, wrote_poke}
use Rattle.rules.proofs.Kept.Good.{of_good}
use Rattle.rules.specs.Good.{Good}
use Rattle.rules.proofs.Kept.Clauses.{arrivals-fit, issue-some}
use Rattle.rules.proofs.Lists.Values.{occurs-map, up_to_exact}

-- ---- how often a number stands
-- how often a number stands in a column once a word is written
pub occurs-set : (x : ℕ) (l : List ℕ) (i v : ℕ) → i < length l → occurs x (set l i v) + bool_byte (eqb (get_or l i 0) x) ≡ occurs x l + bool_byte (eqb v x)
unfolding occurs
occurs-set x [] i v h = absurd (omega arith)
occurs-set x (y ∷ l) zero v h = omega arith
occurs-set x (y ∷ l) (suc i) v h = omega (arith, occurs-set x l i v (le_of_suc-le-suc h))

-- the entries in use of a column name a number as often as it stands there, one up
pub occurs-column : (d : ℕ) (col es : List ℕ) → Exact es (λ e. not (unused col e)) → occurs d (map (λ e. get_or col e 0 - 1) es) ≡ occurs (suc d) col
occurs-column d col es x =
    let n = length col in
    let v : ℕ → Bool = λ e. not (unused col e) && eqb (get_or col e 0 - 1) d in
    occurs-map d (λ e. get_or col e 0 - 1) es
    ∙ exact_length v n (keep (λ e. eqb (get_or col e 0 - 1) d) es) (λ e l. rw (get_or-eq_default col 0 {n = e} l)) (exact_keep (λ e. not (unused col e)) v es (λ e. eqb (get_or col e 0 - 1) d) x (λ e. refl))
    ∙ count_same (λ i. eqb (get_or col i 0) (suc d)) v n (λ e l. flags (get_or col e 0))
    ∙ sym (occurs-count (suc d) col n (omega arith))
    ∙ ap (occurs (suc d)) (take-length col)
  where
    -- a word one up from d, as a test of what it names
    flags : (w : ℕ) → not (eqb w 0) && eqb (w - 1) d ≡ eqb w (suc d)
    flags w =
        split (eqb w 0) (λ q. let e = eqb-true w 0 q in rw (q, ne_eqb w (suc d) (λ r. omega arith)))
        (λ q. rw q (one_up w d (eqb-false w 0 q)))

-- an entry in use holds a number
pub owner_some : (col es : List ℕ) → Exact es (λ e. not (unused col e)) → (e : ℕ) → 0 < occurs e es → 1 ≤ get_or col e 0
owner_some col es x e o = let n = eqb-false (get_or col e 0) 0 (not-true (unused col e) (exact_used (λ e. not (unused col e)) es e x o)) in omega arith

-- ---- lists of owners
-- c is one of the columns, and stands there once
abbrev pub sole : ℕ → List ℕ → Bool
sole c [] = false
sole c (b ∷ bs) = cond (eqb c b) (not (mem c bs)) (sole c bs)

-- what is so of each is so of such a one
pub all-sole : (P : ℕ → Type 0) (cs : List ℕ) → All P cs → (c : ℕ) → sole c cs ≡ true → P c
all-sole P [] a c o = true_false false o refl
all-sole P (b ∷ cs) a c o = split (eqb c b) (λ q. rw (eqb-true c b q) a.0) (λ q. all-sole P cs a.1 c (rw q at o))

-- ---- a word of one owner anew
-- of a column that is none of them: nothing changes
held_beside : (cs : List ℕ) (s : State) (c e v d : ℕ) → mem c cs ≡ false → held cs (poke s c e v) d ≡ held cs s d
held_beside [] s c e v d q = refl
held_beside (b ∷ cs) s c e v d q =
    let n = neither (eqb c b) (mem c cs) q in
    rw (poke-other s c e v b (ne_eqb b c (λ z. eqb-false c b n.0 (sym z))), held_beside cs s c e v d n.1)

-- THE LAW: what the owners name changes by the old word and the new
pub held-poke : (cs : List ℕ) (s : State) (c e v d : ℕ) → sole c cs ≡ true → e < length (s c) →
    held cs (poke s c e v) d + bool_byte (eqb (at s c e) (suc d)) ≡ held cs s d + bool_byte (eqb v (suc d))
held-poke [] s c e v d o l = true_false false o refl
held-poke (b ∷ cs) s c e v d o l =
    split (eqb c b)
    (λ q. let z : b ≡ c = sym (eqb-true c b q) in
    rw (z, poke-same s c e v, held_beside cs s c e v d (not-true (mem c cs) (rw q at o))) (omega (arith, occurs-set (suc d) (s c) e v l)))
    (λ q. rw (poke-other s c e v b (ne_eqb b c (λ z. eqb-false c b q (sym z)))) (omega (arith, held-poke cs s c e v d (rw q at o) l)))

-- 0 is no number one up
pub zero_no_up : (d : ℕ) → bool_byte (eqb 0 (suc d)) ≡ 0
zero_no_up d = rw (ne_eqb 0 (suc d) (λ e. omega arith))

-- numbers one up are the same where the numbers are
up : (d x : ℕ) → bool_byte (eqb (suc d) (suc x)) ≡ bool_byte (eqb x d)
up d x = split (eqb x d) (λ q. rw (q, eqb-true x d q, eq-eqb (suc d) (suc d) refl)) (λ q. rw (q, ne_eqb (suc d) (suc x) (λ z. eqb-false x d q (omega arith))))

-- a word that named d names none: d is named once less
held-clear : (cs : List ℕ) (s : State) (c e d x : ℕ) → sole c cs ≡ true → e < length (s c) → at s c e ≡ suc d → held cs (poke s c e 0) x + bool_byte (eqb x d) ≡ held cs s x
held-clear cs s c e d x o l q = let p = rw (q, up d x) at (held-poke cs s c e 0 x o l) in omega (arith, p, zero_no_up x)

-- a word that named none names d: it is named once more
held-fill : (cs : List ℕ) (s : State) (c e d x : ℕ) → sole c cs ≡ true → e < length (s c) → at s c e ≡ 0 → held cs (poke s c e (suc d)) x ≡ held cs s x + bool_byte (eqb x d)
held-fill cs s c e d x o l q = let p = rw (q, up d x) at (held-poke cs s c e (suc d) x o l) in omega (arith, p, zero_no_up x)

-- every other word is as it was
pub poke_else : (s : State) (c e v b f : ℕ) → eqb b c && eqb f e ≡ false → at (poke s c e v) b f ≡ at s b f
poke_else s c e v b f q =
    split (eqb b c)
    (λ z. rw (eqb-true b c z, poke-same s c e v) (other (s c) e v f (rw z at q)))
    (λ z. rw (poke-other s c e v b z))

-- ---- the data entries that lists of entries name
-- each list has the entries in use of its column: then they name what the columns name
pub named-held : (s : State) (os : List (ℕ × List ℕ)) → All (λ o. Exact o.1 (λ e. not (unused (s o.0) e))) os → (d : ℕ) → occurs d (named s os) ≡ held (map (λ o. o.0) os) s d
unfolding occurs
named-held s [] x d = refl
named-held s (o ∷ os) x d = occurs-append d (map (λ e. at s o.0 e - 1) o.1) (named s os) ∙ rw (occurs-column d (s o.0) o.1 x.0, named-held s os x.1 d)

-- as many as there are entries
pub named-length : (s : State) (os : List (ℕ × List ℕ)) → length (named s os) ≡ total (map (λ o. length o.1) os)
named-length s [] = refl
named-length s (o ∷ os) = length-append (map (λ e. at s o.0 e - 1) o.1) (named s os) ∙ rw (length-map o.1 (λ e. at s o.0 e - 1), named-length s os)

-- ---- each data entry is held once, or is free
-- the owners cs name what is not free once, and what is free never
abbrev pub Held : ℕ → List ℕ → State → List ℕ → Type 0
Held n cs s df = (d : ℕ) → d < n → held cs s d ≡ bool_byte (not (free df d))

-- the words of column c name data entries
abbrev pub Names : Caps → State → ℕ → Type 0
Names k s c = (e : ℕ) → e < length (s c) → at s c e ≤ k.datas

-- what is known of owners
pub record Owned (k : Caps) (cs : List ℕ) (s : State) : Type 0 where
  pub names : All (Names k s) cs
  pub once : Held k.datas cs s (s DATA-FREE)
  pub bits : (d : ℕ) → d < k.datas → d / WORD-BITS < length (s DATA-FREE)

-- the words of every owner name data entries: a line for each, by its rule
pub owners_name : (k : Caps) (s : State) → ((c : ℕ) → c < REST → length (s c) ≡ size k c) → Holds (plain_rules k s) → All (Names k s) OWNERS
unfolding plain_rules
owners_name k s long h = (
  λ e l. let r = (h.1.1.0.1 e (omega (arith, long MAIL-DATA (lit< tt)))).0 in split (free (s MAIL-FREE) e) (λ q. omega (arith, (r.0 q).1)) (λ q. (r.1 (rw q)).1.1),
  (
    λ a l. (h.1.1.0.0 a (omega (arith, long HAND (lit< tt)))).0.0.1.1,
    (λ i l. let r = h.1.1.1.1.1.1.1 i (omega (arith, long ISSUE (lit< tt))) in split (ltb i (head s ISSUED)) (λ q. (r.0 (ltb-true _ _ q)).1) (λ q. omega (arith, r.1 (ltb-false _ _ q))), tt),
  ),
)

-- in a sound state all this is so
pub owned : (k : Caps) (s : State) → Good k s → Owned k OWNERS s
unfolding sound_at
owned k s g = record {
  names = owners_name k s g.sized.words (of_good k s g).1.0;
  once = g.held;
  bits = λ d l. omega (arith, g.range.few_datas, g.sized.words DATA-FREE (lit< tt));
}

-- no number past the last data entry is named
pub held-few : (k : Caps) (s : State) (cs : List ℕ) → All (Names k s) cs → (d : ℕ) → k.datas ≤ d → held cs s d ≡ 0
held-few k s [] a d h = refl
held-few k s (c ∷ cs) a d h =
    elim (dec_lt 0 (occurs (suc d) (s c))) [
      | yes o ↦ let p = occurs-place (suc d) (s c) o in absurd (omega (arith, p.2, a.0 p.0 p.1))
      | no o ↦ omega (arith, held-few k s cs a.1 d h)
    ]

-- ---- THE LAWS of owners
module _ {k : Caps} {cs : List ℕ} {s : State} (w : Owned k cs s) where
  -- the data entries that they name are those in use, each once
  pub datas_exact : (os : List (ℕ × List ℕ)) → map (λ o. o.0) os ≡ cs → All (λ o. Exact o.1 (λ e. not (unused (s o.0) e))) os → Exact (named s os) (used_data k s)
  datas_exact os q x d =
      named-held s os x d ∙ ap (λ (cs : List ℕ). held cs s d) q
      ∙ split (ltb d k.datas) (λ q. rw q (w.once d (ltb-true d k.datas q))) (λ q. rw q (held-few k s cs w.names d (ltb-false d k.datas q)))

  -- ---- word e of owner c
  module _ (c e : ℕ) (o : sole c cs ≡ true) where
    -- it names data entry d
    module _ (d : ℕ) (h : at s c e ≡ suc d) where
      -- it is one of the words
      pub owner_in : e < length (s c)
      owner_in = alive-below (s c) e (alive-of (s c) e (λ z. omega arith))

      -- d is one of the data entries
      pub owner_below : d < k.datas
      owner_below = omega (arith, h, all-sole (Names k s) cs w.names c o e owner_in)

      -- without it the owners name d once less: never
      never : held cs (poke s c e 0) d + 1 ≡ bool_byte (not (free (s DATA-FREE) d))
      never = rw (eq-eqb d d refl) at (held-clear cs s c e d d o owner_in h) ∙ w.once d owner_below

      -- d is not free
      pub owner_used : free (s DATA-FREE) d ≡ false
      owner_used = split (free (s DATA-FREE) d) (λ f. absurd (omega (arith, rw f at never))) (λ f. f)

      -- no other word of an owner names it
      pub owner_else : (b f : ℕ) → sole b cs ≡ true → 1 ≤ at s b f → eqb b c && eqb f e ≡ false → eqb (at s b f - 1) d ≡ false
      owner_else b f p n z =
          let m = alive-below (s b) f (alive-of (s b) f (λ y. omega arith)) in
          ne_eqb (at s b f - 1) d (λ y.
          let t = rw (eq-eqb d d refl) at (held-clear cs (poke s c e 0) b f d d p (rw ((wrote_poke (wrote_none s) c e 0).long b) m) (poke_else s c e 0 b f z ∙ omega arith)) in
          omega (arith, t, never, flag≤ (not (free (s DATA-FREE) d))))

      -- it gives it up
      pub owner_free : Held k.datas cs (poke s c e 0) (released (s DATA-FREE) d)
      owner_free x l =
          each_set (λ x. x < k.datas → held cs (poke s c e 0) x ≡ bool_byte (not (free (released (s DATA-FREE) d) x))) d x
          (λ l. rw (released-same (s DATA-FREE) d (w.bits d l)) (omega (arith, never, flag≤ (not (free (s DATA-FREE) d)))))
          (λ r l. rw (released-other (s DATA-FREE) d x (eqb-false x d r)) (omega (arith, rw r at (held-clear cs s c e d x o owner_in h), w.once x l))) l

      -- it hands it on to a word of an owner that names none
      pub owner_pass : (b f : ℕ) → sole b cs ≡ true → f < length (s b) → at s b f ≡ 0 → eqb b c && eqb f e ≡ false → Held k.datas cs (poke (poke s c e 0) b f (suc d)) (s DATA-FREE)
      owner_pass b f p m r z x l =
          held-fill cs (poke s c e 0) b f d x p (rw ((wrote_poke (wrote_none s) c e 0).long b) m) (poke_else s c e 0 b f z ∙ r) ∙ held-clear cs s c e d x o owner_in h ∙ w.once x l

    -- it names none, and takes one that is free
    pub owner_take : e < length (s c) → at s c e ≡ 0 → (d : ℕ) → free (s DATA-FREE) d ≡ true → Held k.datas cs (poke s c e (suc d)) (taken (s DATA-FREE) d)
    owner_take m z d f x l =
        each_set (λ x. x < k.datas → held cs (poke s c e (suc d)) x ≡ bool_byte (not (free (taken (s DATA-FREE) d) x))) d x
        (λ l. rw (taken-same (s DATA-FREE) d (free_inside (s DATA-FREE) d f)) (omega (arith, rw (eq-eqb d d refl) at (held-fill cs s c e d d o m z), rw f at (w.once d l))))
        (λ r l. rw (taken-other (s DATA-FREE) d x (eqb-false x d r)) (omega (arith, rw r at (held-fill cs s c e d x o m z), w.once x l))) l

    -- none names a data entry that is free
    pub owner_fresh : 1 ≤ at s c e → (d : ℕ) → free (s DATA-FREE) d ≡ true → eqb (at s c e - 1) d ≡ false
    owner_fresh n d f = ne_eqb (at s c e - 1) d (λ z. true_false (free (s DATA-FREE) d) f (owner_used d (omega arith)))

-- ---- the owners of a sound state
module _ (k : Caps) (s : State) (g : Good k s) where
  -- there are as many arrivals as the head says
  pub arrivals_long : length (arrivals s) ≡ at s ARRIVED 0
  arrivals_long = length-take-le (at s ARRIVED 0) (s ARRIVAL) (omega (arith, arrivals-fit g, g.sized.words ARRIVAL (lit< tt)))

  -- the arrivals are the mailbox entries in use, each once
  pub boxes_exact : Exact (arrivals s) (used_mail k s)
  boxes_exact = listed_exact k.mails (at s ARRIVED 0) (s ARRIVAL) (arrivals-fit g) (g.sized.words ARRIVAL (lit< tt)) g.arrivals (λ e. not (free (s MAIL-FREE) e)) g.arrived

  -- where an entry is free the arrivals have room
  pub arrivals_room : (e : ℕ) → e < k.mails → free (s MAIL-FREE) e ≡ true → at s ARRIVED 0 < k.mails
  arrivals_room e l f =
      listed_room k.mails (at s ARRIVED 0) (s ARRIVAL) (arrivals-fit g) (g.sized.words ARRIVAL (lit< tt)) g.arrivals (λ e. not (free (s MAIL-FREE) e))
      e l (rw f) g.arrived

  -- a column of which just the entries in use hold a number: these have arrived
  pub column-arrived : (col : List ℕ) → length col ≡ k.mails → ((e : ℕ) → e < k.mails → free (s MAIL-FREE) e ≡ true → get_or col e 0 ≡ 0) →
      ((e : ℕ) → e < k.mails → not (free (s MAIL-FREE) e) ≡ true → 1 ≤ get_or col e 0) → Exact (arrivals s) (λ e. not (unused col e))
  column-arrived col long rest used =
      exact_same (used_mail k s) (λ e. not (unused col e)) (arrivals s) boxes_exact (λ e. split (ltb e k.mails)
      (λ b. let l = ltb-true e k.mails b in rw b (split (free (s MAIL-FREE) e)
      (λ q. rw (q, rest e l q))
      (λ q. let p = used e l (rw q) in rw (q, ne_eqb (get_or col e 0) 0 (λ z. omega arith)))))
      (λ b. let m = ltb-false e k.mails b in rw (b, get_or-eq_default col 0 {n = e} (omega arith))))

  -- so the queued messages are an owner's entries in use
  pub datas-arrived : Exact (arrivals s) (λ e. not (unused (s MAIL-DATA) e))
  datas-arrived = column-arrived (s MAIL-DATA) (g.sized.words MAIL-DATA (lit< tt)) (λ e l q. ((g.mails e l).0 q).1) (λ e l q. ((g.mails e l).1 q).1.0)

  -- past the values the words of their row are 0
  pub unissued : (i : ℕ) → at s ISSUED 0 ≤ i → at s ISSUE i ≡ 0
  unissued i h =
      split (ltb i k.datas) (λ q. (g.issues i (ltb-true _ _ q)).1 h)
      (λ q. get_or-eq_default (s ISSUE) 0 {n = i} (omega (arith, ltb-false i k.datas q, g.sized.words ISSUE (lit< tt))))

  -- the words of the row of values that count are an owner's entries in use
  pub values_exact : Exact (up_to (at s ISSUED 0)) (λ i. not (unused (s ISSUE) i))
  values_exact i =
      up_to_exact (at s ISSUED 0) i
      ∙ split (ltb i (at s ISSUED 0))
      (λ q. rw (q, ne_eqb (at s ISSUE i) 0 (λ z. omega (arith, issue-some g i (ltb-true i (at s ISSUED 0) q)))))
      (λ q. rw (q, unissued i (ltb-false i (at s ISSUED 0) q)))

  -- THE LAW: the data entries in use are those that the owners name, each once; every owner has its entries in use
  pub all-datas : (palms : List ℕ) → Exact palms (λ a. not (unused (s HAND) a)) → Exact (named s (owners s palms)) (used_data k s)
  all-datas palms x = datas_exact (owned k s g) (owners s palms) refl (datas-arrived, (x, (values_exact, tt)))

  -- a value is in the row of values
  value_issued : (d : ℕ) → d < k.datas → (at s VALUE-BUS d ≡ 0 → ⊥) → (i : ℕ) × (at s ISSUE i ≡ suc d)
  value_issued d l n = let p = occurs-place (suc d) (s ISSUE) (rw (g.issued d l, ne_eqb (at s VALUE-BUS d) 0 n) (omega arith)) in (p.0, p.2)

  -- THE LAW: a data entry that is free has none
  pub free_no_value : (d : ℕ) → d < k.datas → free (s DATA-FREE) d ≡ true → at s VALUE-BUS d ≡ 0
  free_no_value d l f =
      split (eqb (at s VALUE-BUS d) 0) (λ q. eqb-true _ _ q)
      (λ q. let (i, r) = value_issued d l (eqb-false _ _ q) in
      true_false (free (s DATA-FREE) d) f (owner_used (owned k s g) ISSUE i refl d r))
