-- What the actions on a column leave: the other columns, a list, an entry of the payload.
use Prim.Native.Nat.{ℕ, zero, suc, ◌+◌, ◌-◌, ◌*◌, ◌≤◌, ◌<◌}
use native.Mathlib.Numerals.{add-one}
use native.Mathlib.Omega.{arith}
use mathlib.Core.Path.{◌≡◌, refl, sym, ap, ◌∙◌, fun_ext}
use mathlib.Core.Bool.{false}
use mathlib.Core.List.{List, [], ◌∷◌, ◌++◌}
use lib.ListN.{length, get_or, set, take, drop, replicate, length-drop, length-replicate}
use lib.Seq.{length-take-le, take_at, drop_at, take-suc-set, get_or-set_same, get_or-set_other, get_or-drop, sets}
use lib.Dec.{eqb}
use borrow.Author.Tests.{eqb-false, eq-eqb, ne_eqb}
use Rattle.pools.specs.Lists.{without}
use Rattle.pools.proofs.BoolLaws.{split}
use Rattle.pools.proofs.ListLaws.{length_without}
use Rattle.tables.specs.Limits.{ENTRY-BYTES}
use Rattle.tables.specs.declared.Caps.{Caps}
use Rattle.tables.specs.Columns.{PAYLOAD}
use Rattle.tables.specs.State.{Sized, State, at, head, poke, with_col}
use Rattle.tables.specs.Action.{push, closed, pull, write, entry, blank}
use Rattle.tables.proofs.LoopLaws.{sets_append, sets_same, sets_other, sets_all, sets_within, sets_apart, sets_zeros}

-- ---- one column anew
module _ (s : State) (c : ℕ) where
  -- it is the new one
  pub with-same : (l : List ℕ) → with_col s c l c ≡ l
  unfolding with_col
  with-same l = rw (eq-eqb c c refl)

  -- the others are as they were
  pub with-other : (l : List ℕ) (d : ℕ) → eqb d c ≡ false → with_col s c l d ≡ s d
  unfolding with_col
  with-other l d e = rw e

  -- the later of two stays
  pub with_twice : (l m : List ℕ) → with_col (with_col s c l) c m ≡ with_col s c m
  unfolding with_col
  with_twice l m = fun_ext (λ d. split (eqb d c) (λ q. rw q) (λ q. rw q))

  -- a column with a word anew
  pub poke-same : (i v : ℕ) → poke s c i v c ≡ set (s c) i v
  unfolding poke
  poke-same i v = with-same (set (s c) i v)

  -- and the others
  pub poke-other : (i v d : ℕ) → eqb d c ≡ false → poke s c i v d ≡ s d
  unfolding poke
  poke-other i v d e = with-other (set (s c) i v) d e

-- numbers that differ differ the other way round
differ : (a b : ℕ) → eqb a b ≡ false → eqb b a ≡ false
differ a b e = ne_eqb b a (λ q. eqb-false a b e (sym q))

-- ---- a list and its count
module _ (s : State) (list count : ℕ) (apart : eqb list count ≡ false) where
  -- the column once v joined
  pub push_list : (v : ℕ) → push s list count v list ≡ set (s list) (head s count) v
  unfolding push
  push_list v = poke-other _ count 0 (head s count + 1) list apart ∙ poke-same s list (head s count) v

  -- the column once the j-th left
  pub pull_list : (j : ℕ) → pull s list count j list ≡ closed (head s count) j (s list)
  unfolding pull
  pull_list j = poke-other _ count 0 (head s count - 1) list apart ∙ with-same s list (closed (head s count) j (s list))

  -- the count is one up
  pub push-count : (v : ℕ) → length (s count) ≡ 1 → head (push s list count v) count ≡ head s count + 1
  unfolding push
  push-count v e =
      ap (λ (l : List ℕ). get_or l 0 0) (poke-same _ count 0 (head s count + 1))
      ∙ get_or-set_same (poke s list (head s count) v count) 0 (head s count + 1) 0 (rw (poke-other s list (head s count) v count (differ list count apart)) (omega arith))

  -- the count is one down
  pub pull-count : (j : ℕ) → length (s count) ≡ 1 → head (pull s list count j) count ≡ head s count - 1
  unfolding pull
  pull-count j e =
      let l = closed (head s count) j (s list) in
      ap (λ (l : List ℕ). get_or l 0 0) (poke-same _ count 0 (head s count - 1))
      ∙ get_or-set_same (with_col s list l count) 0 (head s count - 1) 0 (rw (with-other s list l count (differ list count apart)) (omega arith))

  -- v is the last of the list
  pub push-joins : (v : ℕ) → length (s count) ≡ 1 → head s count < length (s list)
      → take (head (push s list count v) count) (push s list count v list) ≡ take (head s count) (s list) ++ (v ∷ [])
  push-joins v e h = rw (push-count v e, push_list v, add-one (head s count)) (take-suc-set (s list) (head s count) v h)

  -- words past the list that were 0 are 0
  pub push-past : (v : ℕ) → ((i : ℕ) → head s count ≤ i → at s list i ≡ 0) → (i : ℕ) → head s count < i → at (push s list count v) list i ≡ 0
  push-past v z i h = rw (push_list v) (get_or-set_other (s list) (head s count) i v 0 (λ e. omega arith) ∙ z i (omega arith))

  module _ (j : ℕ) (h : j < head s count) (g : head s count ≤ length (s list)) where
    -- one word fewer is before the 0
    short : length (without j (take (head s count) (s list))) ≡ head s count - 1
    short =
        let e = length-take-le (head s count) (s list) g in
        omega (arith, length_without (take (head s count) (s list)) j (omega arith))

    -- the list is without its j-th
    pub pull_leaves : take (head s count - 1) (pull s list count j list) ≡ without j (take (head s count) (s list))
    pull_leaves = rw (pull_list j) (take_at (without j (take (head s count) (s list))) (0 ∷ drop (head s count) (s list)) (head s count - 1) short)

    -- a 0 and what was past the list are past it
    pub pull_rest : drop (head s count - 1) (pull s list count j list) ≡ 0 ∷ drop (head s count) (s list)
    pull_rest = rw (pull_list j) (drop_at (without j (take (head s count) (s list))) (0 ∷ drop (head s count) (s list)) (head s count - 1) short)

    -- words past the list that were 0 are 0
    pub pull-past : ((i : ℕ) → head s count ≤ i → at s list i ≡ 0) → (i : ℕ) → head s count - 1 ≤ i → at (pull s list count j) list i ≡ 0
    pull-past z i l =
        let n = head s count in
        let e : i ≡ n - 1 + (i - (n - 1)) = omega arith in
        ap (λ (x : ℕ). at (pull s list count j) list x) e ∙ sym (get_or-drop (n - 1) (pull s list count j list) (i - (n - 1)) 0) ∙ rw pull_rest (zeros (i - (n - 1)))
      where
        -- a 0, and then what was past the list
        zeros : (m : ℕ) → get_or (0 ∷ drop (head s count) (s list)) m 0 ≡ 0
        zeros zero = refl
        zeros (suc m) = get_or-drop (head s count) (s list) m 0 ∙ z (head s count + m) (omega arith)

-- ---- the bytes of an entry
module _ (s : State) (d : ℕ) where
  -- the payload once bytes were written
  pub write-payload : (i : ℕ) (m : List ℕ) → write s d i m PAYLOAD ≡ sets (s PAYLOAD) (ENTRY-BYTES * d + i) m
  unfolding write
  write-payload i m = with-same s PAYLOAD (sets (s PAYLOAD) (ENTRY-BYTES * d + i) m)

  -- bytes written into an entry
  pub write-entry : (i : ℕ) (m : List ℕ) → i + length m ≤ ENTRY-BYTES → entry (write s d i m) d ≡ sets (entry s d) i m
  write-entry i m h = rw (write-payload i m) (sets_within (s PAYLOAD) (ENTRY-BYTES * d) ENTRY-BYTES i m h)

  -- leave every other entry as it was
  pub write-apart : (i : ℕ) (m : List ℕ) (e : ℕ) → i + length m ≤ ENTRY-BYTES → (e ≡ d → ⊥) → entry (write s d i m) e ≡ entry s e
  write-apart i m e h q = rw (write-payload i m) (sets_apart (s PAYLOAD) (ENTRY-BYTES * e) ENTRY-BYTES (ENTRY-BYTES * d + i) m (λ j n b o p. q (omega arith)))

  -- end to end
  pub write-append : (i : ℕ) (m n : List ℕ) → write (write s d i m) d (i + length m) n ≡ write s d i (m ++ n)
  unfolding write
  write-append i m n = rw (with-same s PAYLOAD (sets (s PAYLOAD) (ENTRY-BYTES * d + i) m), with_twice s PAYLOAD (sets (s PAYLOAD) (ENTRY-BYTES * d + i) m), sets_append (s PAYLOAD) (ENTRY-BYTES * d + i) m n) (ap (λ (j : ℕ). with_col s PAYLOAD (sets (sets (s PAYLOAD) (ENTRY-BYTES * d + i) m) j n)) (omega arith))

  -- an entry has all its bytes
  pub length-entry : (k : Caps) → Sized k s → d < k.datas → length (entry s d) ≡ ENTRY-BYTES
  length-entry k z h = length-take-le ENTRY-BYTES (drop (ENTRY-BYTES * d) (s PAYLOAD)) (rw length-drop (omega (arith, z.bytes)))

  -- a byte that was written
  pub write_byte : (i : ℕ) (m : List ℕ) (j : ℕ) → i + length m ≤ ENTRY-BYTES → length (entry s d) ≡ ENTRY-BYTES → j < length m → get_or (entry (write s d i m) d) (i + j) 0 ≡ get_or m j 0
  write_byte i m j h l g = rw (write-entry i m h) (sets_same (entry s d) i m j (omega arith) g)

  -- a byte before or after them
  pub write_around : (i : ℕ) (m : List ℕ) (j : ℕ) → i + length m ≤ ENTRY-BYTES → ((n : ℕ) → n < length m → j ≡ i + n → ⊥) → get_or (entry (write s d i m) d) j 0 ≡ get_or (entry s d) j 0
  write_around i m j h q = rw (write-entry i m h) (sets_other (entry s d) i m j q)

  -- an entry written whole
  pub write-whole : (m : List ℕ) → length m ≡ ENTRY-BYTES → length (entry s d) ≡ ENTRY-BYTES → entry (write s d 0 m) d ≡ m
  write-whole m h l = write-entry 0 m (omega arith) ∙ sets_all (entry s d) m (omega arith)

  -- a blank entry is all zero
  pub blank-entry : length (entry s d) ≡ ENTRY-BYTES → entry (blank s d) d ≡ replicate ENTRY-BYTES 0
  blank-entry l = write-whole (replicate ENTRY-BYTES 0) (length-replicate {A = ℕ} ENTRY-BYTES 0) l

  -- bytes written from byte 0 of such an entry on, and zeros after them
  pub write-blank : (m : List ℕ) → length m ≤ ENTRY-BYTES → entry s d ≡ replicate ENTRY-BYTES 0 → entry (write s d 0 m) d ≡ m ++ replicate (ENTRY-BYTES - length m) 0
  write-blank m h e = write-entry 0 m (omega arith) ∙ ap (λ (l : List ℕ). sets l 0 m) e ∙ sets_zeros ENTRY-BYTES m h
