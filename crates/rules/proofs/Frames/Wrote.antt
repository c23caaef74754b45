-- What an action leaves alone: the columns that it does not write, and the length of every column.
use Prim.Native.Nat.{ℕ, ◌+◌, ◌-◌, ◌≤◌, ◌<◌}
use mathlib.Core.Path.{◌≡◌, refl, sym, ap, ◌∙◌, fun_ext}
use mathlib.Core.Bool.{Bool, true, false, cond, not, ◌&&◌, ◌||◌}
use mathlib.Core.List.{List, [], ◌∷◌}
use native.Mathlib.Omega.{arith}
use lib.ListN.{length, set, length-set}
use lib.Seq.{take_all, length-sets}
use lib.Dec.{eqb}
use borrow.Author.Tests.{eqb-true, not-true}
use Rattle.pools.specs.Bits.{taken, released}
use Rattle.pools.proofs.BoolLaws.{split, and_left, and_right, true_false, neither}
use Rattle.pools.proofs.FreeLaws.{length_taken, length-released}
use Rattle.tables.specs.declared.Caps.{Caps}
use Rattle.tables.specs.Columns.{PAYLOAD}
use Rattle.tables.specs.State.{Sized, State, head, poke, with_col}
use Rattle.tables.specs.Action.{push, closed, pull, take_bit, free_bit, write}
use Rattle.tables.proofs.LoopLaws.{length-closed}

-- ---- lists of columns
-- c is one of them
abbrev pub mem : ℕ → List ℕ → Bool
mem c [] = false
mem c (d ∷ ds) = eqb c d || mem c ds

-- something is so of each of a list
abbrev pub All : {A : Type 0} → (A → Type 0) → List A → Type 0
All P [] = Unit
All P (x ∷ xs) = P x × All P xs

-- none of the first is one of the second
abbrev pub apart : List ℕ → List ℕ → Bool
apart [] ds = true
apart (c ∷ cs) ds = not (mem c ds) && apart cs ds

-- what is in the first of two lists apart is not in the second
pub apart-at : (cs ds : List ℕ) → apart cs ds ≡ true → (c : ℕ) → mem c cs ≡ true → mem c ds ≡ false
apart-at [] ds e c m = true_false false m refl
apart-at (b ∷ cs) ds e c m =
    split (eqb c b)
    (λ q. rw (eqb-true c b q) (not-true (mem b ds) (and_left (not (mem b ds)) (apart cs ds) e)))
    (λ q. apart-at cs ds (and_right (not (mem b ds)) (apart cs ds) e) c (rw q at m))

-- ---- THE FRAME of an action: t is s but for the columns ws
pub record Beside (ws : List ℕ) (s t : State) : Type 0 where
  pub cols : (c : ℕ) → mem c ws ≡ false → t c ≡ s c

-- and every column is as long as it was
pub record Wrote (ws : List ℕ) (s t : State) : Type 0 where
  pub cols : (c : ℕ) → mem c ws ≡ false → t c ≡ s c
  pub long : (c : ℕ) → length (t c) ≡ length (s c)

-- nothing
pub wrote_none : (s : State) → Wrote [] s s
wrote_none s = record { cols = λ c e. refl; long = λ c. refl }

-- nothing, as it may be any columns
pub wrote_still : (ws : List ℕ) (s : State) → Wrote ws s s
wrote_still ws s = record { cols = λ c e. refl; long = λ c. refl }

-- the columns still have their sizes
pub wrote_sized : {ws : List ℕ} {s t : State} (k : Caps) → Wrote ws s t → Sized k s → Sized k t
wrote_sized {t = t} k w z = record {
  words = λ c h. w.long c ∙ z.words c h;
  bytes = w.long PAYLOAD ∙ z.bytes;
  past = λ c h. sym (take_all 0 (t c) (omega (arith, w.long c, ap length (z.past c h))));
}

-- ---- the columns rs of s, and the others of t
unfoldable pub mixed : List ℕ → State → State → State
mixed rs s t c = cond (mem c rs) (s c) (t c)

-- they are t, where t is s there
pub mixed_is : (rs : List ℕ) {ws : List ℕ} {s t : State} → Wrote ws s t → apart rs ws ≡ true → mixed rs s t ≡ t
unfolding mixed
mixed_is rs {ws = ws} w e = fun_ext (λ c. split (mem c rs) (λ q. rw q (sym (w.cols c (apart-at rs ws e c q)))) (λ q. rw q))

-- ---- the actions on a column, after others
module _ {ws : List ℕ} {s t : State} (w : Wrote ws s t) where
  -- a column anew
  pub wrote_with : (c : ℕ) (l : List ℕ) → length l ≡ length (t c) → Wrote (c ∷ ws) s (with_col t c l)
  unfolding with_col
  wrote_with c l e = record {
    cols = λ d q. rw (neither (eqb d c) (mem d ws) q).0 (w.cols d (neither (eqb d c) (mem d ws) q).1);
    long = λ d. split (eqb d c) (λ q. rw (q, eqb-true d c q) (e ∙ w.long c)) (λ q. rw q (w.long d));
  }

  -- a word
  pub wrote_poke : (c i v : ℕ) → Wrote (c ∷ ws) s (poke t c i v)
  unfolding poke
  wrote_poke c i v = wrote_with c (set (t c) i v) (length-set (t c) i v)

  -- a bit taken
  pub wrote_take : (c e : ℕ) → Wrote (c ∷ ws) s (take_bit t c e)
  unfolding take_bit
  wrote_take c e = wrote_with c (taken (t c) e) (length_taken (t c) e)

  -- and released
  pub wrote_free : (c e : ℕ) → Wrote (c ∷ ws) s (free_bit t c e)
  unfolding free_bit
  wrote_free c e = wrote_with c (released (t c) e) (length-released (t c) e)

  -- bytes
  pub wrote_write : (d i : ℕ) (m : List ℕ) → Wrote (PAYLOAD ∷ ws) s (write t d i m)
  unfolding write
  wrote_write d i m = wrote_with PAYLOAD _ (length-sets (t PAYLOAD) _ m)

-- one joins a list
pub wrote_push : {ws : List ℕ} {s t : State} → Wrote ws s t → (list count v : ℕ) → Wrote (count ∷ list ∷ ws) s (push t list count v)
unfolding push
wrote_push {t = t} w list count v = wrote_poke (wrote_poke w list (head t count) v) count 0 (head t count + 1)

-- one leaves it
pub wrote_pull : {ws : List ℕ} {s t : State} → Wrote ws s t → (list count j : ℕ) → j < head t count → head t count ≤ length (t list) → Wrote (count ∷ list ∷ ws) s (pull t list count j)
unfolding pull
wrote_pull {t = t} w list count j h g =
    wrote_poke (wrote_with w list (closed (head t count) j (t list)) (length-closed (head t count) j (t list) h g)) count 0 (head t count - 1)

-- ---- by cases
-- all of the first are in the second
abbrev pub within : List ℕ → List ℕ → Bool
within [] ds = true
within (c ∷ cs) ds = mem c ds && within cs ds

-- what is not in the second is not in the first
within-at : (cs ds : List ℕ) → within cs ds ≡ true → (c : ℕ) → mem c ds ≡ false → mem c cs ≡ false
within-at [] ds e c m = refl
within-at (b ∷ cs) ds e c m =
    split (eqb c b)
    (λ q. true_false (mem c ds) (rw (eqb-true c b q) (and_left (mem b ds) (within cs ds) e)) m)
    (λ q. rw q (within-at cs ds (and_right (mem b ds) (within cs ds) e) c m))

-- at most the columns vs
pub wrote_within : {ws : List ℕ} {s t : State} (vs : List ℕ) → Wrote ws s t → within ws vs ≡ true → Wrote vs s t
wrote_within {ws = ws} vs w e = record { cols = λ c m. w.cols c (within-at ws vs e c m); long = w.long }

-- two actions, both at most on columns xs
pub wrote_over : (xs : List ℕ) {vs ws : List ℕ} {s t u : State} → Wrote vs s t → Wrote ws t u → within vs xs && within ws xs ≡ true → Wrote xs s u
wrote_over xs {vs = vs} {ws = ws} v w e = record {
  cols = λ c m. w.cols c (within-at ws xs (and_right (within vs xs) (within ws xs) e) c m) ∙ v.cols c (within-at vs xs (and_left (within vs xs) (within ws xs) e) c m);
  long = λ c. w.long c ∙ v.long c;
}

-- one of two
pub wrote_cond : {ws : List ℕ} {s t u : State} (b : Bool) → Wrote ws s t → Wrote ws s u → Wrote ws s (cond b t u)
wrote_cond true v w = v
wrote_cond false v w = w

-- ---- the same of the columns alone, which no action asks a premise for
-- nothing
pub beside_still : (ws : List ℕ) (s : State) → Beside ws s s
beside_still ws s = record { cols = λ c e. refl }

-- what is known with the lengths
pub beside_of : {ws : List ℕ} {s t : State} → Wrote ws s t → Beside ws s t
beside_of w = record { cols = w.cols }

-- at most the columns vs
pub beside_within : {ws : List ℕ} {s t : State} (vs : List ℕ) → Beside ws s t → within ws vs ≡ true → Beside vs s t
beside_within {ws = ws} vs w e = record { cols = λ c m. w.cols c (within-at ws vs e c m) }

-- one after the other
pub beside_over : (xs : List ℕ) {vs ws : List ℕ} {s t u : State} → Beside vs s t → Beside ws t u → within vs xs && within ws xs ≡ true → Beside xs s u
beside_over xs {vs = vs} {ws = ws} v w e = record { cols = λ c m. w.cols c (within-at ws xs (and_right (within vs xs) (within ws xs) e) c m) ∙ v.cols c (within-at vs xs (and_left (within vs xs) (within ws xs) e) c m) }

module _ {ws : List ℕ} {s t : State} (w : Beside ws s t) where
  -- a column anew
  pub beside_with : (c : ℕ) (l : List ℕ) → Beside (c ∷ ws) s (with_col t c l)
  unfolding with_col
  beside_with c l = record { cols = λ d q. rw (neither (eqb d c) (mem d ws) q).0 (w.cols d (neither (eqb d c) (mem d ws) q).1) }

  -- a word
  pub beside_poke : (c i v : ℕ) → Beside (c ∷ ws) s (poke t c i v)
  unfolding poke
  beside_poke c i v = beside_with c (set (t c) i v)

  -- a bit released
  pub beside_free : (c e : ℕ) → Beside (c ∷ ws) s (free_bit t c e)
  unfolding free_bit
  beside_free c e = beside_with c (released (t c) e)

-- one leaves a list
pub beside_pull : {ws : List ℕ} {s t : State} → Beside ws s t → (list count j : ℕ) → Beside (count ∷ list ∷ ws) s (pull t list count j)
unfolding pull
beside_pull {t = t} w list count j = beside_poke (beside_with w list (closed (head t count) j (t list))) count 0 (head t count - 1)
