-- ONE LAW for what an action leaves sound: the groups of rules that read none of the columns that it writes are passed on by computing.
use Prim.Native.Nat.{ℕ, zero, suc, ◌+◌}
use native.Mathlib.Omega.{arith}
use mathlib.Core.Path.{◌≡◌, refl, sym, ap, subst}
use mathlib.Core.Bool.{Bool, true, false, cond, ◌||◌, or-true}
use mathlib.Core.List.{List, [], ◌∷◌}
use lib.ListN.{length}
use lib.Dec.{eqb}
use borrow.Author.Tests.{eqb-true}
use Rattle.pools.proofs.BoolLaws.{neither, split, true_false}
use Rattle.tables.specs.declared.Caps.{Caps}
use Rattle.tables.specs.Columns.{STATE}
use Rattle.tables.specs.State.{State}
use Rattle.rules.specs.Rule.{Holds}
use Rattle.rules.specs.Terms.{alive}
use Rattle.rules.proofs.Frames.Wrote.{Wrote, apart, apart-at, mem, wrote_sized}
use Rattle.rules.proofs.Kept.Good.{every_of, of_every}
use Rattle.rules.specs.Good.{Good}
use Rattle.rules.proofs.Kept.Groups.{Group, LIVES, groups, pick, reads_at, rule_at, same_at}

-- ---- what is proved anew, group by group
pub data Anew (k : Caps) (t : State) : List ℕ → Type 0 where
  done : Anew k t []
  ◌by◌also◌ : {ns : List ℕ} (n : ℕ) → Holds (rule_at groups n k t) → Anew k t ns → Anew k t (n ∷ ns)

infixr 5 ◌by◌also◌
-- a group that is proved anew holds
anew-at : (k : Caps) (t : State) {ns : List ℕ} → Anew k t ns → (n : ℕ) → mem n ns ≡ true → Holds (rule_at groups n k t)
anew-at k t done n e = true_false false e refl
anew-at k t (◌by◌also◌ m h a) n e =
    split (eqb n m) (λ q. subst (λ (i : ℕ). Holds (rule_at groups i k t)) (sym (eqb-true n m q)) h) (λ q. anew-at k t a n (rw q at e))

-- an entry that is listed unless a test holds
first_none : (b : Bool) (n : ℕ) (l : List ℕ) → cond b l (n ∷ l) ≡ [] → (b ≡ true) × (l ≡ [])
first_none true n l e = (refl, e)
first_none false n l e = absurd (omega (arith, ap (length {A = ℕ}) e))

-- the groups that read a column that was written and are not proved anew
abbrev pub missing : ℕ → List Group → List ℕ → List ℕ → List ℕ
missing n [] ws ns = []
missing n (g ∷ gs) ws ns = cond (mem n ns || apart g.reads ws) (missing (suc n) gs ws ns) (n ∷ missing (suc n) gs ws ns)

-- where there is none, the n-th is proved anew or reads none of them
missing_none : (m : ℕ) (gs : List Group) (ws ns : List ℕ) → missing m gs ws ns ≡ [] → (n : ℕ) → mem (m + n) ns || apart (reads_at gs n) ws ≡ true
missing_none m [] ws ns e n = or-true (mem (m + n) ns)
missing_none m (g ∷ gs) ws ns e zero =
    let z : m + 0 ≡ m = omega arith in rw z (first_none (mem m ns || apart g.reads ws) m (missing (suc m) gs ws ns) e).0
missing_none m (g ∷ gs) ws ns e (suc n) =
    let z : m + suc n ≡ suc m + n = omega arith in
    rw z (missing_none (suc m) gs ws ns (first_none (mem m ns || apart g.reads ws) m (missing (suc m) gs ws ns) e).1 n)

-- a written state column changes who is alive, unless it is shown not to
abbrev pub reach : List ℕ → List ℕ
reach ws = cond (mem STATE ws) (LIVES ∷ ws) ws

-- ---- THE LAW
module _ {ws : List ℕ} {s t : State} (k : Caps) (g : Good k s) (w : Wrote ws s t) {ns : List ℕ} (a : Anew k t ns) where
  -- over columns vs, who is alive among them
  patch_over : (vs : List ℕ) → ((c : ℕ) → mem c vs ≡ false → mem c ws ≡ false) → (mem LIVES vs ≡ false → alive (t STATE) ≡ alive (s STATE)) → missing 0 groups vs ns ≡ [] → Good k t
  patch_over vs i v e = of_every k t g.range (wrote_sized k w g.sized) (λ n.
      split (mem n ns) (anew-at k t a n) (λ q.
      let z : 0 + n ≡ n = omega arith in
      let r : apart (reads_at groups n) vs ≡ true = rw (z, q) at (missing_none 0 groups vs ns e n) in
      same_at groups n k s t
      (record { cols = λ c m. w.cols c (i c (apart-at (reads_at groups n) vs r c m)); who = λ m. v (apart-at (reads_at groups n) vs r LIVES m) })
      (pick groups n k s (every_of k s g))))

  -- where the same are alive
  pub patch_living : alive (t STATE) ≡ alive (s STATE) → missing 0 groups ws ns ≡ [] → Good k t
  patch_living v e = patch_over ws (λ c q. q) (λ q. v) e

  -- in general
  pub patch : missing 0 groups (reach ws) ns ≡ [] → Good k t
  patch e =
      split (mem STATE ws)
      (λ q. patch_over (LIVES ∷ ws) (λ c r. (neither (eqb c LIVES) (mem c ws) r).1) (λ r. true_false true refl r) (rw q at e))
      (λ q. patch_living (ap alive (w.cols STATE q)) (rw q at e))
