-- Two rules that say the same, and a counted list tested in two parts.
use Prim.Native.Nat.{ℕ, ◌≤◌}
use native.Mathlib.Omega.{arith}
use mathlib.Core.Path.{◌≡◌}
use mathlib.Core.List.{List}
use lib.ListN.{get_or}
use Rattle.rules.specs.Rule.{Rule, test, Holds, each, both, imp, lt, le, eq}
use Rattle.rules.specs.Sound.{list_rule}
use Rattle.rules.proofs.Kept.Rules.{reads, same_test}

-- two rules that say the same are tested the same
pub same_rule : (r s : Rule) → (Holds r → Holds s) → (Holds s → Holds r) → test s ≡ test r
same_rule r s f g = same_test s (test r) (λ h. (reads r).1 (g h)) (λ t. f ((reads r).0 t))

module _ (list : List ℕ) (n m : ℕ) where
  -- the words that count, and the others
  pub list_parts : m ≤ n → test (both (each m (λ i. lt (get_or list i 0) n)) (each n (λ i. imp (le m i) (eq (get_or list i 0) 0)))) ≡ test (each n (λ i. list_rule n m list i))
  list_parts b =
      same_rule (each n (λ i. list_rule n m list i)) (both (each m (λ i. lt (get_or list i 0) n)) (each n (λ i. imp (le m i) (eq (get_or list i 0) 0))))
      (λ h. (λ i l. (h i (omega arith)).0 l, λ i l. (h i l).1))
      (λ h i l. (λ k. h.0 i k, h.1 i l))

  -- all of them count
  pub list_whole : n ≤ m → test (each n (λ i. lt (get_or list i 0) n)) ≡ test (each n (λ i. list_rule n m list i))
  list_whole b =
      same_rule (each n (λ i. list_rule n m list i)) (each n (λ i. lt (get_or list i 0) n))
      (λ h i l. (h i l).0 (omega arith))
      (λ h i l. (λ k. h i l, λ k. absurd (omega arith)))

-- the same list by another name
pub list_at : (n : ℕ) {m m' : ℕ} {list list' : List ℕ} → m ≡ m' → list ≡ list' → test (each n (λ i. list_rule n m list i)) ≡ test (each n (λ i. list_rule n m' list' i))
list_at n e q = rw (e, q)
