-- The row of values in a sound state: the data entries that it names are those with a bus, each once.
use Prim.Native.Nat.{ℕ, suc, ◌-◌, ◌≤◌, ◌<◌}
use native.Mathlib.Omega.{arith}
use mathlib.Core.Path.{◌≡◌, sym, ap, ◌∙◌}
use mathlib.Core.Bool.{not}
use mathlib.Core.List.{map}
use lib.ListN.{length, get_or, take, length-map, get_or-eq_default}
use lib.Seq.{get_or-take, length-take-le}
use lib.Dec.{ltb, lit<}
use borrow.Author.Tests.{ne_eqb, ltb-true, ltb-false}
use Rattle.pools.specs.Pool.{Exact, occurs}
use Rattle.pools.specs.Slot.{unused}
use Rattle.pools.proofs.BoolLaws.{flag≤, split}
use Rattle.pools.proofs.ListLaws.{occurs-once, occurs-place, occurs-pos}
use Rattle.tables.specs.declared.Caps.{Caps}
use Rattle.tables.specs.Columns.{ISSUE, ISSUED, VALUE-BUS}
use Rattle.tables.specs.State.{State, at, head}
use Rattle.rules.specs.Agrees.{up_to, values_in}
use Rattle.rules.specs.Buses.{value_at}
use Rattle.rules.specs.Good.{Good}
use Rattle.rules.specs.Sound.{OWNERS}
use Rattle.rules.proofs.Lists.Values.{map_at, map-up_to, up_to-length}
use Rattle.rules.proofs.Kept.Clauses.{issue-some, values-fit}
use Rattle.rules.proofs.Kept.Owners.{held-few, occurs-column, owned, values_exact}
use Rattle.rules.proofs.Reckoned.Ledger.{listed_used}

module _ (k : Caps) (s : State) (g : Good k s) where
  -- its words are no more than there are
  pub row_fits : head s ISSUED ≤ length (s ISSUE)
  row_fits = omega (arith, values-fit g, g.sized.words ISSUE (lit< tt))

  -- the values are its first words, one down
  pub values-row : values_in s ≡ map (λ w. w - 1) (take (head s ISSUED) (s ISSUE))
  values-row = map-up_to (λ w. w - 1) (s ISSUE) (head s ISSUED) row_fits

  -- there are as many as the head says
  pub values_long : length (values_in s) ≡ head s ISSUED
  values_long = length-map (up_to (head s ISSUED)) (value_at s) ∙ up_to-length (head s ISSUED)

  -- the j-th
  pub values-at : (j : ℕ) → j < head s ISSUED → get_or (values_in s) j 0 ≡ value_at s j
  values-at j h =
      rw values-row (map_at (λ w. w - 1) (take (head s ISSUED) (s ISSUE)) j 0 0 (omega (arith, length-take-le (head s ISSUED) (s ISSUE) row_fits))
      ∙ ap (λ (w : ℕ). w - 1) (get_or-take (head s ISSUED) (s ISSUE) j 0 h))

  -- the values are the data entries with a bus, each once
  pub values_listed : Exact (values_in s) (λ d. not (unused (s VALUE-BUS) d))
  values_listed d =
      occurs-column d (s ISSUE) (up_to (head s ISSUED)) (values_exact k s g)
      ∙ split (ltb d k.datas)
      (λ q. g.issued d (ltb-true _ _ q))
      (λ q. let m = ltb-false d k.datas q in
      let z : at s VALUE-BUS d ≡ 0 = get_or-eq_default (s VALUE-BUS) 0 {n = d} (omega (arith, g.sized.words VALUE-BUS (lit< tt))) in
      rw z (omega (arith, held-few k s OWNERS (owned k s g).names d m)))

  -- what stands among them has a bus, and is a data entry
  pub value_used : (d : ℕ) → 0 < occurs d (values_in s) → (at s VALUE-BUS d ≡ 0 → ⊥) × (d < k.datas)
  value_used = listed_used (s VALUE-BUS) (values_in s) k.datas (g.sized.words VALUE-BUS (lit< tt)) values_listed

  -- and what has a bus stands among them
  pub used_value : (d : ℕ) → (at s VALUE-BUS d ≡ 0 → ⊥) → (j : ℕ) × (j < head s ISSUED) × (value_at s j ≡ d)
  used_value d n =
      let p = occurs-place d (values_in s) (rw (values_listed d, ne_eqb (at s VALUE-BUS d) 0 n) (omega arith)) in
      let h : p.0 < head s ISSUED = omega (arith, p.1, values_long) in
      (p.0, h, sym (values-at p.0 h) ∙ p.2)

  -- two of the row are one where their data entries are
  pub value_once : (i j : ℕ) → i < head s ISSUED → j < head s ISSUED → value_at s i ≡ value_at s j → i ≡ j
  value_once i j l m e =
      occurs-once (value_at s j) (values_in s) (omega (arith, values_listed (value_at s j), flag≤ (not (unused (s VALUE-BUS) (value_at s j))))) i j
      (omega (arith, values_long)) (omega (arith, values_long)) (values-at i l ∙ e) (values-at j m)

  -- ---- the j-th of the row
  module _ (j : ℕ) (jl : j < head s ISSUED) where
    -- its word names its data entry
    pub value_at_lem : at s ISSUE j ≡ suc (value_at s j)
    value_at_lem = omega (arith, issue-some g j jl)

    -- that stands among the values
    value_stands : 0 < occurs (value_at s j) (values_in s)
    value_stands = occurs-pos (value_at s j) (values_in s) j (omega (arith, values_long)) (values-at j jl)

    -- it has a bus
    pub value_there : at s VALUE-BUS (value_at s j) ≡ 0 → ⊥
    value_there = (value_used (value_at s j) value_stands).0

    -- it is one of the data entries
    pub value_below : value_at s j < k.datas
    value_below = (value_used (value_at s j) value_stands).1
