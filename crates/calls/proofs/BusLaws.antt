-- What the calls on buses turn on.
use Prim.Native.Nat.{ℕ, ◌+◌, ◌-◌, ◌*◌, ◌≤◌, ◌<◌}
use mathlib.Core.Path.{◌≡◌, sym, ap, ◌∙◌}
use mathlib.Core.Bool.{Bool, true, false, cond, not}
use mathlib.Core.List.{List, [], ◌++◌}
use native.Mathlib.Nat.{zero-add}
use native.Mathlib.Omega.{arith}
use lib.Dec.{eqb, ltb}
use lib.ListN.{length, take, drop, length-drop}
use lib.Seq.{drop_at, length-sets, length-take-le, sets, sets-eq, take_at}
use Rattle.tables.specs.declared.Caps.{Caps}
use Rattle.tables.specs.Columns.{LENGTH}
use Rattle.tables.specs.Limits.{ENTRY-BYTES, HEADER-BYTES, PAYLOAD-MOST}
use Rattle.tables.specs.State.{Room, State, at, view}
use Rattle.tables.proofs.ViewLaws.{payload-part}
use Rattle.rules.specs.Buses.{sits, unread_length, value_of}
use Rattle.rules.specs.Calls.{copy, out, read_entry, refusal, ruled}
use Rattle.rules.specs.Calls.Shape.{a_copy}
use Rattle.rules.specs.Host.{Onto}
use Rattle.rules.specs.Terms.{runner}
use Rattle.rules.proofs.Guards.{passed_work}
use Rattle.calls.specs.Parts.{after_tests}

-- ---- what a read comes to where the slice is long enough
-- of three tests the third says yes
third_yes : {A : Type 0} (a b c : Bool) (x y z w : A) → a ≡ false → b ≡ false → c ≡ true → cond a x (cond b y (cond c z w)) ≡ z
third_yes a b c x y z w e f g = rw (e, f, g)

module _ (k : Caps) (s : State) (b room : ℕ) (runs : eqb (runner s) 0 ≡ false) (fits : ltb room (unread_length s b (runner s)) ≡ false) where
  -- the running actor is not subscribed
  pub read_unseated : sits s b (runner s) ≡ false → ruled (read_entry b room) k s ≡ out (copy 3 []) s
  unfolding ruled
  read_unseated q =
      third_yes (eqb (runner s) 0) (ltb room (unread_length s b (runner s))) (not (sits s b (runner s))) (out (copy 4 []) s) (out (copy 1 []) s) (out (copy 3 []) s)
      ((read_entry b room).work k s) runs fits (ap not q)

  -- it is
  pub read-seated : sits s b (runner s) ≡ true → ruled (read_entry b room) k s ≡ after_tests 3 (read_entry b room) k s
  unfolding ruled
  read-seated q = passed_work (refusal a_copy) s ((read_entry b room).work k s) ((read_entry b room).tests k s) (runs, (fits, (ap not q, record {})))

-- ---- bytes copied to the front of a lent slice
pub copied : (m l : List ℕ) (n : ℕ) → length m ≡ n → n ≤ length l → (take n (sets l 0 m) ≡ m) × Onto n l (sets l 0 m)
copied m l n e h =
    let s : sets l 0 m ≡ m ++ drop n l = sets-eq m l 0 (omega arith) ∙ ap (λ (i : ℕ). m ++ drop i l) (zero-add (length m) ∙ e) in
    (ap (take n) s ∙ take_at m (drop n l) n e, (h, length-sets l 0 m, ap (drop n) s ∙ drop_at m (drop n l) n e))

-- ---- the payload of data entry d lies there
pub payload_there : (k : Caps) (w p : List ℕ) (d : ℕ) → Room k w p → d < k.datas → at (view k w p) LENGTH d ≤ PAYLOAD-MOST →
    let from = ENTRY-BYTES * d + HEADER-BYTES in
    let n = at (view k w p) LENGTH d in
    let m = take (from + n - from) (drop from p) in
    (m ≡ value_of (view k w p) d) × (length m ≡ n)
payload_there k w p d r h few =
    let from = ENTRY-BYTES * d + HEADER-BYTES in
    let n = at (view k w p) LENGTH d in
    let same : from + n - from ≡ n = omega arith in
    rw same (sym (payload-part k w p from n (omega arith)), length-take-le n (drop from p) (omega (arith, length-drop from p, r.bytes)))
