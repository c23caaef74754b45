-- Entries marked in words of bits: one more, one after the other, all of them, and what the marks say of the lists that name them.
use Prim.Native.Nat.{ℕ, zero, suc, ◌+◌, ◌-◌, ◌*◌, ◌/◌, ◌%◌, ◌^◌, ◌≤◌, ◌<◌, min}
use native.Mathlib.Nat.{pow-suc, one-mul, zero-mul, mod-one, div-eq_of_lt}
use native.Mathlib.Numerals.{add-one}
use native.Mathlib.Decide.{dec_lt, ℕ_discrete}
use native.Mathlib.Omega.{arith}
use mathlib.Core.Path.{◌≡◌, refl, sym, ap, ◌∙◌}
use mathlib.Core.Bool.{Bool, true, false, not, ◌&&◌}
use mathlib.Core.List.{List, [], ◌∷◌, ◌++◌}
use mir.Val.{bool_byte}
use lib.Bits.{bit_and, bit_or, and_mask, or_shifted_r}
use lib.Dec.{eqb, lit<, ltb}
use lib.ListN.{length, get_or, get_or-append, set, take, drop, length-append, length-take, length-drop, take-append-drop}
use Rattle.std.proofs.lemmas.List.{get_or-append-add}
use lib.Pow.{pow_pos, high, shl_exact, mod-pow-add}
use lib.Seq.{take-suc, take_all, get_or-take, get_or-drop}
use borrow.Author.Tests.{eqb-true, eqb-false, eq-eqb, ltb-false, ltb-true, ne_eqb, not-true, not-false}
use Rattle.pools.specs.Bits.{WORD-BITS, bit, free, released}
use Rattle.pools.specs.Pool.{occurs}
use Rattle.pools.proofs.MaskLaws.{and-bit, or-mark}
use Rattle.pools.proofs.BitLaws.{bit-zero, bit_suc, bit_cases, add-other}
use Rattle.pools.proofs.BoolLaws.{split, true_false, and_left, and_right, and_true, flag≤, flag_not, flag_pos}
use Rattle.pools.proofs.FreeLaws.{released-same, released-other, length-released}
use Rattle.pools.proofs.ListLaws.{occurs-append, occurs_snoc, occurs-place}
use Rattle.rules.specs.Rule.{test, both, each, eq, is, lt, le, imp, Holds}
use Rattle.rules.specs.Terms.{RUNNABLE}
use Rattle.rules.specs.Sound.{OWNERS, head_rule, held, slot_rule, box_rule, issue_rule, once_rule, arrived_rule, held_rule, plain_rules}
use Rattle.rules.proofs.Frames.Wrote.{All}
use Rattle.rules.proofs.Kept.Owners.{Names, all-sole, held-few, owners_name, sole}
use Rattle.rules.proofs.Kept.Rules.{reads, same_test, and_same}
use Rattle.tables.specs.declared.Caps.{Caps}
use Rattle.tables.specs.Columns.{ARRIVAL, ARRIVED, DATA-FREE, ISSUE, ISSUED, MAIL-DATA, MAIL-FREE, QUEUE, QUEUED, STATE, REST}
use Rattle.tables.specs.Sizes.{BIT-WORDS, COLUMN-BITS}
use Rattle.tables.specs.State.{State, head, size, view, Room}
use Rattle.tables.proofs.ViewLaws.{view-full}
use Rattle.sound.specs.Marks.{Added, AddedBoth, AllResting, Below, Ended, Flags, OTHERS, Resting, full_rule, rests}
use Rattle.sound.proofs.WordLaws.{free-at}
use Rattle.sound.proofs.ListLaws.{same_rule}

-- ---- one bit of a word, by masks
module _ (x k : ℕ) where
  and_one : bit x k ≡ 1 → bit_and x (2 ^ k) ≡ 2 ^ k
  and_one e = and-bit x k ∙ ap (λ (y : ℕ). y * 2 ^ k) e ∙ one-mul (2 ^ k)

  and_zero : bit x k ≡ 0 → bit_and x (2 ^ k) ≡ 0
  and_zero e = and-bit x k ∙ ap (λ (y : ℕ). y * 2 ^ k) e ∙ zero-mul (2 ^ k)

  pub and_none : eqb (bit_and x (2 ^ k)) 0 ≡ not (eqb (bit x k) 1)
  and_none =
      bit_cases x k
      (λ e. rw (and_one e, e) (ne_eqb (2 ^ k) 0 (λ z. omega (arith, pow_pos k))))
      (λ e. rw (and_zero e, e))

-- ---- tests in another order
pub and_regroup : (a b c : Bool) → a && (b && c) ≡ (a && b) && c
and_regroup true b c = refl
and_regroup false b c = refl

pub and_cross : (a b c d : Bool) → (a && b) && (c && d) ≡ (a && c) && (b && d)
and_cross true true c d = refl
and_cross true false true d = refl
and_cross true false false d = refl
and_cross false b c d = refl

-- ---- marks
-- no entry
pub added_none : {c : ℕ → ℕ} (seen : List ℕ) → ((e : ℕ) → c e ≡ 0) → Added c true seen seen
added_none seen z = record { long = refl; once = λ t e. omega (arith, z e); twice = λ f. true_false true refl f }

-- entry x
pub added_one : (seen : List ℕ) (x : ℕ) → x / WORD-BITS < length seen → Added (λ d. bool_byte (eqb x d)) (not (free seen x)) seen (released seen x)
added_one seen x h = record {
  long = length-released seen x;
  once = λ t e. split (eqb x e)
      (λ q. let z : x ≡ e = eqb-true x e q in
      let f : free seen x ≡ false = not-true (free seen x) t in
      rw (q, ← z, released-same seen x h, f))
      (λ q. rw (q, released-other seen x e (λ z. eqb-false x e q (sym z))) (omega arith));
  twice = λ f. (x, let y : free seen x ≡ true = not-false (free seen x) f in rw (y, eq-eqb x x refl) (omega arith));
}

-- by a mask
pub mark-one : (seen : List ℕ) (x b : ℕ) → b ≡ 2 ^ (x % WORD-BITS) → x / WORD-BITS < length seen →
    Added (λ d. bool_byte (eqb x d)) (eqb (bit_and (get_or seen (x / WORD-BITS) 0) b) 0) seen (set seen (x / WORD-BITS) (bit_or (get_or seen (x / WORD-BITS) 0) b))
mark-one seen x b z h =
    rw (z, and_none (get_or seen (x / WORD-BITS) 0) (x % WORD-BITS), or-mark (get_or seen (x / WORD-BITS) 0) (x % WORD-BITS)) (added_one seen x h)

-- the same as often
pub added_as : {c d : ℕ → ℕ} {r : Bool} {seen seen' : List ℕ} → ((e : ℕ) → c e ≡ d e) → Added c r seen seen' → Added d r seen seen'
added_as z a = record {
  long = a.long;
  once = λ t e. omega (arith, a.once t e, z e);
  twice = λ f. let w = a.twice f in (w.0, omega (arith, w.1, z w.0));
}

-- some, and then others
pub added_both : {c d : ℕ → ℕ} {r q : Bool} {s s' s'' : List ℕ} → Added c r s s' → Added d q s' s'' → Added (λ e. c e + d e) (r && q) s s''
added_both {c} {d} {r} {q} a b = record {
  long = b.long ∙ a.long;
  once = λ t e. omega (arith, a.once (and_left r q t) e, b.once (and_right r q t) e);
  twice = λ f. split r
      (λ t. let w = b.twice (rw t at f) in (w.0, omega (arith, w.1, a.once t w.0)))
      (λ n. let w = a.twice n in (w.0, omega (arith, w.1)));
}

-- two sets, side by side: some, and then others in each
pub both-both : {c c₂ d d₂ : ℕ → ℕ} {r x y : Bool} {s s' s'' h h' h'' : List ℕ} → AddedBoth c d r s s' h h' → Added c₂ x s' s'' → Added d₂ y h' h'' →
    AddedBoth (λ e. c e + c₂ e) (λ e. d e + d₂ e) (r && (x && y)) s s'' h h''
both-both {x = x} {y = y} a b z = record {
  in_seen = a.in_seen && x;
  in_held = a.in_held && y;
  telling = ap (λ (q : Bool). q && (x && y)) a.telling ∙ and_cross a.in_seen a.in_held x y;
  added_seen = added_both a.added_seen b;
  added_held = added_both a.added_held z;
}

-- the same as often
pub both_as : {c c₂ d d₂ : ℕ → ℕ} {r : Bool} {s s' h h' : List ℕ} → ((e : ℕ) → c e ≡ c₂ e) → ((e : ℕ) → d e ≡ d₂ e) → AddedBoth c d r s s' h h' → AddedBoth c₂ d₂ r s s' h h'
both_as f g a = record { in_seen = a.in_seen; in_held = a.in_held; telling = a.telling; added_seen = added_as f a.added_seen; added_held = added_as g a.added_held }

-- ---- the words of a list, one after the other
pub occurs-more : (list : List ℕ) (i a : ℕ) → i < length list → occurs a (take (i + 1) list) ≡ occurs a (take i list) + bool_byte (eqb (get_or list i 0) a)
occurs-more list i a h = rw (add-one i, take-suc list i 0 h, occurs_snoc a (take i list) (get_or list i 0))

occurs_none : (a : ℕ) (list : List ℕ) → occurs a (take 0 list) ≡ 0
unfolding occurs
occurs_none a list = refl

module _ (list : List ℕ) (f : ℕ → ℕ) where
  pub marks_none : (seen : List ℕ) → Added (λ e. occurs (f e) (take 0 list)) true seen seen
  marks_none seen = added_none seen (λ e. occurs_none (f e) list)

  pub marks-more : {i : ℕ} {ok r : Bool} {s s' s'' : List ℕ} → i < length list → Added (λ e. occurs (f e) (take i list)) ok s s' →
      Added (λ e. bool_byte (eqb (get_or list i 0) (f e))) r s' s'' → Added (λ e. occurs (f e) (take (i + 1) list)) (ok && r) s s''
  marks-more {i} l a b = added_as (λ e. sym (occurs-more list i (f e) l)) (added_both a b)

-- two lists, side by side
module _ (list names : List ℕ) where
  pub both_none : (seen held : List ℕ) → AddedBoth (λ e. occurs e (take 0 list)) (λ d. occurs (suc d) (take 0 names)) true seen seen held held
  both_none seen held = record { in_seen = true; in_held = true; telling = refl; added_seen = marks_none list (λ e. e) seen; added_held = marks_none names (λ e. suc e) held }

  pub both-more : {i : ℕ} {ok x y : Bool} {s s' s'' h h' h'' : List ℕ} → i < length list → i < length names →
      AddedBoth (λ e. occurs e (take i list)) (λ d. occurs (suc d) (take i names)) ok s s' h h' →
      Added (λ e. bool_byte (eqb (get_or list i 0) e)) x s' s'' → Added (λ d. bool_byte (eqb (get_or names i 0) (suc d))) y h' h'' →
      AddedBoth (λ e. occurs e (take (i + 1) list)) (λ d. occurs (suc d) (take (i + 1) names)) (ok && (x && y)) s s'' h h''
  both-more {i} l m a b z = both_as (λ e. sym (occurs-more list i e l)) (λ e. sym (occurs-more names i (suc e) m)) (both-both a b z)

  pub both_end : (i n : ℕ) {ok : Bool} {s s' h h' : List ℕ} → AddedBoth (λ e. occurs e (take i list)) (λ d. occurs (suc d) (take i names)) ok s s' h h' → i ≡ n →
      AddedBoth (λ e. occurs e (take n list)) (λ d. occurs (suc d) (take n names)) ok s s' h h'
  both_end i n a z = both_as (λ e. ap (λ (j : ℕ). occurs e (take j list)) z) (λ e. ap (λ (j : ℕ). occurs (suc e) (take j names)) z) a

-- a list in two parts
occurs-parts : (a n : ℕ) (list : List ℕ) → occurs a list ≡ occurs a (take n list) + occurs a (drop n list)
occurs-parts a n list = ap (occurs a) (sym (take-append-drop n list)) ∙ occurs-append a (take n list) (drop n list)

-- others in the second set alone
pub both_then : {c d o : ℕ → ℕ} {r x : Bool} {s s' h h' h'' : List ℕ} → AddedBoth c d r s s' h h' → Added o x h' h'' → AddedBoth c (λ e. d e + o e) (r && x) s s' h h''
both_then {x = x} a b = record {
  in_seen = a.in_seen;
  in_held = a.in_held && x;
  telling = ap (λ (q : Bool). q && x) a.telling ∙ sym (and_regroup a.in_seen a.in_held x);
  added_seen = a.added_seen;
  added_held = added_both a.added_held b;
}

-- the rest of a list after its first n words
pub both_rest : (n : ℕ) (entries : List ℕ) {c : ℕ → ℕ} {r x : Bool} {s s' h h' h'' : List ℕ} → AddedBoth c (λ d. occurs (suc d) (take n entries)) r s s' h h' → Added (λ d. occurs (suc d) (drop n entries)) x h' h'' →
    AddedBoth c (λ d. occurs (suc d) entries) (r && x) s s' h h''
both_rest n entries a b = both_as (λ e. refl) (λ e. sym (occurs-parts (suc e) n entries)) (both_then a b)

-- words of 0 name no entry
pub zero_names : (list : List ℕ) → ((i : ℕ) → i < length list → get_or list i 0 ≡ 0) → (d : ℕ) → occurs (suc d) list ≡ 0
zero_names list h d =
    elim (dec_lt 0 (occurs (suc d) list)) [
      | yes m ↦ let o = occurs-place (suc d) list m in absurd (omega (arith, o.2, h o.0 o.1))
      | no m ↦ omega arith
    ]

-- where all words are 0 no entry is named
pub none_named : (list seen : List ℕ) → true ≡ test (each (length list) (λ i. imp (le 0 i) (eq (get_or list i 0) 0))) → Added (λ d. occurs (suc d) list) true seen seen
none_named list seen t = added_none seen (zero_names list (λ i l. (reads (each (length list) (λ i. imp (le 0 i) (eq (get_or list i 0) 0)))).0 (sym t) i l (omega arith)))

pub rest_is : (list : List ℕ) (n : ℕ) → take (length list - n) (drop n list) ≡ drop n list
rest_is list n = take_all (length list - n) (drop n list) (omega (arith, length-drop n list))

-- where the words are 0 from the n-th on
ended_none : (list : List ℕ) (n : ℕ) → Ended n list → (d : ℕ) → occurs (suc d) (drop n list) ≡ 0
ended_none list n h = zero_names (drop n list) (λ i l. get_or-drop n list i 0 ∙ h (n + i) (omega arith) (omega (arith, length-drop n list)))

-- so the first n name all
pub first-all : (list : List ℕ) (n : ℕ) {r : Bool} {s s' : List ℕ} → Ended n list → Added (λ d. occurs (suc d) (take n list)) r s s' → Added (λ d. occurs (suc d) list) r s s'
first-all list n h a = added_as (λ d. omega (arith, occurs-parts (suc d) n list, ended_none list n h d)) a

-- one part more, of the words of a list
pub part_below : (list done part rest : List ℕ) (m : ℕ) → list ≡ done ++ (part ++ rest) → Below m (length list) list → Below m (length part) part
part_below list done part rest m e b i l =
    let at : get_or list (length done + i) 0 ≡ get_or part i 0 = ap (λ (x : List ℕ). get_or x (length done + i) 0) e ∙ get_or-append-add done (part ++ rest) i 0 ∙ get_or-append part rest 0 i l in
    let long : length list ≡ length done + (length part + length rest) = ap (λ (x : List ℕ). length x) e ∙ length-append done (part ++ rest) ∙ ap (λ (x : ℕ). length done + x) (length-append part rest) in
    omega (arith, at, b (length done + i) (omega (arith, long)))

pub part_more : (done part : List ℕ) {ok r : Bool} {s s' s'' : List ℕ} → Added (λ d. occurs (suc d) done) ok s s' → Added (λ d. occurs (suc d) part) r s' s'' → Added (λ d. occurs (suc d) (done ++ part)) (ok && r) s s''
part_more done part a b = added_as (λ d. sym (occurs-append (suc d) done part)) (added_both a b)

-- ---- four words, one by one

-- ---- one bit more at the end of a word
module _ (word i x : ℕ) (b : word < 2 ^ i) (f : x ≤ 1) where
  top_bit : bit (x * 2 ^ i + word) i ≡ x
  top_bit = ap (λ (y : ℕ). y % 2) (high x i b) ∙ omega arith

  top_other : (j : ℕ) → j < i → bit (x * 2 ^ i + word) j ≡ bit word j
  top_other j l =
      elim (ℕ_discrete x 0) [
        | yes z ↦ rw z (ap (λ (y : ℕ). bit y j) (omega (arith, zero-mul (2 ^ i))))
        | no n ↦ let o : x ≡ 1 = omega arith in
            let none : bit word i ≡ 0 = ap (λ (y : ℕ). y % 2) (div-eq_of_lt b) in
            let sum : 1 * 2 ^ i + word ≡ word + 2 ^ i = omega (arith, one-mul (2 ^ i)) in
            rw (o, sum) (add-other word i j none (λ q. omega arith))
      ]

  pub top_fits : x * 2 ^ i + word < 2 ^ (i + 1)
  top_fits = rw (add-one i) (
      elim (ℕ_discrete x 0) [
        | yes z ↦ rw z (omega (arith, zero-mul (2 ^ i), pow-suc 2 i))
        | no n ↦ let o : x ≡ 1 = omega arith in rw o (omega (arith, one-mul (2 ^ i), pow-suc 2 i))
      ])

-- the bits of those that pass a test, one more
module _ (f : ℕ → Bool) (i word : ℕ) (l : i < WORD-BITS) (b : word < 2 ^ i) where
  flag_sum : bit_or word (bool_byte (f i) * 2 ^ i % 2 ^ WORD-BITS) ≡ bool_byte (f i) * 2 ^ i + word
  flag_sum =
      let e : bool_byte (f i) * 2 ^ i % 2 ^ WORD-BITS ≡ bool_byte (f i) * 2 ^ i = shl_exact 1 i WORD-BITS (omega (arith, flag≤ (f i))) (omega arith) in
      rw e (or_shifted_r (bool_byte (f i)) i word b)

  pub flag_fits : bit_or word (bool_byte (f i) * 2 ^ i % 2 ^ WORD-BITS) < 2 ^ (i + 1)
  flag_fits = rw flag_sum (top_fits word i (bool_byte (f i)) b (flag≤ (f i)))

  pub flag_more : Flags f i word → Flags f (i + 1) (bit_or word (bool_byte (f i) * 2 ^ i % 2 ^ WORD-BITS))
  flag_more h a m =
      rw flag_sum (
      elim (dec_lt a i) [
        | yes q ↦ top_other word i (bool_byte (f i)) b (flag≤ (f i)) a q ∙ h a q
        | no n ↦ let e : a ≡ i = omega arith in rw e (top_bit word i (bool_byte (f i)) b (flag≤ (f i)))
      ])

-- ---- the lowest bits of a number are 1
mod_suc : (x k : ℕ) → x % 2 ^ suc k ≡ (x / 2 % 2 ^ k) * 2 + x % 2
mod_suc x k = ap (λ (j : ℕ). x % 2 ^ j) (sym (add-one k)) ∙ mod-pow-add x k 1

to_ones : (k x : ℕ) → ((j : ℕ) → j < k → bit x j ≡ 1) → x % 2 ^ k ≡ 2 ^ k - 1
to_ones zero x h = mod-one x
to_ones (suc k) x h =
    let half : x / 2 % 2 ^ k ≡ 2 ^ k - 1 = to_ones k (x / 2) (λ j m. sym (bit_suc x j) ∙ h (suc j) (omega arith)) in
    let low : x % 2 ≡ 1 = sym (bit-zero x) ∙ h 0 (omega arith) in
    mod_suc x k ∙ omega (arith, half, low, pow-suc 2 k, pow_pos k)

pub of_ones : (k x : ℕ) → x % 2 ^ k ≡ 2 ^ k - 1 → (j : ℕ) → j < k → bit x j ≡ 1
of_ones zero x e j l = absurd (omega arith)
of_ones (suc k) x e zero l = bit-zero x ∙ omega (arith, sym (mod_suc x k) ∙ e, pow-suc 2 k, pow_pos k)
of_ones (suc k) x e (suc j) l =
    let half : x / 2 % 2 ^ k ≡ 2 ^ k - 1 = omega (arith, sym (mod_suc x k) ∙ e, pow-suc 2 k, pow_pos k) in
    bit_suc x j ∙ of_ones k (x / 2) half j (omega arith)

-- so each entry of a word is marked
module _ (n : ℕ) (seen : List ℕ) (j : ℕ) where
  low_ones : (few : ℕ) → few ≡ min WORD-BITS (n - WORD-BITS * j) → eqb (get_or seen j 0 % 2 ^ few) (2 ^ few - 1) ≡ test (full_rule n seen j)
  low_ones few e =
      let x = get_or seen j 0 in
      sym (same_test (full_rule n seen j) (eqb (x % 2 ^ few) (2 ^ few - 1))
      (λ h. eq-eqb (x % 2 ^ few) (2 ^ few - 1) (to_ones few x (λ i m. eqb-true (bit x i) 1 (sym (free-at n seen j i (omega arith)) ∙ h i (omega arith) (omega arith)))))
      (λ t i m l. free-at n seen j i m ∙ eq-eqb (bit x i) 1 (of_ones few x (eqb-true (x % 2 ^ few) (2 ^ few - 1) t) i (omega arith))))

  pub full_none : n ≤ WORD-BITS * j → true ≡ test (full_rule n seen j)
  full_none h = sym ((reads (full_rule n seen j)).1 (λ i m l. absurd (omega arith)))

  pub full-some : (few low : ℕ) → few ≡ n - WORD-BITS * j → low ≡ 2 ^ min WORD-BITS few - 1 → eqb (bit_and (get_or seen j 0) low) low ≡ test (full_rule n seen j)
  full-some few low e o =
      let m = min WORD-BITS few in
      rw o (ap (λ (y : ℕ). eqb y (2 ^ m - 1)) (and_mask (get_or seen j 0) m) ∙ low_ones m (omega arith))

-- each of n entries, in four words
pub full-each : (n : ℕ) (seen : List ℕ) → n ≤ COLUMN-BITS → test (each COLUMN-BITS (λ e. imp (lt e n) (is (free seen e)))) ≡ test (each n (λ e. is (free seen e)))
full-each n seen b = same_rule (each n (λ e. is (free seen e))) (each COLUMN-BITS (λ e. imp (lt e n) (is (free seen e)))) (λ h e l m. h e m) (λ h e l. h e (omega arith) l)

-- ---- THE LAW: where those that are not in use are marked at first, and then those that are named, then each that is in use is named once and no other,
-- exactly where none is marked twice and all are marked in the end
module _ (n : ℕ) (c : ℕ → ℕ) (used : ℕ → Bool) {r q : Bool} {s s' : List ℕ} (a : Added c r s s') (z : q ≡ test (each n (λ e. is (free s' e))))
    (start : (e : ℕ) → e < n → bool_byte (free s e) + bool_byte (used e) ≡ 1) (few : (e : ℕ) → 1 ≤ c e → e < n) where
  none_twice : Holds (each n (λ e. eq (c e) (bool_byte (used e)))) → r ≡ true
  none_twice h = split r (λ t. t) (λ f.
      let w = a.twice f in
      let l : w.0 < n = few w.0 (omega (arith, w.1, flag≤ (free s w.0))) in
      absurd (omega (arith, w.1, start w.0 l, h w.0 l)))

  all-marked : Holds (each n (λ e. eq (c e) (bool_byte (used e)))) → q ≡ true
  all-marked h = z ∙ (reads (each n (λ e. is (free s' e)))).1 (λ e l. flag_pos (free s' e) (omega (arith, a.once (none_twice h) e, start e l, h e l)))

  as_used : r ≡ true → q ≡ true → Holds (each n (λ e. eq (c e) (bool_byte (used e))))
  as_used t u e l =
      let m : free s' e ≡ true = (reads (each n (λ e. is (free s' e)))).0 (sym z ∙ u) e l in
      omega (arith, a.once t e, start e l, ap bool_byte m)

  pub named-once : r && q ≡ test (each n (λ e. eq (c e) (bool_byte (used e))))
  named-once =
      sym (same_test (each n (λ e. eq (c e) (bool_byte (used e)))) (r && q) (λ h. and_true r q (none_twice h) (all-marked h)) (λ t. as_used (and_left r q t) (and_right r q t)))

-- ---- what is in use, and named
-- what a list names is one of its words
named : (n : ℕ) (list : List ℕ) → Below n (length list) list → (a : ℕ) → 1 ≤ occurs a list → a < n
named n list b a h = let o = occurs-place a list h in omega (arith, b o.0 o.1, o.2)

named-first : (n m : ℕ) (list : List ℕ) → Below n m list → (a : ℕ) → 1 ≤ occurs a (take m list) → a < n
named-first n m list b =
    named n (take m list) (λ i l. let q : i < m = omega (arith, length-take m list) in let e : get_or (take m list) i 0 ≡ get_or list i 0 = get_or-take m list i 0 q in omega (arith, b i q, e))

not_free : (bits seen : List ℕ) → seen ≡ bits → (e : ℕ) → bool_byte (free seen e) + bool_byte (not (free bits e)) ≡ 1
not_free bits seen z e = rw z (omega (arith, flag_not (free bits e)))

flag_one : (b : Bool) → eqb (bool_byte b) 1 ≡ b
flag_one true = refl
flag_one false = refl

-- the slots that are not runnable, word by word, and all
by_word : {states seen : List ℕ} {n : ℕ} → length seen ≡ BIT-WORDS → n ≤ COLUMN-BITS → ((j : ℕ) → j < BIT-WORDS → Resting states n j (get_or seen j 0)) → AllResting states n seen
by_word {states} {seen} {n} e b h = record {
  long = e;
  slots = λ a l.
      let back : WORD-BITS * (a / WORD-BITS) + a % WORD-BITS ≡ a = omega arith in
      rw (h (a / WORD-BITS) (omega arith) (a % WORD-BITS) (omega arith), flag_one (rests states (WORD-BITS * (a / WORD-BITS) + a % WORD-BITS))) (ap (rests states) back);
}

pub rest_all : {states : List ℕ} {n a b c d : ℕ} → n ≤ COLUMN-BITS → Resting states n 0 a → Resting states n 1 b → Resting states n 2 c → Resting states n 3 d → AllResting states n (a ∷ (b ∷ (c ∷ (d ∷ []))))
rest_all {states} {n} {a} {b} {c} {d} few h₀ h₁ h₂ h₃ = by_word refl few words
  where
    words : (j : ℕ) → j < BIT-WORDS → Resting states n j (get_or (a ∷ (b ∷ (c ∷ (d ∷ [])))) j 0)
    words zero l = h₀
    words (suc zero) l = h₁
    words (suc (suc zero)) l = h₂
    words (suc (suc (suc zero))) l = h₃
    words (suc (suc (suc (suc j)))) l = absurd (omega arith)

-- a slot is one of them, or runnable
not-resting : {states seen : List ℕ} {n : ℕ} → AllResting states n seen → (a : ℕ) → a < n → bool_byte (free seen a) + bool_byte (eqb (get_or states a 0) RUNNABLE) ≡ 1
not-resting {states} h a l = rw (h.slots a l) (flag_not (eqb (get_or states a 0) RUNNABLE))

-- ---- what the plain rules say
module _ (k : Caps) (s : State) where
  pub head_of : Holds (plain_rules k s) → Holds (head_rule k s)
  unfolding plain_rules
  head_of h = let ((_, (heads, _)), _) = h in heads

  slot_rule_at : Holds (plain_rules k s) → (a : ℕ) → a < k.actors → Holds (slot_rule k s a)
  unfolding plain_rules
  slot_rule_at h = let (_, (_, ((slots, _), _))) = h in slots

  box_of : Holds (plain_rules k s) → (e : ℕ) → e < k.mails → Holds (box_rule k s e)
  unfolding plain_rules
  box_of h = let (_, (_, ((_, boxes), _))) = h in boxes

  pub issue-of : Holds (plain_rules k s) → (i : ℕ) → i < k.datas → Holds (issue_rule k s i)
  unfolding plain_rules
  issue-of h = let (_, (_, (_, (_, (_, (_, (_, issues))))))) = h in issues

-- the row of values names data entries, and its words past those that count are 0
pub issue-listed : (k : Caps) (w p : List ℕ) → Room k w p → Holds (head_rule k (view k w p)) → ((i : ℕ) → i < k.datas → Holds (issue_rule k (view k w p) i)) →
    {n : ℕ} {list : List ℕ} → n ≡ head (view k w p) ISSUED → list ≡ view k w p ISSUE → (n ≤ length list) × Below (suc COLUMN-BITS) (length list) list × Ended n list
issue-listed k w p room (_, (_, (issued, _))) h z y =
    let s = view k w p in
    let long = view-full k w p room.words ISSUE (lit< tt) in
    rw (z, y) (
      omega (arith, long),
      λ i l. let r = h i (omega (arith, long)) in split (ltb i (head s ISSUED)) (λ t. omega (arith, (r.0 (ltb-true i (head s ISSUED) t)).1, room.caps.few_datas)) (λ t. omega (arith, r.1 (ltb-false i (head s ISSUED) t))),
      λ i l m. let (_, rest) = h i (omega (arith, long)) in rest l,
    )

module _ (k : Caps) (w p : List ℕ) (room : Room k w p) (h : Holds (plain_rules k (view k w p))) where
  -- a list names entries
  pub queue-below : {n : ℕ} {list : List ℕ} → n ≡ head (view k w p) QUEUED → list ≡ view k w p QUEUE → (n ≤ length list) × Below k.actors n list
  queue-below z y =
      let s = view k w p in
      let (_, ((queued, _), _)) = head_of k s h in
      rw (z, y) (omega (arith, view-full k w p room.words QUEUE (lit< tt)), λ i l. let (_, (_, (_, (within, _)))) = slot_rule_at k s h i (omega arith) in within l)

  pub arrival-below : {n : ℕ} {list : List ℕ} → n ≡ head (view k w p) ARRIVED → list ≡ view k w p ARRIVAL → (n ≤ length list) × Below k.mails n list
  arrival-below z y =
      let s = view k w p in
      let (_, ((_, arrived), _)) = head_of k s h in
      rw (z, y) (omega (arith, view-full k w p room.words ARRIVAL (lit< tt)), λ i l. let (_, (within, _)) = box_of k s h i (omega arith) in within l)

  -- there are no more arrivals than mailbox entries
  pub arrived-few : {n : ℕ} {list : List ℕ} → n ≡ head (view k w p) ARRIVED → list ≡ view k w p MAIL-DATA → n ≤ length list
  arrived-few z y =
      let (_, ((_, arrived), _)) = head_of k (view k w p) h in
      rw (z, y) (omega (arith, view-full k w p room.words MAIL-DATA (lit< tt)))

  -- the words of the owners name data entries, one up, or none
  all_name : All (Names k (view k w p)) OWNERS
  all_name = owners_name k (view k w p) (view-full k w p room.words) h

  pub owner_below : (c : ℕ) {list : List ℕ} → sole c OWNERS ≡ true → list ≡ view k w p c → Below (suc COLUMN-BITS) (length list) list
  owner_below c o y = rw y (λ i l. omega (arith, all-sole (Names k (view k w p)) OWNERS all_name c o i l, room.caps.few_datas))

  -- a column of free bits, and one of a word for each slot
  pub bits_long : (c : ℕ) {bits : List ℕ} → c < REST → size k c ≡ BIT-WORDS → bits ≡ view k w p c → length bits ≡ BIT-WORDS
  bits_long c l z y = ap length y ∙ view-full k w p room.words c l ∙ z

  pub states_long : {states : List ℕ} → states ≡ view k w p STATE → k.actors ≤ length states
  states_long y = rw y (omega (arith, view-full k w p room.words STATE (lit< tt)))

  -- so the marks tell the rule of each list
  pub once-told : {n : ℕ} {list states seen seen' : List ℕ} {r q : Bool} → n ≡ head (view k w p) QUEUED → list ≡ view k w p QUEUE → states ≡ view k w p STATE → AllResting states k.actors seen →
      Added (λ e. occurs e (take n list)) r seen seen' → q ≡ test (each k.actors (λ e. is (free seen' e))) →
      r && q ≡ test (each k.actors (λ a. once_rule (view k w p) a))
  once-told {n} {list} {states} z y x rest a u =
      let s = view k w p in
      named-once k.actors (λ e. occurs e (take n list)) (λ e. eqb (get_or states e 0) RUNNABLE) a u
      (not-resting rest)
      (named-first k.actors n list (queue-below z y).1)
      ∙ rw (z, y, x)

  pub arrived-told : {n : ℕ} {list bits seen seen' : List ℕ} {r q : Bool} → n ≡ head (view k w p) ARRIVED → list ≡ view k w p ARRIVAL → bits ≡ view k w p MAIL-FREE → seen ≡ bits →
      Added (λ e. occurs e (take n list)) r seen seen' → q ≡ test (each k.mails (λ e. is (free seen' e))) →
      r && q ≡ test (each k.mails (λ e. arrived_rule (view k w p) e))
  arrived-told {n} {list} {bits} {seen} z y x v a u =
      named-once k.mails (λ e. occurs e (take n list)) (λ e. not (free bits e)) a u
      (λ e l. not_free bits seen v e)
      (named-first k.mails n list (arrival-below z y).1)
      ∙ rw (z, y, x)

  pub held-told : {bits s s' : List ℕ} {r q : Bool} → bits ≡ view k w p DATA-FREE → s ≡ bits → Added (λ d. held OWNERS (view k w p) d) r s s' → q ≡ test (each k.datas (λ e. is (free s' e))) →
      r && q ≡ test (each k.datas (λ d. held_rule (view k w p) d))
  held-told {bits} {s} x v a u =
      named-once k.datas (λ d. held OWNERS (view k w p) d) (λ d. not (free bits d)) a u
      (λ e l. not_free bits s v e)
      (λ d l. elim (dec_lt d k.datas) [ yes m ↦ m | no n ↦ absurd (omega (arith, l, held-few k (view k w p) OWNERS all_name d (omega arith))) ])
      ∙ rw x

  -- both, side by side
  pub counted-told : {n : ℕ} {list mails bits bits₂ s s' h h' h'' : List ℕ} {r q x y : Bool} → n ≡ head (view k w p) ARRIVED → list ≡ view k w p ARRIVAL → bits ≡ view k w p MAIL-FREE → s ≡ bits →
      mails ≡ view k w p MAIL-DATA → bits₂ ≡ view k w p DATA-FREE → h ≡ bits₂ →
      AddedBoth (λ e. occurs e (take n list)) (λ d. occurs (suc d) mails) r s s' h h' → Added (λ d. held OTHERS (view k w p) d) q h' h'' →
      x ≡ test (each k.mails (λ e. is (free s' e))) → y ≡ test (each k.datas (λ e. is (free h'' e))) →
      (r && q) && (x && y) ≡ test (both (each k.mails (λ e. arrived_rule (view k w p) e)) (each k.datas (λ d. held_rule (view k w p) d)))
  counted-told {x = x} {y = y} z l b v m b₂ v₂ f o t u =
      let a : AddedBoth _ (λ d. held OWNERS (view k w p) d) _ _ _ _ _ = both_as (λ e. refl) (λ d. rw m) (both_then f o) in
      ap (λ (o : Bool). o && (x && y)) a.telling ∙ and_cross a.in_seen a.in_held x y ∙ and_same (arrived-told z l b v a.added_seen t) (held-told b₂ v₂ a.added_held u)
