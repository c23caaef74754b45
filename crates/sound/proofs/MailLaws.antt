-- The rules of a mailbox entry with its owner's filter, and where the filters and the pairs stand among the others.
use Prim.Native.Nat.{ℕ, ◌+◌, ◌-◌, ◌*◌, ◌/◌, ◌≤◌, ◌<◌, min}
use native.Mathlib.Decide.{dec_lt}
use native.Mathlib.Omega.{arith}
use mathlib.Core.Path.{◌≡◌, refl, sym, ◌∙◌}
use mathlib.Core.List.{List}
use mathlib.Core.Bool.{Bool, true, false, not, ◌&&◌, ◌||◌}
use lib.Bits.{bit_or}
use lib.Dec.{eqb, leb}
use lib.ListN.{get_or}
use borrow.Author.Tests.{eq-eqb, le-leb, not-true}
use Rattle.pools.specs.Bits.{bit, free}
use Rattle.pools.proofs.BoolLaws.{true_false, and_right}
use Rattle.rules.specs.Rule.{Rule, test, each, both, imp, le, eq}
use Rattle.rules.proofs.Kept.Rules.{all_more, reads}
use Rattle.rules.specs.Sound.{arrival_rule, box_rule, plain_rules, across_rules}
use Rattle.rules.specs.Terms.{WAITS, alive, awaits}
use Rattle.sound.specs.Kinds.{keep_rule, kept_rule, front_rules, filter_rules, count_rules, early_rules, body_rules}
use Rattle.sound.specs.Standing.{Standing, lives_in, waits_in_of}
use Rattle.sound.proofs.ListLaws.{same_rule}
use Rattle.sound.proofs.MarkLaws.{of_ones}
use Rattle.sound.proofs.JoinLaws.{or-test}
use Rattle.sound.proofs.StandingLaws.{lives_in_lem, waits_in}
use Rattle.sound.proofs.WordLaws.{free-at}
use Rattle.tables.specs.declared.Caps.{Caps}
use Rattle.tables.specs.Columns.{MAIL-DATA, MAIL-FREE, MAIL-OWNER, STATE}
use Rattle.tables.specs.State.{State, at}

-- ---- an entry in use
-- what is not asked of an owner that does not wait
unasked : (a b m w x : Bool) → a && w ≡ false → (a && b) && m ≡ ((a && b) && m) && (not w || x)
unasked true true true w x e = rw e
unasked true true false w x e = refl
unasked true false m w x e = refl
unasked false b m w x e = refl

module _ (k : Caps) (s : State) {row : List ℕ} (h : Standing (s STATE) row) (owner entry : ℕ) where
  -- what is asked of it whether its owner waits or not
  abbrev pub fine : Bool
  fine = lives_in row owner && (leb 1 entry && leb entry k.datas)

  pub keep-waits : {r : Bool} → waits_in_of row owner ≡ true → r ≡ awaits s (owner - 1) (entry - 1) → fine && not r ≡ test (keep_rule k s owner entry)
  keep-waits w q = rw (lives_in_lem h owner, q, and_right (leb 1 owner) (eqb (at s STATE (owner - 1)) WAITS) (sym (waits_in h owner) ∙ w))

  pub keep-other : waits_in_of row owner ≡ false → fine ≡ test (keep_rule k s owner entry)
  keep-other n = rw (lives_in_lem h owner) (unasked (leb 1 owner) (alive (s STATE) (owner - 1)) _ (eqb (at s STATE (owner - 1)) WAITS) _ (sym (waits_in h owner) ∙ n))

-- ---- any entry
spare : {f : Bool} (a y w z : Bool) → f ≡ true → a ≡ ((not f || a) && (not (not f) || y)) && (not (not f && w) || z)
spare true y w z e = rw e
spare false y w z e = rw e

module _ (k : Caps) (s : State) (e : ℕ) where
  pub kept_free : free (s MAIL-FREE) e ≡ true → eqb (bit_or (at s MAIL-OWNER e) (at s MAIL-DATA e)) 0 ≡ test (kept_rule k s e)
  kept_free f = or-test (at s MAIL-OWNER e) (at s MAIL-DATA e) ∙ spare (eqb (at s MAIL-OWNER e) 0 && eqb (at s MAIL-DATA e) 0) _ _ _ f

-- ---- runs of entries
-- those below a, and then those from a on
pub each_on : (f : ℕ → Rule) (a b : ℕ) → a ≤ b → test (each a f) && test (each b (λ e. imp (le a e) (f e))) ≡ test (each b f)
each_on f a b h =
    same_rule (each b f) (both (each a f) (each b (λ e. imp (le a e) (f e))))
    (λ q. (λ e l. q e (omega arith), λ e l m. q e l))
    (λ q e l. elim (dec_lt e a) [ yes m ↦ q.0 e m | no m ↦ q.1 e l (omega arith) ])

-- one more of those from a on
pub each_next : (f : ℕ → Rule) (a i : ℕ) → a ≤ i → test (each i (λ e. imp (le a e) (f e))) && test (f i) ≡ test (each (i + 1) (λ e. imp (le a e) (f e)))
each_next f a i h = sym (all_more (λ e. test (imp (le a e) (f e))) i ∙ rw (le-leb a i h))

-- none of those from a on is below a
pub each-past : (f : ℕ → Rule) (a : ℕ) → true ≡ test (each a (λ e. imp (le a e) (f e)))
each-past f a = sym ((reads (each a (λ e. imp (le a e) (f e)))).1 (λ e l m. absurd (omega arith)))

-- one after the other, all of them
pub runs_of : (f : ℕ → Rule) (n w : ℕ) → n ≤ 64 * w → test (each w (λ j. each (min n (64 * j + 64)) (λ e. imp (le (64 * j) e) (f e)))) ≡ test (each n f)
runs_of f n w b =
    same_rule (each n f) (each w (λ j. each (min n (64 * j + 64)) (λ e. imp (le (64 * j) e) (f e))))
    (λ h j l e m a. h e (omega arith))
    (λ h e l. h (e / 64) (omega arith) e (omega arith) (omega arith))

-- a run that is free
module _ (k : Caps) (s : State) (a b : ℕ) (q : (e : ℕ) → a ≤ e → e < b → free (s MAIL-FREE) e ≡ true) where
  pub run-free : test (each b (λ e. imp (le a e) (eq (at s MAIL-OWNER e) 0))) && test (each b (λ e. imp (le a e) (eq (at s MAIL-DATA e) 0))) ≡ test (each b (λ e. imp (le a e) (kept_rule k s e)))
  run-free =
      same_rule (each b (λ e. imp (le a e) (kept_rule k s e))) (both (each b (λ e. imp (le a e) (eq (at s MAIL-OWNER e) 0))) (each b (λ e. imp (le a e) (eq (at s MAIL-DATA e) 0))))
      (λ h. (λ e l m. let ((unused, _), _) = h e l m in (unused (q e m l)).0, λ e l m. let ((unused, _), _) = h e l m in (unused (q e m l)).1))
      (λ h e l m. ((λ f. (h.0 e l m, h.1 e l m), λ f. absurd (true_false (free (s MAIL-FREE) e) (q e m l) (not-true (free (s MAIL-FREE) e) f))), λ f. absurd (true_false (free (s MAIL-FREE) e) (q e m l) (not-true (free (s MAIL-FREE) e) f.0))))

-- a word of ones: all entries are free that have their bit in it
pub word-free : (bits : List ℕ) (j e : ℕ) → get_or bits j 0 ≡ 18446744073709551615 → 64 * j ≤ e → e < 64 * j + 64 → free bits e ≡ true
word-free bits j e q a b =
    let p : e ≡ 64 * j + (e - 64 * j) = omega arith in
    let o : bit (get_or bits j 0) (e - 64 * j) ≡ 1 = of_ones 64 (get_or bits j 0) (rw q (refl)) (e - 64 * j) (omega arith) in
    rw p (free-at 0 bits j (e - 64 * j) (omega arith) ∙ eq-eqb (bit (get_or bits j 0) (e - 64 * j)) 1 o)

module _ (k : Caps) (s : State) where
  -- each entry with its filter and each word of the arrivals; each entry with its word of the arrivals, and each filter
  pub box_parts : test (both (each k.mails (λ e. kept_rule k s e)) (each k.mails (λ e. arrival_rule k s e))) ≡ test (both (each k.mails (λ e. box_rule k s e)) (filter_rules k s))
  box_parts =
      same_rule (both (each k.mails (λ e. box_rule k s e)) (filter_rules k s)) (both (each k.mails (λ e. kept_rule k s e)) (each k.mails (λ e. arrival_rule k s e)))
      (λ h. (λ e l. ((h.0 e l).0, h.1 e l), λ e l. (h.0 e l).1))
      (λ h. (λ e l. ((h.0 e l).0, h.1 e l), λ e l. (h.0 e l).1))

  -- ---- all rules, in the order that they are tested in
  pub plain-parts : test (both (front_rules k s) (body_rules k s)) ≡ test (early_rules k s)
  unfolding plain_rules
  plain-parts =
      same_rule (early_rules k s) (both (front_rules k s) (body_rules k s))
      (λ ((front, (bits, (boxes, (datas, (times, (buses, values)))))), ((filters, pairs), issued)). (front, (bits, ((boxes, filters), ((datas, pairs), (times, (buses, (values, issued))))))))
      (λ (front, (bits, ((boxes, filters), ((datas, pairs), (times, (buses, (values, issued))))))). ((front, (bits, (boxes, (datas, (times, (buses, values)))))), ((filters, pairs), issued)))

  pub late_parts : test (both (early_rules k s) (count_rules k s)) ≡ test (both (plain_rules k s) (across_rules k s))
  unfolding across_rules
  late_parts =
      same_rule (both (plain_rules k s) (across_rules k s)) (both (early_rules k s) (count_rules k s))
      (λ (plain, (exact, (issued, (held, (pairs, filters))))). ((plain, ((filters, pairs), issued)), (exact, held)))
      (λ ((plain, ((filters, pairs), issued)), (exact, held)). (plain, (exact, (issued, (held, (pairs, filters))))))
