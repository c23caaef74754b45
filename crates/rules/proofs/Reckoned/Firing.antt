-- The reckoning's timers that fire: each firing takes one due timer away and room for one message, and no timer fires twice in one advance.
use Prim.Native.Nat.{ℕ, zero, suc, ◌+◌, ◌-◌, ◌*◌, ◌%◌, ◌≤◌, ◌<◌, min}
use native.Mathlib.Omega.{arith}
use mathlib.Core.Path.{◌≡◌, refl, sym, ap, ap₂, subst, ◌∙◌}
use mathlib.Core.Logic.{◌⊎◌, inl, inr, ⊎_elim}
use mathlib.Core.Bool.{Bool, true, false, not, ◌&&◌}
use mathlib.Core.List.{List, [], ◌∷◌, map}
use lib.ListN.{length, get_or, drop, length-append}
use lib.Dec.{eqb, leb, ltb}
use borrow.Author.Tests.{eqb-true, eqb-false, eq-eqb, ltb-true, lt-leb, lt-ltb}
use Rattle.ledger.specs.Ledger.{Ledger, Timer}
use Rattle.ledger.specs.Limits.{TIMER-FACTOR}
use Rattle.ledger.specs.Lists.{first, some, those, total}
use Rattle.ledger.specs.Reckon.{due_again, due_now, end_timers, fired_timers, firing, firings, rearmed, redue, sooner, soonest, tick}
use Rattle.ledger.specs.Room.{holdings, messages_left}
use Rattle.pools.specs.Pool.{occurs}
use Rattle.pools.proofs.BoolLaws.{split, true_false, and_left, and_right, and_true}
use Rattle.rules.proofs.Lists.Each.{all_passing}
use Rattle.rules.proofs.Lists.Notices.{some-those}
use Rattle.rules.proofs.Reckoned.Beats.{steps-past}
use Rattle.rules.proofs.Reckoned.Ledger.{those-keep}
use Rattle.rules.proofs.Reckoned.Pages.{order_out}
use Rattle.rules.proofs.Lists.Values.{occurs-map}

-- ---- those of a list, counted
module _ {A : Type 0} where
  -- those that pass and those that do not are all
  those-count : (p : A → Bool) (xs : List A) → length (those p xs) + length (those (λ x. not (p x)) xs) ≡ length xs
  unfolding those
  those-count p [] = refl
  those-count p (x ∷ xs) = split (p x) (λ q. rw q (omega (arith, those-count p xs))) (λ q. rw q (omega (arith, those-count p xs)))

  -- no more pass than there are
  pub those_most : (p : A → Bool) (xs : List A) → length (those p xs) ≤ length xs
  those_most p xs = omega (arith, those-count p xs)

  -- a list of which there is nothing is empty
  none_there : (xs : List A) → length xs ≡ 0 → xs ≡ []
  none_there [] e = refl
  none_there (x ∷ xs) e = absurd (omega arith)

  -- the first that passes, if there is one
  pub first_either : (p : A → Bool) (xs : List A) → (first p xs ≡ []) ⊎ ((x : A) × (first p xs ≡ x ∷ []))
  unfolding first
  first_either p [] = inl refl
  first_either p (x ∷ xs) = split (p x) (λ q. inr (x, rw q)) (λ q. rw q (first_either p xs))

  -- the first that passes does pass
  first_passes : (p : A → Bool) (xs : List A) (x : A) → first p xs ≡ x ∷ [] → p x ≡ true
  first_passes p xs x e = (rw e at (all_passing (λ y. p y ≡ true) p xs (λ y q. q))).0

  -- where at most one passes another test, and the first does, it is the only one
  first_alone : (p q : A → Bool) (xs : List A) (x : A) → first p xs ≡ x ∷ [] → q x ≡ true → length (those q xs) ≤ 1 → those q xs ≡ x ∷ []
  unfolding first those
  first_alone p q [] x e y h = absurd (omega (arith, ap length e))
  first_alone p q (z ∷ zs) x e y h =
      split (p z)
      (λ a. let i : z ≡ x = ap (λ (m : List A). get_or m 0 z) (rw a at e) in
      let b : q z ≡ true = ap q i ∙ y in
      let n : length (z ∷ those q zs) ≤ 1 = rw b at h in
      rw (b, i, none_there (those q zs) (omega arith)))
      (λ a. let f : first p zs ≡ x ∷ [] = rw a at e in
      split (q z)
      (λ b. let n : length (z ∷ those q zs) ≤ 1 = rw b at h in absurd (omega (arith, ap length (first_alone p q zs x f y (omega arith)))))
      (λ b. rw b (first_alone p q zs x f y (rw b at h))))

  -- one that passes the one test passes the other
  pub some_then : (p q : A → Bool) (xs : List A) → ((x : A) → p x ≡ true → q x ≡ true) → some p xs ≡ true → some q xs ≡ true
  unfolding some
  some_then p q [] h e = e
  some_then p q (x ∷ xs) h e =
      split (p x) (λ a. rw (h x a)) (λ a. split (q x) (λ b. rw b) (λ b. rw b (some_then p q xs h (rw a at e))))

  -- where none passes there are none that pass
  none_pass : (p : A → Bool) (xs : List A) → some p xs ≡ false → those p xs ≡ []
  unfolding some those
  none_pass p [] e = refl
  none_pass p (x ∷ xs) e = split (p x) (λ a. true_false true refl (rw a at e)) (λ a. rw a (none_pass p xs (rw a at e)))

  -- where there is no first none passes
  pub none_first : (p : A → Bool) (xs : List A) → first p xs ≡ [] → some p xs ≡ false
  unfolding first some
  none_first p [] e = refl
  none_first p (x ∷ xs) e = split (p x) (λ a. absurd (omega (arith, ap length (rw a at e)))) (λ a. rw a (none_first p xs (rw a at e)))

-- ---- ids
-- a timer's id
abbrev pub is_id : ℕ → Timer → Bool
is_id id t = eqb t.id id

-- no two timers have one id
abbrev pub Once : Ledger → Type 0
Once l = (id : ℕ) → length (those (is_id id) l.time.timers) ≤ 1

-- ---- the timers of an id are due again
-- of those that are due, just they are not any more, where each has an interval
redue-due : (clock id : ℕ) (ts : List Timer) → some (λ u. eqb u.id id && eqb u.interval 0) ts ≡ false →
    those (λ u. leb u.due clock) (map (redue clock id) ts) ≡ those (λ u. not (eqb u.id id)) (those (λ u. leb u.due clock) ts)
unfolding those some
redue-due clock id [] h = refl
redue-due clock id (u ∷ ts) h =
    split (eqb u.id id)
    (λ q. split (eqb u.interval 0)
    (λ z. true_false true refl (rw (q, z) at h))
    (λ z. let n : some (λ u. eqb u.id id && eqb u.interval 0) ts ≡ false = rw (q, z) at h in
    let i = redue-due clock id ts n in
    let next = (due_again clock u).due in
    let w : leb next clock ≡ false = lt-leb next clock (steps-past clock u.interval (suc clock) u.due (eqb-false u.interval 0 z) (omega arith)) in
    split (leb u.due clock) (λ d. rw (q, w, d, q) i) (λ d. rw (q, w, d) i)))
    (λ q. let n : some (λ u. eqb u.id id && eqb u.interval 0) ts ≡ false = rw q at h in
    let i = redue-due clock id ts n in
    split (leb u.due clock) (λ d. rw (q, d, q) (ap (λ (m : List Timer). u ∷ m) i)) (λ d. rw (q, d) i))

-- and each has the id that it had
redue_id : (clock me id : ℕ) (ts : List Timer) → length (those (is_id id) (map (redue clock me) ts)) ≡ length (those (is_id id) ts)
unfolding those
redue_id clock me id [] = refl
redue_id clock me id (u ∷ ts) =
    split (eqb u.id me)
    (λ q. split (eqb u.id id) (λ d. rw (q, d) (ap suc (redue_id clock me id ts))) (λ d. rw (q, d) (redue_id clock me id ts)))
    (λ q. split (eqb u.id id) (λ d. rw (q, d) (ap suc (redue_id clock me id ts))) (λ d. rw (q, d) (redue_id clock me id ts)))

-- the lesser of two numbers, each one up
lesser : (a b : ℕ) → min (suc a) (suc b) ≡ suc (min a b)
lesser a b = omega arith

-- none fires where none is due
pub firings-due : (l : Ledger) → length (due_now l) ≡ 0 → firings l ≡ 0
unfolding firings
firings-due l e = rw e (omega arith)

-- a message takes one entry of each message pool, whatever the rest of the owners of data entries have
message-less : (mails datas boxes rest : ℕ) → (min (mails - boxes) (datas - (boxes + rest)) ≡ 0 → ⊥) → min (mails - boxes) (datas - (boxes + rest)) ≡ suc (min (mails - (boxes + 1)) (datas - (boxes + 1 + rest)))
message-less mails datas boxes rest h =
    let x : mails - boxes ≡ suc (mails - (boxes + 1)) = less mails boxes (boxes + 1) (omega arith) (omega arith) in
    let y : datas - (boxes + rest) ≡ suc (datas - (boxes + 1 + rest)) = less datas (boxes + rest) (boxes + 1 + rest) (omega arith) (omega arith) in
    rw (x, y) (lesser (mails - (boxes + 1)) (datas - (boxes + 1 + rest)))
  where
    -- one less
    less : (a b c : ℕ) → c ≡ b + 1 → 0 < a - b → a - b ≡ suc (a - c)
    less a b c e g = omega arith

-- ---- one timer fires, the soonest
-- a due timer that comes before t
abbrev ahead : ℕ → Timer → Timer → Bool
ahead clock t u = leb u.due clock && sooner u t

-- it is the soonest of some
abbrev of_all : ℕ → List Timer → Timer → Bool
of_all clock ts t = leb t.due clock && not (some (ahead clock t) ts)

module _ (l : Ledger) (once : Once l) (t : Timer) (is : soonest l.time.clock l.time.timers ≡ t ∷ []) where
  -- it is due
  soonest-due : leb t.due l.time.clock ≡ true
  unfolding soonest
  soonest-due =
      let c = l.time.clock in
      and_left (leb t.due c) (not (some (ahead c t) l.time.timers)) (first_passes (of_all c l.time.timers) l.time.timers t is)

  -- and the only one of its id
  alone : those (is_id t.id) l.time.timers ≡ t ∷ []
  unfolding soonest
  alone = first_alone (of_all l.time.clock l.time.timers) (is_id t.id) l.time.timers t is (eq-eqb t.id t.id refl) (once t.id)

  -- of the due timers it is the only one of its id
  due_alone : those (is_id t.id) (due_now l) ≡ t ∷ []
  unfolding those
  due_alone = order_out (is_id t.id) (λ u. leb u.due l.time.clock) l.time.timers ∙ rw (alone, soonest-due)

  -- THE LAW: once it has fired, just it is not due any more
  due-fired : due_now (firing (t ∷ []) l) ≡ those (λ u. not (eqb u.id t.id)) (due_now l)
  unfolding firing rearmed end_timers some
  due-fired =
      split (eqb t.interval 0)
      (λ q. rw q (order_out (λ u. leb u.due l.time.clock) (λ u. not (eqb u.id t.id)) l.time.timers))
      (λ q. rw q (redue-due l.time.clock t.id l.time.timers (sym (some-those (λ u. eqb u.interval 0) (is_id t.id) l.time.timers) ∙ ap (some (λ u. eqb u.interval 0)) alone ∙ rw q)))

  -- one due timer less
  pub due-less : length (due_now l) ≡ suc (length (due_now (firing (t ∷ []) l)))
  due-less = rw due-fired (omega (arith, those-count (is_id t.id) (due_now l), ap length due_alone))

  -- room for one message less
  room_less : (messages_left l ≡ 0 → ⊥) → messages_left l ≡ suc (messages_left (firing (t ∷ []) l))
  unfolding firing rearmed end_timers
  room_less h =
      let n = length-append l.mail.boxes (tick t ∷ []) in
      let e = message-less l.sizes.mails l.sizes.datas (length l.mail.boxes) (total (drop 1 (holdings l))) h in
      split (eqb t.interval 0) (λ q. rw (q, n) e) (λ q. rw (q, n) e)

  -- one less to fire
  pub firings-less : (messages_left l ≡ 0 → ⊥) → firings l ≡ suc (firings (firing (t ∷ []) l))
  unfolding firings
  firings-less h = ap₂ (λ (x y : ℕ). min x y) due-less (room_less h) ∙ lesser (length (due_now (firing (t ∷ []) l))) (messages_left (firing (t ∷ []) l))

  -- no two timers have one id still
  once-fired : Once (firing (t ∷ []) l)
  unfolding firing rearmed end_timers
  once-fired id =
      split (eqb t.interval 0)
      (λ q. rw (q, order_out (is_id id) (λ u. not (eqb u.id t.id)) l.time.timers) (omega (arith, those_most (λ u. not (eqb u.id t.id)) (those (is_id id) l.time.timers), once id)))
      (λ q. rw (q, redue_id l.time.clock t.id id l.time.timers) (once id))

-- ---- n times the soonest
-- there is one, or none
soonest_either : (clock : ℕ) (ts : List Timer) → (soonest clock ts ≡ []) ⊎ ((t : Timer) × (soonest clock ts ≡ t ∷ []))
unfolding soonest
soonest_either clock ts = first_either (of_all clock ts) ts

-- one of ds, and then some of the others: of each id no more than in ds
few-more : (id : ℕ) (t : Timer) (ts ds : List Timer) → those (is_id t.id) ds ≡ t ∷ [] → length (those (is_id id) ts) ≤ length (those (is_id id) (those (λ u. not (eqb u.id t.id)) ds)) →
    length (those (is_id id) (t ∷ ts)) ≤ length (those (is_id id) ds)
unfolding those
few-more id t ts ds e h =
    let n : those (is_id id) (those (λ u. not (eqb u.id t.id)) ds) ≡ those (λ u. not (eqb u.id t.id)) (those (is_id id) ds) = order_out (is_id id) (λ u. not (eqb u.id t.id)) ds in
    split (eqb t.id id)
    (λ q. let i : t.id ≡ id = eqb-true t.id id q in
    let d : those (is_id id) ds ≡ t ∷ [] = subst (λ (j : ℕ). those (is_id j) ds ≡ t ∷ []) i e in
    let z : length (those (λ u. not (eqb u.id t.id)) (those (is_id id) ds)) ≡ 0 = rw (d, eq-eqb t.id t.id refl) in
    rw q (omega (arith, h, ap length n, z, ap length d)))
    (λ q. rw q (omega (arith, h, ap length n, those_most (λ u. not (eqb u.id t.id)) (those (is_id id) ds))))

-- of each id no more fire than are due
fired-few : (n : ℕ) (l : Ledger) → Once l → (id : ℕ) → length (those (is_id id) (fired_timers n l)) ≤ length (those (is_id id) (due_now l))
unfolding fired_timers firing those
fired-few zero l once id = omega arith
fired-few (suc n) l once id =
    ⊎_elim
    (λ e. rw e (fired-few n l once id))
    (λ x. let i = fired-few n (firing (x.0 ∷ []) l) (once-fired l once x.0 x.1) id in
    rw x.1 (few-more id x.0 (fired_timers n (firing (x.0 ∷ []) l)) (due_now l) (due_alone l once x.0 x.1) (rw (due-fired l once x.0 x.1) at i)))
    (soonest_either l.time.clock l.time.timers)

-- ---- there is a soonest where one is due
-- a number by which timers are ordered: by due time, equal ones by lower slot
abbrev rank : Timer → ℕ
rank t = t.due * TIMER-FACTOR + t.id % TIMER-FACTOR

-- a sooner timer has a lower one
sooner-rank : (t u : Timer) → sooner t u ≡ true → rank t < rank u
sooner-rank t u e =
    split (ltb t.due u.due)
    (λ q. omega (arith, ltb-true t.due u.due q))
    (λ q. let y : eqb t.due u.due && ltb (t.id % TIMER-FACTOR) (u.id % TIMER-FACTOR) ≡ true = rw q at e in
    omega (
      arith,
      eqb-true t.due u.due (and_left (eqb t.due u.due) (ltb (t.id % TIMER-FACTOR) (u.id % TIMER-FACTOR)) y),
      ltb-true
          (t.id % TIMER-FACTOR) (u.id % TIMER-FACTOR) (and_right (eqb t.due u.due) (ltb (t.id % TIMER-FACTOR) (u.id % TIMER-FACTOR)) y),
    ))

module _ (clock : ℕ) where
  -- it is due, and of a rank below n
  abbrev early : ℕ → Timer → Bool
  early n t = leb t.due clock && ltb (rank t) n

  -- where none is earlier, an early one is the soonest
  early-soonest : (n : ℕ) (ts : List Timer) (t : Timer) → early (suc n) t ≡ true → some (early n) ts ≡ false → of_all clock ts t ≡ true
  early-soonest n ts t e z =
      let d = and_left (leb t.due clock) (ltb (rank t) (suc n)) e in
      let h = ltb-true (rank t) (suc n) (and_right (leb t.due clock) (ltb (rank t) (suc n)) e) in
      rw d (split (some (ahead clock t) ts)
      (λ q. true_false (some (early n) ts) (some_then (ahead clock t) (early n) ts (λ u a.
      and_true (leb u.due clock) (ltb (rank u) n) (and_left (leb u.due clock) (sooner u t) a)
      (lt-ltb (rank u) n (omega (arith, sooner-rank u t (and_right (leb u.due clock) (sooner u t) a))))) q) z)
      (λ q. rw q))

  -- where one is early there is a soonest
  early-some : (n : ℕ) (ts : List Timer) → some (early n) ts ≡ true → some (of_all clock ts) ts ≡ true
  early-some zero ts e =
      some_then (early 0) (of_all clock ts) ts (λ t q. absurd (omega (arith, ltb-true (rank t) 0 (and_right (leb t.due clock) (ltb (rank t) 0) q)))) e
  early-some (suc n) ts e =
      split (some (early n) ts) (early-some n ts) (λ z. some_then (early (suc n)) (of_all clock ts) ts (λ t q. early-soonest n ts t q z) e)

  -- where one is due one is early
  early-there : (ts : List Timer) → some (λ t. leb t.due clock) ts ≡ true → (n : ℕ) × (some (early n) ts ≡ true)
  unfolding some
  early-there [] e = (0, e)
  early-there (t ∷ ts) e =
      split (leb t.due clock)
      (λ q. (suc (rank t), rw (q, lt-ltb (rank t) (suc (rank t)) (omega arith))))
      (λ q. let r = early-there ts (rw q at e) in (r.0, rw q r.1))

  -- THE LAW: where there is no soonest, none is due
  pub none_soonest : (ts : List Timer) → soonest clock ts ≡ [] → those (λ t. leb t.due clock) ts ≡ []
  unfolding soonest
  none_soonest ts e =
      split (some (λ t. leb t.due clock) ts)
      (λ q. let r = early-there ts q in true_false (some (of_all clock ts) ts) (early-some r.0 ts r.1) (none_first (of_all clock ts) ts e))
      (none_pass (λ t. leb t.due clock) ts)

-- THE LAW: of the timers that are due as many fire as are asked for
pub fired-all : (n : ℕ) (l : Ledger) → Once l → n ≤ length (due_now l) → length (fired_timers n l) ≡ n
unfolding fired_timers firing
fired-all zero l once h = refl
fired-all (suc n) l once h =
    ⊎_elim
    (λ e. absurd (omega (arith, ap length (none_soonest l.time.clock l.time.timers e))))
    (λ x. rw x.1 (ap suc (fired-all n (firing (x.0 ∷ []) l) (once-fired l once x.0 x.1) (omega (arith, due-less l once x.0 x.1)))))
    (soonest_either l.time.clock l.time.timers)

-- THE LAW: where no two timers have one id, no timer fires twice in one advance
pub fired-once : (n : ℕ) (l : Ledger) → Once l → (id : ℕ) → occurs id (map (λ t. t.id) (fired_timers n l)) ≤ 1
fired-once n l once id =
    rw (occurs-map id (λ t. t.id) (fired_timers n l), sym (those-keep (is_id id) (fired_timers n l)))
    (omega (arith, fired-few n l once id, ap length (order_out (is_id id) (λ u. leb u.due l.time.clock) l.time.timers), those_most (λ u. leb u.due l.time.clock) (those (is_id id) l.time.timers), once id))
