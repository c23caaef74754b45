-- What each page of the reckoning does to the mailboxes, to who is known and to a metronome.
use Prim.Native.Nat.{ℕ, zero, suc}
use mathlib.Core.Path.{◌≡◌, refl, sym, ap, subst, ◌∙◌}
use mathlib.Core.Logic.{◌⊎◌}
use mathlib.Core.Bool.{Bool, true, false, ◌||◌}
use mathlib.Core.List.{List, [], ◌∷◌, ◌++◌, map, append_assoc, append-nil, map-append}
use lib.Dec.{eqb}
use Rattle.ledger.specs.Call.{Op}
use Rattle.ledger.specs.Call.Op.{after, every, spawn}
use Rattle.ledger.specs.Ledger.{Actor, Ledger, Mail, Message, Timer, Value}
use Rattle.ledger.specs.Lists.{but_first, some, those}
use Rattle.ledger.specs.Reckon.{end_timers, fired_timers, fires, firing, page, reading, rearmed, sent, soonest, tick, ticks}
use Rattle.ledger.specs.Room.{known}
use Rattle.pools.proofs.BoolLaws.{split, true_false}
use Rattle.rules.proofs.Reckoned.Beats.{Beating}

-- ---- one list of messages
module _ {A : Type 0} (q : A → Bool) where
  -- those of two lists, one after the other
  pub those-both : (xs ys : List A) → those q (xs ++ ys) ≡ those q xs ++ those q ys
  unfolding those
  those-both [] ys = refl
  those-both (x ∷ xs) ys = split (q x) (λ r. rw r (ap (λ (m : List A). x ∷ m) (those-both xs ys))) (λ r. rw r (those-both xs ys))

  -- THE LAW of taking many out: of those that pass q, it takes out the same, and the others stay in their order
  pub order_out : (p : A → Bool) (xs : List A) → those q (those p xs) ≡ those p (those q xs)
  unfolding those
  order_out p [] = refl
  order_out p (x ∷ xs) =
      split (p x)
      (λ a. split (q x) (λ b. rw (a, b, a) (ap (λ (m : List A). x ∷ m) (order_out p xs))) (λ b. rw (a, b) (order_out p xs)))
      (λ a. split (q x) (λ b. rw (a, b, a) (order_out p xs)) (λ b. rw (a, b) (order_out p xs)))

-- ---- a list within another: some of it, in its order
pub data Within {A : Type 0} : List A → List A → Type 0 where
  none : Within [] []
  goes : {x : A} {xs ys : List A} → Within xs ys → Within xs (x ∷ ys)
  stays : {x : A} {xs ys : List A} → Within xs ys → Within (x ∷ xs) (x ∷ ys)

module _ {A : Type 0} where
  -- all of it
  pub within_all : (xs : List A) → Within xs xs
  within_all [] = Within.none
  within_all (x ∷ xs) = Within.stays (within_all xs)

  -- those that pass
  pub within-those : (p : A → Bool) (xs : List A) → Within (those p xs) xs
  unfolding those
  within-those p [] = Within.none
  within-those p (x ∷ xs) = split (p x) (λ a. rw a (Within.stays (within-those p xs))) (λ a. rw a (Within.goes (within-those p xs)))

  -- all but the first that passes
  pub within-but : (p : A → Bool) (xs : List A) → Within (but_first p xs) xs
  unfolding but_first
  within-but p [] = Within.none
  within-but p (x ∷ xs) = split (p x) (λ a. rw a (Within.goes (within_all xs))) (λ a. rw a (Within.stays (within-but p xs)))

  -- within what is within
  pub within_then : {xs ys zs : List A} → Within xs ys → Within ys zs → Within xs zs
  within_then a Within.none = a
  within_then a (Within.goes b) = Within.goes (within_then a b)
  within_then (Within.goes a) (Within.stays b) = Within.goes (within_then a b)
  within_then (Within.stays {xs = xs} a) (Within.stays {xs = ys} {ys = zs} b) = Within.stays (within_then {xs = xs} {ys = ys} {zs = zs} a b)

  -- of both lists those that pass
  pub within_of : {xs ys : List A} (q : A → Bool) → Within xs ys → Within (those q xs) (those q ys)
  unfolding those
  within_of q Within.none = Within.none
  within_of q (Within.goes {x} a) = split (q x) (λ b. rw b (Within.goes (within_of q a))) (λ b. rw b (within_of q a))
  within_of q (Within.stays {x} a) = split (q x) (λ b. rw b (Within.stays (within_of q a))) (λ b. rw b (within_of q a))

  -- none of it
  pub within_none : (ys : List A) → Within [] ys
  within_none [] = Within.none
  within_none (y ∷ ys) = Within.goes (within_none ys)

  -- with more after it
  pub within_more : {xs ys : List A} (m : List A) → Within xs ys → Within (xs ++ m) (ys ++ m)
  within_more m Within.none = within_all m
  within_more m (Within.goes a) = Within.goes (within_more m a)
  within_more m (Within.stays a) = Within.stays (within_more m a)

  -- with nothing after it
  pub within_end : {xs ys : List A} → Within xs ys → Within xs (ys ++ [])
  within_end {xs} {ys} a = subst (λ (m : List A). Within xs m) (sym (append-nil ys)) a

-- ---- the mailboxes and who is known after timers fire
-- a timer that fires ends or is due again, which sends nothing and changes nobody
rearmed_else : (l : Ledger) (t : Timer) → ((rearmed l t).mail ≡ l.mail) × ((rearmed l t).people ≡ l.people)
unfolding rearmed end_timers
rearmed_else l t = split (eqb t.interval 0) (λ q. rw q (refl, refl)) (λ q. rw q (refl, refl))

-- timers that fire
firing_does : (ts : List Timer) (l : Ledger) → ((firing ts l).mail.boxes ≡ l.mail.boxes ++ map tick ts) × ((firing ts l).people ≡ l.people)
unfolding firing
firing_does [] l = (sym (append-nil l.mail.boxes), refl)
firing_does (t ∷ ts) l =
    let h = firing_does ts (sent (tick t ∷ []) (rearmed l t)) in
    let e = rearmed_else l t in
    (h.0 ∙ append_assoc (rearmed l t).mail.boxes (tick t ∷ []) (map tick ts) ∙ ap (λ (m : Mail). m.boxes ++ (tick t ∷ map tick ts)) e.0, h.1 ∙ e.1)

-- n times the soonest: ticks arrive, and nobody changes
pub fires_does : (n : ℕ) (l : Ledger) → ((fires n l).mail.boxes ≡ l.mail.boxes ++ ticks n l) × ((fires n l).people ≡ l.people)
unfolding fires fired_timers
fires_does zero l = (sym (append-nil l.mail.boxes), refl)
fires_does (suc n) l =
    let ts = soonest l.time.clock l.time.timers in
    let h = fires_does n (firing ts l) in
    let e = firing_does ts l in (
      h.0
          ∙ ap (λ (m : List Message). m ++ ticks n (firing ts l)) e.0
          ∙ append_assoc l.mail.boxes (map tick ts) (ticks n (firing ts l))
          ∙ ap (λ (m : List Message). l.mail.boxes ++ m) (sym (map-append tick ts (fired_timers n (firing ts l)))),
      h.1 ∙ e.1,
    )

-- ---- a value that is read, or none: nothing is sent, and neither anybody nor a timer changes
pub reading_else : (b id : ℕ) (vs : List Value) (l : Ledger) → ((reading b id vs l).mail ≡ l.mail) × ((reading b id vs l).people ≡ l.people) × ((reading b id vs l).time ≡ l.time)
unfolding reading
reading_else b id [] l = (refl, refl, refl)
reading_else b id (v ∷ vs) l = (refl, refl, refl)

-- ---- who is known
-- who is among the actors and one more is among them or is that one
pub more-some : (p : Actor → Bool) (xs : List Actor) (y : Actor) → some p (xs ++ (y ∷ [])) ≡ true → (p y ≡ false) → some p xs ≡ true
unfolding some
more-some p [] y e n = true_false (p y || false) e (rw n)
more-some p (x ∷ xs) y e n = split (p x) (λ a. rw a) (λ a. rw a (more-some p xs y (rw a at e) n))

-- ---- a metronome
-- a call that arms a timer
abbrev pub Arms : Op → Type 0
Arms o = ((delay : ℕ) × (o ≡ after delay)) ⊎ ((interval : ℕ) × (o ≡ every interval))

-- a metronome stays on its beat: where the call was done, unless it armed another timer under that id, and where it was not met
abbrev pub Steady : Op → Type 0
Steady o =
    ((id first interval r : ℕ) (l : Ledger) → (Arms o → r ≡ id → ⊥) → Beating id first interval l.time → Beating id first interval ((page o).done r l).time)
    × ((id first interval n : ℕ) (l : Ledger) → Beating id first interval l.time → Beating id first interval ((page o).unmet n l).time)

-- as of a call that leaves the clock and the timers
pub steadily : (o : Op) → ((n : ℕ) (l : Ledger) → (((page o).done n l).time ≡ l.time) × (((page o).unmet n l).time ≡ l.time)) → Steady o
steadily o e = (λ id first interval r l m h. subst (Beating id first interval) (sym (e r l).0) h, λ id first interval n l h. subst (Beating id first interval) (sym (e n l).1) h)

-- ---- THE LAWS OF A PAGE
pub record Paged (o : Op) : Type 0 where
  -- the mailboxes hold nothing but what they held and after it what was sent, in this order
  pub order : (r : ℕ) (l : Ledger) → Within ((page o).done r l).mail.boxes (l.mail.boxes ++ (page o).sends l)
  pub boxes : (n : ℕ) (l : Ledger) → ((page o).unmet n l).mail.boxes ≡ l.mail.boxes
  -- who is known was, or is the actor that was spawned
  pub knows : (id r : ℕ) (l : Ledger) → ((priority : ℕ) → o ≡ spawn priority → r ≡ id → ⊥) → known ((page o).done r l) id ≡ true → known l id ≡ true
  pub knew : (id n : ℕ) (l : Ledger) → known ((page o).unmet n l) id ≡ true → known l id ≡ true
  -- a metronome stays on its beat
  pub steady : Steady o

-- a page that sends nothing, leaves the mailboxes and who is alive, and is always met
pub silently : (o : Op) → ((r : ℕ) (l : Ledger) →
    (((page o).done r l).mail.boxes ≡ l.mail.boxes) × ((page o).sends l ≡ []) × (((page o).done r l).people.live ≡ l.people.live) × ((page o).unmet r l ≡ l)) → Steady o → Paged o
silently o h steady = record {
  order = λ r l. rw ((h r l).0, (h r l).1) (within_end (within_all l.mail.boxes));
  boxes = λ n l. rw (h n l).3;
  knows = λ id r l n e. rw (h r l).2 at e;
  knew = λ id n l e. rw (h n l).3 at e;
  steady = steady;
}

-- and the clock and the timers too
pub quietly : (o : Op) → ((r : ℕ) (l : Ledger) →
    (((page o).done r l).mail.boxes ≡ l.mail.boxes) × ((page o).sends l ≡ []) × (((page o).done r l).people.live ≡ l.people.live) × ((page o).unmet r l ≡ l)
    × (((page o).done r l).time ≡ l.time)) → Paged o
quietly o h = silently o (λ r l. let e = h r l in (e.0, e.1, e.2, e.3)) (steadily o (λ r l. ((h r l).4, ap (λ (m : Ledger). m.time) (h r l).3)))
