-- Exit, step by step: what a notice, a link and a monitor that end leave of the columns, and what stays true of the actor that ends.
use Prim.Native.Nat.{ℕ, zero, suc, ◌-◌, ◌≤◌, ◌<◌}
use native.Mathlib.Omega.{arith}
use mathlib.Core.Path.{◌≡◌, refl, sym, ap, subst, ◌∙◌}
use mathlib.Core.Logic.{◌⊎◌, inl, inr, ⊎_elim}
use mathlib.Core.Bool.{Bool, true, false, cond, not, ◌&&◌, or-true}
use mathlib.Core.List.{List}
use native.Mathlib.Decide.{dec_lt}
use lib.ListN.{length, set, get_or-eq_default}
use lib.Seq.{get_or-set_same}
use lib.Dec.{eqb, ltb, lit<}
use borrow.Author.Tests.{eqb-true, eqb-false, eq-eqb, ne_eqb, ltb-true, ltb-false, lt-ltb, le-ltb}
use Rattle.pools.proofs.BoolLaws.{split, true_false}
use Rattle.pools.proofs.PoolLaws.{lowest-at, lowest-first}
use Rattle.records.specs.Header.{packed}
use Rattle.records.specs.Records.{exit_bytes}
use Rattle.tables.specs.declared.Caps.{Caps}
use Rattle.tables.specs.Columns.{AGE, HAND, LINK-ONE, LINK-TWO, MAIL-OWNER, STATE, WATCHED, WATCHER}
use Rattle.tables.specs.State.{Sized, State, at, poke, with_col}
use Rattle.tables.specs.Action.{push, take_bit, write}
use Rattle.rules.specs.Terms.{alive, joins, monitor_id}
use Rattle.rules.specs.Sound.{pair_rule, sender_rule}
use Rattle.rules.specs.Actions.{enlist, has_room, hears, mail_for, post, ready, unwait, data_for, fill, stir}
use Rattle.rules.specs.Calls.{Told, cut_link, cut_links, cut_monitor, cut_monitors, link_of, missed, noticed, tell, tie, told, unwatch}
use Rattle.rules.specs.Rule.{Holds}
use Rattle.rules.specs.Aged.{monitor_pool}
use Rattle.rules.proofs.Frames.Pools.{use_ends}
use Rattle.rules.specs.Good.{Going, Good}
use Rattle.rules.proofs.Lists.Columns.{alive-below, set_so}
use Rattle.rules.proofs.Lists.Ties.{below, below_no, below_none, below_yes, cond_twice, joins_beside, joins-ends, joins_none, pair_once, step, used_inside}
use Rattle.rules.proofs.Frames.Wrote.{Wrote, wrote_none, wrote_over, wrote_still}
use Rattle.rules.proofs.Frames.Actions.{EYE-CUT, LINK-CUT, POSTED, wrote_post, wrote_tie}
use Rattle.rules.proofs.Kept.Ties.{unwatch_keeps, untie_keeps}
use Rattle.rules.proofs.Kept.Messages.{Fine, exit_fine, post-alive, post_keeps, sender_fine}
use Rattle.rules.proofs.Kept.Clauses.{link_ends, monitor-ends}

-- ---- what a message leaves
-- the owners of mailbox entries: one entry is the target's
pub post_owner : (k : Caps) (s : State) (a sender heading : ℕ) (payload : List ℕ) → post k s a sender heading payload MAIL-OWNER ≡ set (s MAIL-OWNER) (mail_for k s) (suc a)
unfolding post stir fill enlist write ready unwait push poke with_col take_bit
post_owner k s a sender heading payload =
    split (hears (enlist (fill s (data_for k s) sender heading payload) (mail_for k s) a (data_for k s)) a sender heading) (λ q. rw q) (λ q. rw q)

-- its exit notice is what is asked of a message
pub going_fine : {k : Caps} {a me : ℕ} {s : State} → Going k a me s → (reason monitor : ℕ) → Fine (s AGE) me (packed 4 1 0) (exit_bytes me reason monitor)
going_fine {k} {a} {me} {s} w reason monitor = exit_fine (s AGE) me reason monitor (subst (λ (i : ℕ). Holds (sender_rule (s AGE) 4 i)) w.id (sender_fine k s a 4 w.good w.there))

-- a change that leaves these columns and who is alive as they are, and a sound state
pub going_on : {k : Caps} {a me : ℕ} {s : State} (u : State) → Going k a me s → Good k u → alive (u STATE) ≡ alive (s STATE) → u AGE ≡ s AGE → u HAND ≡ s HAND → ((e : ℕ) → at u MAIL-OWNER e ≡ suc a → ⊥) → Going k a me u
going_on {a = a} u w g r y h m = record { good = g; there = ap (λ (f : ℕ → Bool). f a) r ∙ w.there; id = rw y w.id; mail = m; hand = rw h w.hand }

-- ---- a notice
module _ (k : Caps) (t : Told) (a me reason monitor : ℕ) where
  -- there is room for it
  pub tell-sent : has_room k t.state ≡ true → tell k t a me reason monitor ≡ noticed k t a me reason monitor
  unfolding tell
  tell-sent q = rw q

  -- there is none: it is lost
  pub tell_lost : has_room k t.state ≡ false → tell k t a me reason monitor ≡ missed t
  unfolding tell
  tell_lost q = rw q

  -- it writes what a message writes
  pub tell_wrote : Wrote POSTED t.state (tell k t a me reason monitor).state
  tell_wrote =
      split (has_room k t.state) (λ r. rw (tell-sent r) (wrote_post k t.state a me (packed 4 1 0) (exit_bytes me reason monitor))) (λ r. rw (tell_lost r) (wrote_still POSTED t.state))

-- to another live actor
pub tell_going : (k : Caps) (t : Told) (a b me reason monitor : ℕ) → Going k a me t.state → alive (t.state STATE) b ≡ true → (b ≡ a → ⊥) → Going k a me (tell k t b me reason monitor).state
tell_going k t a b me reason monitor w there n =
    let s = t.state in
    split (has_room k s)
    (λ r. let u = post k s b me (packed 4 1 0) (exit_bytes me reason monitor) in
    let p = (wrote_post k s b me (packed 4 1 0) (exit_bytes me reason monitor)).cols in
    rw (tell-sent k t b me reason monitor r)
    (going_on u w (post_keeps k s b w.good there me (packed 4 1 0) (exit_bytes me reason monitor) r (going_fine w reason monitor)) (post-alive k s b me (packed 4 1 0) (exit_bytes me reason monitor)) (p AGE refl) (p HAND refl)
    (rw (post_owner k s b me (packed 4 1 0) (exit_bytes me reason monitor))
    (λ e. set_so (λ x. x ≡ suc a → ⊥) (s MAIL-OWNER) (mail_for k s) (suc b) e (λ q. n (omega arith)) (w.mail e)))))
    (λ r. rw (tell_lost k t b me reason monitor r) w)

-- ---- links with slot a end
-- an entry that joins two slots joins the first with no third
joins-two : (one two : List ℕ) (x y z e : ℕ) → joins one two x y e ≡ true → (z ≡ y → ⊥) → joins one two x z e ≡ false
joins-two one two x y z e q n =
    split (joins one two x z e)
    (λ r. ⊎_elim
    (λ p. ⊎_elim (λ o. absurd (n (sym o.1 ∙ p.1))) (λ o. absurd (n (sym o.0 ∙ p.0 ∙ sym o.1 ∙ p.1))) (joins-ends one two x z e r))
    (λ p. ⊎_elim (λ o. absurd (n (sym o.1 ∙ p.1 ∙ sym o.0 ∙ p.0))) (λ o. absurd (n (sym o.0 ∙ p.0))) (joins-ends one two x z e r))
    (joins-ends one two x y e q))
    (λ r. r)

-- once the entry that joins x and y ends, x is joined with the others as before, and with y no more
joins-cut : (n : ℕ) (one two : List ℕ) (x y e : ℕ) → ((d : ℕ) → d < n → joins one two x y d ≡ true → d ≡ e) → e < n → e < length one → (x ≡ 0 → ⊥) → joins one two x y e ≡ true →
    (z d : ℕ) → (z ≡ 0 → ⊥) → d < n → joins (set one e 0) (set two e 0) x z d ≡ not (eqb z y) && joins one two x z d
joins-cut n one two x y e once l m p q z d o b =
    split (eqb d e)
    (λ r. let v = eqb-true d e r in
    let w : joins (set one e 0) (set two e 0) x z e ≡ false = joins_none (set one e 0) (set two e 0) x z e p o (get_or-set_same one e 0 0 m) in
    rw (v, w) (split (eqb z y) (λ i. rw i) (λ i. rw (i, joins-two one two x y z e q (eqb-false z y i)))))
    (λ r. rw (joins_beside one two 0 0 x z e d r)
    (split (eqb z y)
    (λ i. rw (i, eqb-true z y i) (split (joins one two x y d) (λ j. absurd (eqb-false d e r (once d b j))) (λ j. j)))
    (λ i. rw i)))

-- the links of slot a with the slots below b have ended, and nothing else of links, nor of what no message writes, changed
pub record Cut (k : Caps) (a me b : ℕ) (s u : State) : Type 0 where
  pub going : Going k a me u
  pub wrote : Wrote LINK-CUT s u
  pub joined : (c e : ℕ) → e < k.links → joins (u LINK-ONE) (u LINK-TWO) (suc a) (suc c) e ≡ not (ltb c b) && joins (s LINK-ONE) (s LINK-TWO) (suc a) (suc c) e

module _ (k : Caps) (a me reason b : ℕ) (t : Told) where
  -- there is a link with slot b
  pub cut_link_yes : ltb (link_of k t.state (suc a) (suc b)) k.links ≡ true →
      cut_link k a me reason b t ≡ tell k (told t.sent t.lost (tie t.state (link_of k t.state (suc a) (suc b)) 0 0)) b me reason 0
  unfolding cut_link
  cut_link_yes q = rw q

  -- there is none
  pub cut_link_no : ltb (link_of k t.state (suc a) (suc b)) k.links ≡ false → cut_link k a me reason b t ≡ t
  unfolding cut_link
  cut_link_no q = rw q

-- the link with slot b is found: it joins the two, and the partner is alive and another
pub link_found : (k : Caps) (s : State) (a b : ℕ) → Good k s → ltb (link_of k s (suc a) (suc b)) k.links ≡ true →
    (link_of k s (suc a) (suc b) < k.links) × (joins (s LINK-ONE) (s LINK-TWO) (suc a) (suc b) (link_of k s (suc a) (suc b)) ≡ true) × (alive (s STATE) b ≡ true) × (b ≡ a → ⊥)
link_found k s a b g q =
    let e = link_of k s (suc a) (suc b) in
    let l = ltb-true e k.links q in
    let j = lowest-at (joins (s LINK-ONE) (s LINK-TWO) (suc a) (suc b)) k.links l in
    let h = link_ends g e l (λ z. true_false (joins (s LINK-ONE) (s LINK-TWO) (suc a) (suc b) e) j
    (joins_none (s LINK-ONE) (s LINK-TWO) (suc a) (suc b) e (λ z. omega arith) (λ z. omega arith) z)) in
    ⊎_elim
    (λ p. let v : at s LINK-TWO e - 1 ≡ b = omega (arith, p.1) in (l, j, rw v at h.two_lives, λ z. h.differ (p.0 ∙ ap suc (sym z) ∙ sym p.1)))
    (λ p. let v : at s LINK-ONE e - 1 ≡ b = omega (arith, p.0) in (l, j, rw v at h.one_lives, λ z. h.differ (p.0 ∙ ap suc z ∙ sym p.1)))
    (joins-ends (s LINK-ONE) (s LINK-TWO) (suc a) (suc b) e j)

-- the link that ends
pub untied : (k : Caps) (s u : State) (a me b e : ℕ) → Cut k a me b s u → e < k.links → joins (u LINK-ONE) (u LINK-TWO) (suc a) (suc b) e ≡ true → Cut k a me (suc b) s (tie u e 0 0)
unfolding tie poke with_col pair_rule
untied k s u a me b e w l q =
    let g = w.going.good in
    record {
      going = going_on (tie u e 0 0) w.going (untie_keeps k u g e l) refl refl refl w.going.mail;
      wrote = wrote_over LINK-CUT w.wrote (wrote_tie (wrote_none u) e 0 0) refl;
      joined = λ c d m.
          joins-cut k.links (u LINK-ONE) (u LINK-TWO) (suc a) (suc b) e
          (λ d m j. pair_once k.links (u LINK-ONE) (u LINK-TWO) g.pairs (suc a) (suc b) d e m l (λ z. omega arith) (λ z. omega arith) j q)
          l (omega (arith, g.sized.words LINK-ONE (lit< tt))) (λ z. omega arith) q (suc c) d (λ z. omega arith) m
          ∙ split (eqb c b)
          (λ i. let v = eqb-true c b i in rw (eq-eqb (suc c) (suc b) (ap suc v), lt-ltb c (suc b) (omega arith)))
          (λ i. let v = eqb-false c b i in rw (ne_eqb (suc c) (suc b) (λ z. v (omega arith)), w.joined c d m, step b c i));
    }

-- one more
pub cut_link_cuts : (k : Caps) (s : State) (t : Told) (a me reason b : ℕ) → Cut k a me b s t.state → Cut k a me (suc b) s (cut_link k a me reason b t).state
cut_link_cuts k s t a me reason b w =
    let u = t.state in
    let e = link_of k u (suc a) (suc b) in
    split (ltb e k.links)
    (λ q. let f = link_found k u a b w.going.good q in
    let x = untied k s u a me b e w f.0 f.1 in
    let v = told t.sent t.lost (tie u e 0 0) in
    let p = tell_wrote k v b me reason 0 in
    rw (cut_link_yes k a me reason b t q) (record {
      going = tell_going k v a b me reason 0 x.going (rw ((wrote_tie (wrote_none u) e 0 0).cols STATE refl) f.2) f.3;
      wrote = wrote_over LINK-CUT x.wrote p refl;
      joined = λ c e l. rw (p.cols LINK-ONE refl, p.cols LINK-TWO refl) (x.joined c e l);
    }))
    (λ q. rw (cut_link_no k a me reason b t q) (record {
      going = w.going;
      wrote = w.wrote;
      joined = λ c d l. split (eqb c b)
          (λ i. let v = eqb-true c b i in
          rw (v, lt-ltb b (suc b) (omega arith)) (lowest-first (joins (u LINK-ONE) (u LINK-TWO) (suc a) (suc b)) k.links d
          (omega (arith, ltb-false e k.links q))))
          (λ i. rw (step b c i) (w.joined c d l));
    }))

-- all below n
pub cut_links_cuts : (k : Caps) (s : State) (t : Told) (a me reason n : ℕ) → Cut k a me 0 s t.state → Cut k a me n s (cut_links k a me reason n t).state
unfolding cut_links
cut_links_cuts k s t a me reason zero w = w
cut_links_cuts k s t a me reason (suc n) w = cut_link_cuts k s (cut_links k a me reason n t) a me reason n (cut_links_cuts k s t a me reason n w)

-- before the first nothing has changed
pub cut_none : (k : Caps) (s : State) (a me : ℕ) → Going k a me s → Cut k a me 0 s s
cut_none k s a me w = record { going = w; wrote = wrote_still LINK-CUT s; joined = λ c e l. rw (le-ltb c 0 (omega arith)) }

-- ---- monitors on slot a end
-- the monitors on slot a below n have ended, and nothing else of monitors, nor of what no message writes, changed
pub record Unseen (k : Caps) (a me n : ℕ) (s u : State) : Type 0 where
  pub going : Going k a me u
  pub wrote : Wrote EYE-CUT s u
  pub watcher : (e : ℕ) → at u WATCHER e ≡ cond (below (s WATCHED) (suc a) n e) 0 (at s WATCHER e)
  pub watched : (e : ℕ) → at u WATCHED e ≡ cond (below (s WATCHED) (suc a) n e) 0 (at s WATCHED e)

module _ (k : Caps) (a me reason i : ℕ) (t : Told) where
  -- monitor i is on slot a
  pub cut_monitor_yes : eqb (at t.state WATCHED i) (suc a) ≡ true →
      cut_monitor k a me reason i t ≡ tell k (told t.sent t.lost (unwatch t.state i)) (at t.state WATCHER i - 1) me reason (monitor_id t.state i)
  unfolding cut_monitor
  cut_monitor_yes q = rw q

  -- it is on another, or not in use
  pub cut_monitor_no : eqb (at t.state WATCHED i) (suc a) ≡ false → cut_monitor k a me reason i t ≡ t
  unfolding cut_monitor
  cut_monitor_no q = rw q

-- who watches slot a is alive, and another
pub watcher_there : (k : Caps) (s : State) (a i : ℕ) → Good k s → i < k.monitors → at s WATCHED i ≡ suc a → (at s WATCHER i ≡ 0 → ⊥) × (alive (s STATE) (at s WATCHER i - 1) ≡ true) × (at s WATCHER i - 1 ≡ a → ⊥)
watcher_there k s a i g l q =
    let n : at s WATCHER i ≡ 0 → ⊥ = λ z. omega (arith, (g.monitors i l).1.0 z) in
    let h = monitor-ends g i l n in
    (n, h.one_lives, λ z. h.differ (omega (arith, h.one)))

-- the monitor that ends
pub unseen_one : (k : Caps) (s u : State) (a me i : ℕ) → Unseen k a me i s u → i < k.monitors → eqb (at s WATCHED i) (suc a) ≡ true → Unseen k a me (suc i) s (unwatch u i)
unseen_one k s u a me i w l q =
    let g = w.going.good in
    let x = use_ends monitor_pool u i in
    let p = below (s WATCHED) (suc a) i in
    record {
      going = going_on (unwatch u i) w.going (unwatch_keeps k u i g l) (ap alive (x.wrote.cols STATE refl)) (x.wrote.cols AGE refl) (x.wrote.cols HAND refl) (rw (x.wrote.cols MAIL-OWNER refl) w.going.mail);
      wrote = wrote_over EYE-CUT w.wrote x.wrote refl;
      watcher = λ e. x.gone WATCHER refl e ∙ ap (cond (eqb e i) 0) (w.watcher e) ∙ cond_twice (p e) (eqb e i) (at s WATCHER e) ∙ ap (λ (b : Bool). cond b 0 (at s WATCHER e)) (below_yes (s WATCHED) (suc a) i q e);
      watched = λ e. x.gone WATCHED refl e ∙ ap (cond (eqb e i) 0) (w.watched e) ∙ cond_twice (p e) (eqb e i) (at s WATCHED e) ∙ ap (λ (b : Bool). cond b 0 (at s WATCHED e)) (below_yes (s WATCHED) (suc a) i q e);
    }

-- the n-th is as it was
pub unseen_next : (k : Caps) (s u : State) (a me i : ℕ) → Unseen k a me i s u → (at u WATCHED i ≡ at s WATCHED i) × (at u WATCHER i ≡ at s WATCHER i)
unseen_next k s u a me i w = (w.watched i ∙ rw (le-ltb i i (omega arith)), w.watcher i ∙ rw (le-ltb i i (omega arith)))

-- one more
pub cut_monitor_cuts : (k : Caps) (s : State) (t : Told) (a me reason i : ℕ) → i < k.monitors → Unseen k a me i s t.state → Unseen k a me (suc i) s (cut_monitor k a me reason i t).state
cut_monitor_cuts k s t a me reason i l w =
    let u = t.state in
    let h : at u WATCHED i ≡ at s WATCHED i = (unseen_next k s u a me i w).0 in
    split (eqb (at u WATCHED i) (suc a))
    (λ q. let f = watcher_there k u a i w.going.good l (eqb-true (at u WATCHED i) (suc a) q) in
    let x = unseen_one k s u a me i w l (rw h at q) in
    let v = told t.sent t.lost (unwatch u i) in
    let p = tell_wrote k v (at u WATCHER i - 1) me reason (monitor_id u i) in
    rw (cut_monitor_yes k a me reason i t q) (record {
      going = tell_going k v a (at u WATCHER i - 1) me reason (monitor_id u i) x.going (rw ((use_ends monitor_pool u i).wrote.cols STATE refl) f.1) f.2;
      wrote = wrote_over EYE-CUT x.wrote p refl;
      watcher = λ e. rw (p.cols WATCHER refl) (x.watcher e);
      watched = λ e. rw (p.cols WATCHED refl) (x.watched e);
    }))
    (λ q. let still = below_no (s WATCHED) (suc a) i (rw h at q) in
    rw (cut_monitor_no k a me reason i t q) (record {
      going = w.going;
      wrote = w.wrote;
      watcher = λ e. w.watcher e ∙ ap (λ (b : Bool). cond b 0 (at s WATCHER e)) (still e);
      watched = λ e. w.watched e ∙ ap (λ (b : Bool). cond b 0 (at s WATCHED e)) (still e);
    }))

-- all below n
pub cut_monitors_cuts : (k : Caps) (s : State) (t : Told) (a me reason n : ℕ) → n ≤ k.monitors → Unseen k a me 0 s t.state → Unseen k a me n s (cut_monitors k a me reason n t).state
unfolding cut_monitors
cut_monitors_cuts k s t a me reason zero l w = w
cut_monitors_cuts k s t a me reason (suc n) l w = cut_monitor_cuts k s (cut_monitors k a me reason n t) a me reason n (omega arith) (cut_monitors_cuts k s t a me reason n (omega arith) w)

-- before the first nothing has changed
pub unseen_none : (k : Caps) (s : State) (a me : ℕ) → Going k a me s → Unseen k a me 0 s s
unseen_none k s a me w = record { going = w; wrote = wrote_still EYE-CUT s; watcher = λ e. rw (below_none (s WATCHED) (suc a) e); watched = λ e. rw (below_none (s WATCHED) (suc a) e) }

-- ---- none is left
-- once the links with every slot are cut no link has slot a as an end
pub unlinked : (k : Caps) (s u : State) (a me : ℕ) → Cut k a me k.actors s u → (e : ℕ) → (at u LINK-ONE e ≡ suc a) ⊎ (at u LINK-TWO e ≡ suc a) → ⊥
unfolding joins
unlinked k s u a me w e o =
    let g = w.going.good in
    let n : at u LINK-ONE e ≡ 0 → ⊥ = λ z. ⊎_elim (λ q. omega arith) (λ q. omega (arith, q, two z)) o in
    let l : e < k.links = omega (arith, used_inside (u LINK-ONE) e n, g.sized.words LINK-ONE (lit< tt)) in
    let h = link_ends g e l n in
    ⊎_elim
    (λ q. never (at u LINK-TWO e - 1) l h.two_lives (inl (q, omega (arith, h.two))))
    (λ q. never (at u LINK-ONE e - 1) l h.one_lives (inr (omega (arith, h.one), q)))
    o
  where
    -- one not in use has no second end
    two : at u LINK-ONE e ≡ 0 → at u LINK-TWO e ≡ 0
    two z = elim (dec_lt e k.links) [ yes l ↦ (w.going.good.links e l).0 z | no l ↦ get_or-eq_default (u LINK-TWO) 0 {n = e} (omega (arith, w.going.good.sized.words LINK-TWO (lit< tt))) ]

    -- it joins slot a with no live slot
    never : (b : ℕ) → e < k.links → alive (u STATE) b ≡ true → ((at u LINK-ONE e ≡ suc a) × (at u LINK-TWO e ≡ suc b)) ⊎ ((at u LINK-ONE e ≡ suc b) × (at u LINK-TWO e ≡ suc a)) → ⊥
    never b l there p =
        let m : b < k.actors = omega (arith, alive-below (u STATE) b there, w.going.good.sized.words STATE (lit< tt)) in
        let f : joins (u LINK-ONE) (u LINK-TWO) (suc a) (suc b) e ≡ false = w.joined b e l ∙ rw (lt-ltb b k.actors m) in
        true_false (joins (u LINK-ONE) (u LINK-TWO) (suc a) (suc b) e)
        (⊎_elim (λ q. rw (eq-eqb (at u LINK-ONE e) (suc a) q.0, eq-eqb (at u LINK-TWO e) (suc b) q.1))
        (λ q. rw (eq-eqb (at u LINK-ONE e) (suc b) q.0, eq-eqb (at u LINK-TWO e) (suc a) q.1) (or-true (eqb (at u LINK-ONE e) (suc a) && eqb (at u LINK-TWO e) (suc b)))) p)
        f

-- once the monitors on slot a are cut none is on it
pub unwatched : (k : Caps) (s u : State) (a me : ℕ) → Sized k s → Unseen k a me k.monitors s u → (i : ℕ) → at u WATCHED i ≡ suc a → ⊥
unwatched k s u a me z w i q =
    let h = w.watched i in
    split (eqb (at s WATCHED i) (suc a))
    (λ r. let n : at s WATCHED i ≡ 0 → ⊥ = λ y. omega (arith, eqb-true (at s WATCHED i) (suc a) r) in
    let l : i < k.monitors = omega (arith, used_inside (s WATCHED) i n, z.words WATCHED (lit< tt)) in
    let y : at u WATCHED i ≡ 0 = rw (lt-ltb i k.monitors l, r) at h in
    omega arith)
    (λ r. split (ltb i k.monitors)
    (λ p. let y : at u WATCHED i ≡ at s WATCHED i = rw (p, r) at h in eqb-false (at s WATCHED i) (suc a) r (sym y ∙ q))
    (λ p. let y : at u WATCHED i ≡ at s WATCHED i = rw p at h in eqb-false (at s WATCHED i) (suc a) r (sym y ∙ q)))
