-- The law of each step of an actor that ends.
use Prim.Native.Nat.{ℕ, suc, ◌<◌}
use native.Mathlib.Omega.{arith}
use mathlib.Core.Path.{◌≡◌, refl, sym, ap, subst, ◌∙◌}
use mathlib.Core.Logic.{inl, inr}
use mathlib.Core.Bool.{Bool, true, false, cond, not, ◌||◌}
use mathlib.Core.List.{List, [], ◌∷◌, ◌++◌}
use lib.ListN.{get_or, length, take}
use lib.Dec.{eqb, lit<}
use Rattle.ledger.specs.Ledger.{Ledger, Link, ties, with_ties}
use Rattle.ledger.specs.Reckon.{clears, cleared, disarms, end_links, end_monitors, end_readers, end_timers, partner_notes, parts, quits, sent, unlinks, unsees, unwatches, watcher_notes}
use Rattle.pools.proofs.BoolLaws.{split}
use Rattle.tables.specs.declared.Caps.{Caps}
use Rattle.tables.specs.Columns.{BUSES, DUE, HAND, INTERVAL, LINK-ONE, LINK-TWO, MAIL-OWNER, MONITOR-AGE, SEAT, STATE, TIMER-OWNER, WATCHED, WATCHER}
use Rattle.tables.specs.State.{State, head}
use Rattle.rules.specs.Terms.{actor_id, alive}
use Rattle.rules.specs.Aged.{monitor_pool, timer_pool}
use Rattle.rules.specs.Agrees.{Agrees}
use Rattle.rules.specs.Calls.{clearing, disarming, drop_monitors, drop_timers, quitting, steps, told, unlinking, unseeing, unwatching}
use Rattle.rules.proofs.Frames.Actions.{EYE-CUT, LINK-CUT, MAILED, beside_emptied}
use Rattle.rules.proofs.Frames.Buses.{QUIT, wrote_leave_buses}
use Rattle.rules.proofs.Frames.Calls.{beside_cut_links, beside_cut_monitors, beside_own}
use Rattle.rules.proofs.Reckoned.Parts.{agrees_monitors}
use Rattle.rules.proofs.Frames.Wrote.{beside_of, mem, wrote_none}
use Rattle.rules.specs.Good.{Going, Good}
use Rattle.rules.proofs.Reckoned.Ledger.{alive_slot}
use Rattle.rules.proofs.Lists.Ties.{below, used_inside}
use Rattle.rules.proofs.Kept.Ties.{drop_monitors-ends, drop_monitors_keeps, drop_monitors_none, drop_timers_keeps, drop_timers_none}
use Rattle.rules.proofs.Reckoned.Ties.{drop_monitors_agrees, drop_timers_agrees}
use Rattle.rules.proofs.Kept.Messages.{emptied-empties, emptied_hand, emptied_keeps}
use Rattle.rules.proofs.Reckoned.Messages.{emptied_agrees}
use Rattle.rules.proofs.Kept.Exit.{Cut, Unseen, cut_none, cut_links_cuts, cut_monitors_cuts, unlinked, unseen_none, unwatched}
use Rattle.rules.proofs.Reckoned.Exit.{along_told, eye_notices, eyes_stay, eyes_worn, link_notices, link_notes, links_along, links_stay, monitors_along}
use Rattle.rules.proofs.Kept.Seats.{leave_buses_keeps, leave_buses_none}
use Rattle.rules.proofs.Reckoned.Readers.{leave_buses_agrees}
use Rattle.rules.proofs.Reckoned.Pages.{within_all, within_end, within-those}
use Rattle.rules.proofs.Ends.Steps.{Bared, Calm, Gone, SLOTTED, Lawful, Laws, Told-of, ◌then◌, done, gone_of, lives_on, of-gone, of_zero, zero_of}
use Rattle.rules.proofs.Frames.TrimLaws.{trim-cut_links, trim-cut_monitors, trim-drop_monitors, trim-drop_timers, trim-emptied, trim-leave_buses}

-- ---- columns of slots of which nothing is slot a's
-- where no entry in range names it
pub gone_inside : (c a n : ℕ) (l : List ℕ) → mem c SLOTTED ≡ false → length l ≡ n → ((i : ℕ) → i < n → get_or l i 0 ≡ suc a → ⊥) → Gone c a l
gone_inside c a n l m z h = gone_of c a l m (λ i q. h i (omega (arith, used_inside l i (λ y. omega arith))) q)

-- where none was, and some words became 0
pub gone-less : (c a : ℕ) (p : ℕ → Bool) (l m : List ℕ) → mem c SLOTTED ≡ false → ((i : ℕ) → get_or m i 0 ≡ cond (p i) 0 (get_or l i 0)) → Gone c a l → Gone c a m
gone-less c a p l m n h g = gone_of c a m n (λ i q. split (p i)
    (λ b. let z : get_or m i 0 ≡ 0 = rw b at (h i) in omega arith)
    (λ b. of-gone c a l n g i (sym (rw b at (h i)) ∙ q)))

-- ---- "hand and mailbox freed"
pub clears_calm : (me reason : ℕ) (l : Ledger) → Calm clears me reason l
unfolding cleared
clears_calm me reason l = record { order = within_end (within-those (λ m. not (eqb m.to me)) l.mail.boxes); people = refl }

abbrev pub clearing_law : Lawful clearing clears
clearing_law = record {
  needs = [];
  writes = MAILED;
  spares = [];
  clears = MAIL-OWNER ∷ HAND ∷ [];
  beside = λ k a me reason s. beside_emptied s a;
  keeps = λ k a reason s g there b.
      let l = alive_slot k s g a there in
      record {
        good = emptied_keeps k s a g l;
        there = lives_on a (beside_emptied s a) refl there;
        spared = tt;
        cleared = (gone_of MAIL-OWNER a _ refl (emptied-empties k s a g l), (zero_of HAND a _ refl (emptied_hand k s a g l), tt));
      };
  reckoned = λ k a reason s l g there b r. record { agrees = emptied_agrees k s l a g r there; sent = refl; due = refl };
  calm = clears_calm;
  trims = λ k a me reason s. ap (told 0 0) (trim-emptied s a);
}

-- ---- the steps with notices
-- nothing in hand and no mail
pub going_of : (k : Caps) (s : State) (a : ℕ) → Good k s → alive (s STATE) a ≡ true → Bared (MAIL-OWNER ∷ HAND ∷ []) a s → Going k a (actor_id s a) s
going_of k s a g there b = record {
  good = g;
  there = there;
  id = refl;
  mail = of-gone MAIL-OWNER a (s MAIL-OWNER) refl b.0;
  hand = of_zero HAND a (s HAND) refl b.1.0;
}

-- ---- "links removed by ascending partner slot, each partner sent a notice"
pub unlinks_calm : (me reason : ℕ) (l : Ledger) → Calm unlinks me reason l
unfolding end_links
unlinks_calm me reason l = record { order = within_all (l.mail.boxes ++ unlinks.posts me reason l); people = refl }

module _ (k : Caps) (s : State) (a reason : ℕ) (w : Going k a (actor_id s a) s) where
  -- its links are cut
  pub links-cut : Cut k a (actor_id s a) k.actors s (unlinking k a (actor_id s a) reason s).state
  links-cut = cut_links_cuts k s (told 0 0 s) a (actor_id s a) reason k.actors (cut_none k s a (actor_id s a) w)

  -- and the reckoning says the same
  pub unlinking-told : (l : Ledger) → Agrees k l s → Told-of k unlinks (actor_id s a) reason l (unlinking k a (actor_id s a) reason s)
  unfolding end_links partner_notes
  unlinking-told l r =
      let t = unlinking k a (actor_id s a) reason s in
      let ns = link_notes k s a (actor_id s a) reason k.actors in
      let z = links_along k l s a (actor_id s a) reason k.actors w r in
      along_told k partner_notes (λ me. end_links (λ p. eqb p.one me || eqb p.two me)) (actor_id s a) reason l ns _ t links-cut.going.good z
      (sym (link_notices k s l w.good r a reason w.there))
      (subst (λ (ls : List Link). Agrees k (with_ties (sent (take t.sent ns) l) (ties ls l.ties.monitors l.ties.worn)) t.state)
      (sym (links_stay k s l w.good r a w.there)) z.agrees)

abbrev pub unlinking_law : Lawful unlinking unlinks
unlinking_law = record {
  needs = MAIL-OWNER ∷ HAND ∷ [];
  writes = LINK-CUT;
  spares = MAIL-OWNER ∷ [];
  clears = LINK-ONE ∷ LINK-TWO ∷ [];
  beside = λ k a me reason s. beside_cut_links k a me reason k.actors (told 0 0 s);
  keeps = λ k a reason s g there b.
      let c = links-cut k s a reason (going_of k s a g there b) in
      let loose = unlinked k s _ a (actor_id s a) c in
      record {
        good = c.going.good;
        there = c.going.there;
        spared = (λ y. gone_of MAIL-OWNER a _ refl c.going.mail, tt);
        cleared = (gone_of LINK-ONE a _ refl (λ e q. loose e (inl q)), (gone_of LINK-TWO a _ refl (λ e q. loose e (inr q)), tt));
      };
  reckoned = λ k a reason s l g there b r. unlinking-told k s a reason (going_of k s a g there b) l r;
  calm = unlinks_calm;
  trims = λ k a me reason s. trim-cut_links k a me reason k.actors (told 0 0 s);
}

-- ---- "monitors on the actor removed by ascending monitor slot, each watcher sent a notice"
pub unsees_calm : (me reason : ℕ) (l : Ledger) → Calm unsees me reason l
unfolding end_monitors
unsees_calm me reason l = record { order = within_all (l.mail.boxes ++ unsees.posts me reason l); people = refl }

module _ (k : Caps) (s : State) (a reason : ℕ) (w : Going k a (actor_id s a) s) where
  -- the monitors on it are cut
  pub monitors-cut : Unseen k a (actor_id s a) k.monitors s (unseeing k a (actor_id s a) reason s).state
  monitors-cut = cut_monitors_cuts k s (told 0 0 s) a (actor_id s a) reason k.monitors (omega arith) (unseen_none k s a (actor_id s a) w)

  -- and the reckoning says the same
  pub unseeing-told : (l : Ledger) → Agrees k l s → Told-of k unsees (actor_id s a) reason l (unseeing k a (actor_id s a) reason s)
  unfolding end_monitors watcher_notes
  unseeing-told l r =
      let t = unseeing k a (actor_id s a) reason s in
      let c = monitors-cut in
      let z = monitors_along k l s a (actor_id s a) reason k.monitors (omega arith) w r in
      let v = z.1.agrees in
      let left = eyes_stay k s l w.good r a w.there ∙ v.monitors.are in
      let worn = eyes_worn k s l w.good r a w.there t.state (c.wrote.cols MONITOR-AGE refl) c.watcher in
      along_told k watcher_notes (λ me. end_monitors (λ m. eqb m.target me)) (actor_id s a) reason l _ _ t c.going.good z.1
      (sym (eye_notices k s l w.good r a reason w.there))
      (agrees_monitors (wrote_none t.state) v _ _ refl refl
      (record { slots = v.monitors.slots; all_slots = v.monitors.all_slots; are = left; worn_slots = worn }))

abbrev pub unseeing_law : Lawful unseeing unsees
unseeing_law = record {
  needs = MAIL-OWNER ∷ HAND ∷ [];
  writes = EYE-CUT;
  spares = MAIL-OWNER ∷ [];
  clears = WATCHED ∷ [];
  beside = λ k a me reason s. beside_cut_monitors k a me reason k.monitors (told 0 0 s);
  keeps = λ k a reason s g there b.
      let c = monitors-cut k s a reason (going_of k s a g there b) in
      record {
        good = c.going.good;
        there = c.going.there;
        spared = (λ y. gone_of MAIL-OWNER a _ refl c.going.mail, tt);
        cleared = (gone_of WATCHED a _ refl (unwatched k s _ a (actor_id s a) g.sized c), tt);
      };
  reckoned = λ k a reason s l g there b r. unseeing-told k s a reason (going_of k s a g there b) l r;
  calm = unsees_calm;
  trims = λ k a me reason s. trim-cut_monitors k a me reason k.monitors (told 0 0 s);
}

-- ---- "its own monitors .. removed"
pub unwatches_calm : (me reason : ℕ) (l : Ledger) → Calm unwatches me reason l
unfolding end_monitors
unwatches_calm me reason l = record { order = within_end (within_all l.mail.boxes); people = refl }

abbrev pub unwatching_law : Lawful unwatching unwatches
unwatching_law = record {
  needs = [];
  writes = WATCHER ∷ WATCHED ∷ [];
  spares = WATCHED ∷ [];
  clears = WATCHER ∷ [];
  beside = λ k a me reason s. beside_own monitor_pool a k.monitors s;
  keeps = λ k a reason s g there b.
      let m = drop_monitors a k.monitors s in
      let h = drop_monitors_keeps k a s g in
      record {
        good = h;
        there = lives_on a (beside_own monitor_pool a k.monitors s) refl there;
        spared = (gone-less WATCHED a (below (s WATCHER) (suc a) k.monitors) (s WATCHED) (m WATCHED) refl ((drop_monitors-ends k a s g.sized).gone WATCHED refl), tt);
        cleared = (gone_inside WATCHER a k.monitors (m WATCHER) refl (h.sized.words WATCHER (lit< tt)) (drop_monitors_none k a s g.sized), tt);
      };
  reckoned = λ k a reason s l g there b r. record { agrees = drop_monitors_agrees k l s g r a there; sent = refl; due = refl };
  calm = unwatches_calm;
  trims = λ k a me reason s. ap (told 0 0) (trim-drop_monitors a k.monitors s);
}

-- ---- ".. and timers removed"
pub disarms_calm : (me reason : ℕ) (l : Ledger) → Calm disarms me reason l
unfolding end_timers
disarms_calm me reason l = record { order = within_end (within_all l.mail.boxes); people = refl }

abbrev pub disarming_law : Lawful disarming disarms
disarming_law = record {
  needs = [];
  writes = TIMER-OWNER ∷ DUE ∷ INTERVAL ∷ [];
  spares = [];
  clears = TIMER-OWNER ∷ [];
  beside = λ k a me reason s. beside_own timer_pool a k.timers s;
  keeps = λ k a reason s g there b.
      let m = drop_timers a k.timers s in
      let h = drop_timers_keeps k a s g in
      record {
        good = h;
        there = lives_on a (beside_own timer_pool a k.timers s) refl there;
        spared = tt;
        cleared = (gone_inside TIMER-OWNER a k.timers (m TIMER-OWNER) refl (h.sized.words TIMER-OWNER (lit< tt)) (drop_timers_none k a s g.sized), tt);
      };
  reckoned = λ k a reason s l g there b r. record { agrees = drop_timers_agrees k l s g r a there; sent = refl; due = refl };
  calm = disarms_calm;
  trims = λ k a me reason s. ap (told 0 0) (trim-drop_timers a k.timers s);
}

-- ---- "exit also removes subscriptions"
pub quits_calm : (me reason : ℕ) (l : Ledger) → Calm quits me reason l
unfolding end_readers
quits_calm me reason l = record { order = within_end (within_all l.mail.boxes); people = refl }

abbrev pub quitting_law : Lawful quitting quits
quitting_law = record {
  needs = [];
  writes = QUIT;
  spares = [];
  clears = SEAT ∷ [];
  beside = λ k a me reason s. beside_of (wrote_leave_buses k a (head s BUSES) s);
  keeps = λ k a reason s g there b. record {
    good = leave_buses_keeps k a s g;
    there = lives_on a (beside_of (wrote_leave_buses k a (head s BUSES) s)) refl there;
    spared = tt;
    cleared = (gone_of SEAT a _ refl (leave_buses_none k a s g), tt);
  };
  reckoned = λ k a reason s l g there b r. record { agrees = leave_buses_agrees k l s g r a there; sent = refl; due = refl };
  calm = quits_calm;
  trims = λ k a me reason s. ap (told 0 0) (trim-leave_buses k a (head s BUSES) s);
}

-- ---- ALL THE LAWS, in the order of the steps
abbrev pub laws : Laws steps parts
laws = clearing_law then unlinking_law then unseeing_law then unwatching_law then disarming_law then quitting_law then done
