-- ONE LAW for the steps of an actor that ends: each step has its own, which names no other step, and the whole follows by going through the list.
use Prim.Native.Nat.{ℕ, suc, ◌+◌}
use native.Mathlib.Omega.{arith}
use mathlib.Core.Path.{◌≡◌, refl, sym, ap, subst, ◌∙◌}
use mathlib.Core.Bool.{Bool, true, false, cond, not, ◌&&◌, ◌||◌}
use mathlib.Core.List.{List, [], ◌∷◌, ◌++◌, append_assoc}
use lib.ListN.{length, get_or, length-append}
use lib.Dec.{eqb}
use borrow.Author.Tests.{eq-eqb, eqb-false, eqb-true, ne_eqb, not-true}
use Rattle.ledger.specs.Ledger.{Ledger, Message}
use Rattle.ledger.specs.Reckon.{Part, mailed, noted, passed}
use Rattle.pools.specs.Slot.{id_of}
use Rattle.pools.proofs.BoolLaws.{split, and_left, and_right, neither, true_false}
use Rattle.tables.specs.declared.Caps.{Caps}
use Rattle.tables.specs.Columns.{AGE, HAND, STATE}
use Rattle.tables.specs.Limits.{ACTOR-FACTOR}
use Rattle.tables.specs.State.{State}
use Rattle.rules.specs.Terms.{actor_id, alive}
use Rattle.rules.specs.Agrees.{Agrees}
use Rattle.rules.specs.Calls.{Step, Told, through, told}
use Rattle.rules.specs.Trim.{trim}
use Rattle.rules.proofs.Frames.Wrote.{All, Beside, apart, mem, within}
use Rattle.rules.specs.Good.{Ending, Good}
use Rattle.rules.proofs.Lists.Each.{all_both, all_one, all-within}
use Rattle.rules.proofs.Reckoned.Pages.{Within, within_all, within_end, within_more, within_then}
use Rattle.rules.proofs.Frames.TrimLaws.{trim_t}

-- ---- what is already gone
-- columns with a word for each slot, 0 where there is nothing; every other column of those that tell of slots has a slot, one up, in each word
abbrev pub SLOTTED : List ℕ
SLOTTED = HAND ∷ []

-- word e of column c is slot a's
abbrev pub owns : ℕ → ℕ → ℕ → ℕ → Bool
owns c a e v = cond (mem c SLOTTED) (eqb e a && not (eqb v 0)) (eqb v (suc a))

-- nothing of column c is slot a's
pub record Gone (c a : ℕ) (l : List ℕ) : Type 0 where
  pub is : (e : ℕ) → owns c a e (get_or l e 0) ≡ false

-- of a column of slots: no word names it
pub gone_of : (c a : ℕ) (l : List ℕ) → mem c SLOTTED ≡ false → ((e : ℕ) → get_or l e 0 ≡ suc a → ⊥) → Gone c a l
gone_of c a l n h = record { is = λ e. rw n (ne_eqb (get_or l e 0) (suc a) (h e)) }

-- and the other way
pub of-gone : (c a : ℕ) (l : List ℕ) → mem c SLOTTED ≡ false → Gone c a l → (e : ℕ) → get_or l e 0 ≡ suc a → ⊥
of-gone c a l n g e = eqb-false (get_or l e 0) (suc a) (rw n at (g.is e))

-- of a column with a word for each slot: its own word is 0
pub zero_of : (c a : ℕ) (l : List ℕ) → mem c SLOTTED ≡ true → get_or l a 0 ≡ 0 → Gone c a l
zero_of c a l n h = record { is = λ e. rw n (split (eqb e a) (λ q. rw (q, eqb-true e a q, h)) (λ q. rw q)) }

-- and the other way
pub of_zero : (c a : ℕ) (l : List ℕ) → mem c SLOTTED ≡ true → Gone c a l → get_or l a 0 ≡ 0
of_zero c a l n g =
    split (eqb (get_or l a 0) 0) (eqb-true (get_or l a 0) 0) (λ q. true_false true refl (rw (n, eq-eqb a a refl, q) at (g.is a)))

-- the columns that a step leaves as bare as they were: those that it does not write, and those of which it says so
abbrev pub lasting : List ℕ → List ℕ → List ℕ → List ℕ
lasting writes spares [] = []
lasting writes spares (c ∷ cs) = cond (mem c spares || not (mem c writes)) (c ∷ lasting writes spares cs) (lasting writes spares cs)

-- nothing of these columns is slot a's any more
abbrev pub Bared : List ℕ → ℕ → State → Type 0
Bared cs a s = All (λ c. Gone c a (s c)) cs

-- as before, where none of them is written
pub bared_still : {ws : List ℕ} {s u : State} (cs : List ℕ) (a : ℕ) → Beside ws s u → apart cs ws ≡ true → Bared cs a s → Bared cs a u
bared_still [] a w e b = tt
bared_still {ws = ws} (c ∷ cs) a w e b = (
  rw (w.cols c (not-true (mem c ws) (and_left (not (mem c ws)) (apart cs ws) e))) b.0,
  bared_still cs a w (and_right (not (mem c ws)) (apart cs ws) e)
      b.1,
)

-- alive as before, where no state is written
pub lives_on : {ws : List ℕ} {s u : State} (a : ℕ) → Beside ws s u → mem STATE ws ≡ false → alive (s STATE) a ≡ true → alive (u STATE) a ≡ true
lives_on a w e there = rw (w.cols STATE e) there

-- ---- what a step leaves
pub record Left (k : Caps) (a : ℕ) (spares clears : List ℕ) (s u : State) : Type 0 where
  pub good : Good k u
  pub there : alive (u STATE) a ≡ true
  pub spared : All (λ c. Gone c a (s c) → Gone c a (u c)) spares
  pub cleared : Bared clears a u

-- and what the reckoning says of it
pub record Told-of (k : Caps) (p : Part) (me reason : ℕ) (l : Ledger) (t : Told) : Type 0 where
  pub agrees : Agrees k (p.ends me reason l) t.state
  pub sent : t.sent ≡ length (p.posts me reason l)
  pub due : t.sent + t.lost ≡ length (p.notes me reason l)

-- in the reckoning messages stay in their order, with the notices that are sent behind them, and the people are as they were
pub record Calm (p : Part) (me reason : ℕ) (l : Ledger) : Type 0 where
  pub order : Within (p.ends me reason l).mail.boxes (l.mail.boxes ++ p.posts me reason l)
  pub people : (p.ends me reason l).people ≡ l.people

-- ---- THE LAW OF A STEP, with its part of the reckoning
pub record Lawful (x : Step) (p : Part) : Type 0 where
  -- the columns that must be bare before it; those that it writes; of these, those that it leaves bare where they were; those that it leaves bare
  pub needs : List ℕ
  pub writes : List ℕ
  pub spares : List ℕ
  pub clears : List ℕ
  -- it writes no other column
  pub beside : (k : Caps) (a me reason : ℕ) (s : State) → Beside writes s (x k a me reason s).state
  -- it leaves a sound runtime, in which the actor is still alive
  pub keeps : (k : Caps) (a reason : ℕ) (s : State) → Good k s → alive (s STATE) a ≡ true → Bared needs a s →
      Left k a spares clears s (x k a (actor_id s a) reason s).state
  -- and in step with its part of the reckoning
  pub reckoned : (k : Caps) (a reason : ℕ) (s : State) (l : Ledger) → Good k s → alive (s STATE) a ≡ true → Bared needs a s → Agrees k l s →
      Told-of k p (actor_id s a) reason l (x k a (actor_id s a) reason s)
  -- in the reckoning
  pub calm : (me reason : ℕ) (l : Ledger) → Calm p me reason l
  -- what lies past the needed words and bytes is not read
  pub trims : (k : Caps) (a me reason : ℕ) (s : State) → trim_t (x k a me reason s) ≡ x k a me reason (trim s)

-- THE LAWS of a list of steps, with the parts in the same order
pub data Laws : List Step → List Part → Type 0 where
  done : Laws [] []
  ◌then◌ : {x : Step} {p : Part} {xs : List Step} {ps : List Part} → Lawful x p → Laws xs ps → Laws (x ∷ xs) (p ∷ ps)

infixr 5 ◌then◌
-- the columns that are bare after a step, and after all
abbrev pub next : {x : Step} {p : Part} → Lawful x p → List ℕ → List ℕ
next w cs = w.clears ++ lasting w.writes w.spares cs

abbrev pub after : {xs : List Step} {ps : List Part} → Laws xs ps → List ℕ → List ℕ
after done cs = cs
after (◌then◌ w ws) cs = after ws (next w cs)

-- the columns that they write
abbrev pub written : {xs : List Step} {ps : List Part} → Laws xs ps → List ℕ
written done = []
written (◌then◌ w ws) = w.writes ++ written ws

-- each step finds bare what it needs, and none writes an age
abbrev pub in_order : {xs : List Step} {ps : List Part} → Laws xs ps → List ℕ → Bool
in_order done cs = true
in_order (◌then◌ w ws) cs = within w.needs cs && not (mem AGE w.writes) && in_order ws (next w cs)

-- ---- one step
module _ {x : Step} {p : Part} (w : Lawful x p) (k : Caps) (a me reason : ℕ) (s : State) where
  -- what was bare and lasts is bare
  lasts : (cs : List ℕ) → Left k a w.spares w.clears s (x k a me reason s).state → Bared cs a s →
      Bared (lasting w.writes w.spares cs) a (x k a me reason s).state
  lasts [] h b = tt
  lasts (c ∷ cs) h b =
      let u = (x k a me reason s).state in
      split (mem c w.spares)
      (λ q. rw q (all_one (λ c. Gone c a (s c) → Gone c a (u c)) w.spares h.spared c q b.0, lasts cs h b.1))
      (λ q. split (mem c w.writes)
      (λ r. rw (q, r) (lasts cs h b.1))
      (λ r. rw (q, r) (rw ((w.beside k a me reason s).cols c r) b.0, lasts cs h b.1)))

  -- what it leaves, by the id that the actor had at first
  step_left : Ending k a me s → Bared w.needs a s → Left k a w.spares w.clears s (x k a me reason s).state
  step_left e b = subst (λ (i : ℕ). Left k a w.spares w.clears s (x k a i reason s).state) e.id (w.keeps k a reason s e.good e.there b)

  -- and what the reckoning says of it
  step-told : (l : Ledger) → Ending k a me s → Bared w.needs a s → Agrees k l s → Told-of k p me reason l (x k a me reason s)
  step-told l e b r = subst (λ (i : ℕ). Told-of k p i reason l (x k a i reason s)) e.id (w.reckoned k a reason s l e.good e.there b r)

  -- the actor is still about to leave, and more is gone
  pub step_on : (cs : List ℕ) → within w.needs cs ≡ true → mem AGE w.writes ≡ false → Ending k a me s → Bared cs a s →
      Ending k a me (x k a me reason s).state × Bared (next w cs) a (x k a me reason s).state
  step_on cs n y e b =
      let u = (x k a me reason s).state in
      let h = step_left e (all-within (λ c. Gone c a (s c)) w.needs cs n b) in (
        record {
          good = h.good;
          there = h.there;
          id = ap (λ (c : List ℕ). id_of ACTOR-FACTOR (get_or c a 0) a) ((w.beside k a me reason s).cols AGE y) ∙ e.id;
        },
        all_both (λ c. Gone c a (u c)) w.clears (lasting w.writes w.spares cs) h.cleared (lasts cs h b),
      )

-- ---- ALL OF THEM
-- what the order says of the first step, and of the rest
pub in_first : {x : Step} {p : Part} {xs : List Step} {ps : List Part} (w : Lawful x p) (ws : Laws xs ps) (cs : List ℕ) → in_order (w then ws) cs ≡ true →
    (within w.needs cs ≡ true) × (mem AGE w.writes ≡ false) × (in_order ws (next w cs) ≡ true)
in_first w ws cs o =
    let n = within w.needs cs in
    let y = not (mem AGE w.writes) in
    let i = in_order ws (next w cs) in
    (and_left n y (and_left (n && y) i o), not-true (mem AGE w.writes) (and_right n y (and_left (n && y) i o)), and_right (n && y) i o)

-- one of two lists
mem-both : (c : ℕ) (cs ds : List ℕ) → mem c (cs ++ ds) ≡ mem c cs || mem c ds
mem-both c [] ds = refl
mem-both c (d ∷ cs) ds = split (eqb c d) (λ q. rw q) (λ q. rw q (mem-both c cs ds))

-- THE LAW: they write no other column; nothing is asked
pub through_beside : {xs : List Step} {ps : List Part} (ws : Laws xs ps) (k : Caps) (a me reason : ℕ) (s : State) →
    Beside (written ws) s (through xs k a me reason s).state
through_beside done k a me reason s = record { cols = λ c m. refl }
through_beside (◌then◌ {x = x} w ws) k a me reason s = record {
  cols = λ c m.
      let n = neither (mem c w.writes) (mem c (written ws)) (sym (mem-both c w.writes (written ws)) ∙ m) in
      (through_beside ws k a me reason (x k a me reason s).state).cols c n.1 ∙ (w.beside k a me reason s).cols c n.0;
}

-- THE LAW: what lies past the needed words and bytes is not read
pub through_trims : {xs : List Step} {ps : List Part} → Laws xs ps → (k : Caps) (a me reason : ℕ) (s : State) →
    trim_t (through xs k a me reason s) ≡ through xs k a me reason (trim s)
through_trims done k a me reason s = refl
through_trims (◌then◌ {x = x} {xs = xs} w ws) k a me reason s =
    let t = x k a me reason s in
    ap (λ (u : Told). told (t.sent + u.sent) (t.lost + u.lost) u.state) (through_trims ws k a me reason t.state)
    ∙ ap (λ (t : Told). let u = through xs k a me reason t.state in told (t.sent + u.sent) (t.lost + u.lost) u.state) (w.trims k a me reason s)

-- THE LAW: sound as before, and bare where the steps say
pub through_keeps : {xs : List Step} {ps : List Part} (ws : Laws xs ps) (k : Caps) (a me reason : ℕ) (s : State) (cs : List ℕ) → in_order ws cs ≡ true →
    Ending k a me s → Bared cs a s →
    Ending k a me (through xs k a me reason s).state × Bared (after ws cs) a (through xs k a me reason s).state
through_keeps done k a me reason s cs o e b = (e, b)
through_keeps (◌then◌ {x = x} w ws) k a me reason s cs o e b =
    let n = in_first w ws cs o in
    let i = step_on w k a me reason s cs n.0 n.1 e b in
    through_keeps ws k a me reason (x k a me reason s).state (next w cs) n.2 i.0 i.1

-- what the reckoning says of all of them
pub record Reckoned (k : Caps) (ps : List Part) (me reason : ℕ) (l : Ledger) (t : Told) : Type 0 where
  pub agrees : Agrees k (passed ps me reason l) t.state
  pub sent : t.sent ≡ length (mailed ps me reason l)
  pub due : t.sent + t.lost ≡ length (noted ps me reason l)

-- THE LAW, and the reckoning
pub through_reckoned : {xs : List Step} {ps : List Part} (ws : Laws xs ps) (k : Caps) (a me reason : ℕ) (s : State) (l : Ledger) (cs : List ℕ) →
    in_order ws cs ≡ true →
    Ending k a me s → Bared cs a s → Agrees k l s → Reckoned k ps me reason l (through xs k a me reason s)
through_reckoned done k a me reason s l cs o e b r = record { agrees = r; sent = refl; due = refl }
through_reckoned (◌then◌ {x = x} {p = p} {ps = ps} w ws) k a me reason s l cs o e b r =
    let n = in_first w ws cs o in
    let i = step_on w k a me reason s cs n.0 n.1 e b in
    let h = step-told w k a me reason s l e (all-within (λ c. Gone c a (s c)) w.needs cs n.0 b) r in
    let m = p.ends me reason l in
    let j = through_reckoned ws k a me reason (x k a me reason s).state m (next w cs) n.2 i.0 i.1 h.agrees in
    record {
      agrees = j.agrees;
      sent = omega (arith, h.sent, j.sent, length-append (p.posts me reason l) (mailed ps me reason m));
      due = omega (arith, h.due, j.due, length-append (p.notes me reason l) (noted ps me reason m));
    }

-- in the reckoning messages stay in their order, and the people are as they were
pub passed_order : {xs : List Step} {ps : List Part} → Laws xs ps → (me reason : ℕ) (l : Ledger) →
    Within (passed ps me reason l).mail.boxes (l.mail.boxes ++ mailed ps me reason l)
passed_order done me reason l = within_end (within_all l.mail.boxes)
passed_order (◌then◌ {p = p} {ps = ps} w ws) me reason l =
    let n = p.ends me reason l in
    within_then (passed_order ws me reason n)
    (subst (λ (m : List Message). Within (n.mail.boxes ++ mailed ps me reason n) m) (append_assoc l.mail.boxes (p.posts me reason l)
    (mailed ps me reason n)) (within_more (mailed ps me reason n) (w.calm me reason l).order))

pub passed-people : {xs : List Step} {ps : List Part} → Laws xs ps → (me reason : ℕ) (l : Ledger) → (passed ps me reason l).people ≡ l.people
passed-people done me reason l = refl
passed-people (◌then◌ {p = p} w ws) me reason l = passed-people ws me reason (p.ends me reason l) ∙ (w.calm me reason l).people
