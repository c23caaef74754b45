-- The counts of an answer and the messages that arrive: as many ticks as timers fired, as many notices as were sent, and no timer fires twice.
use Prim.Native.Nat.{ℕ, zero, suc, ◌+◌, ◌-◌, ◌≤◌, min}
use native.Mathlib.Omega.{arith}
use mathlib.Core.Path.{◌≡◌, refl, sym, ap, ◌∙◌}
use mathlib.Core.Bool.{not}
use mathlib.Core.List.{List, [], ◌∷◌, ◌++◌, append_assoc, append-nil, map}
use lib.ListN.{length, drop, get_or, length-append, length-map, length-take, take}
use lib.Dec.{eqb}
use Rattle.ledger.specs.Call.{Answer, counted, number}
use Rattle.ledger.specs.Call.Answer.{advanced, ended}
use Rattle.ledger.specs.Call.Call.{op}
use Rattle.ledger.specs.Call.Op.{advance, exit}
use Rattle.ledger.specs.Ledger.{Ledger, Message}
use Rattle.ledger.specs.Lists.{those}
use Rattle.ledger.specs.Reckon.{aired, cleared, departed, end_links, end_monitors, end_readers, end_timers, entered, fired_timers, firings, gone, later, losses, mailed, notices, page, partner_notes, parts, sendings, sent, tick, unlinks, watcher_notes}
use Rattle.ledger.specs.Room.{datas_left, mails_left, messages_left}
use Rattle.pools.specs.Pool.{occurs}
use Rattle.tables.specs.declared.Caps.{Caps}
use Rattle.tables.specs.State.{State, caps_of}
use Rattle.rules.specs.Sound.{view_of}
use Rattle.rules.specs.Agrees.{Agrees}
use Rattle.rules.specs.Run.{step}
use Rattle.rules.specs.Story.{Kept, Meets, line}
use Rattle.rules.proofs.Reckoned.Firing.{Once, fired-all, fired-once}
use Rattle.rules.specs.Good.{Good}
use Rattle.rules.proofs.Kept.Host.{good_view}
use Rattle.rules.proofs.Reckoned.Pages.{fires_does}
use Rattle.rules.proofs.Reckoned.Rearm.{once-there}
use Rattle.rules.proofs.Stories.Answers.{line-answer}
use Rattle.rules.proofs.Table.{step_counts}

-- ---- the reckoning's own numbers
-- as many ticks are sent as timers fire
ticks-sent : (micros : ℕ) (l : Ledger) → Once l → length ((page (advance micros)).sends l) ≡ firings (later micros l)
unfolding firings
ticks-sent micros l once =
    length-map (fired_timers (firings (later micros l)) (later micros l)) tick ∙ fired-all (firings (later micros l)) (later micros l) once (omega arith)

-- ---- all notices of an end at once, which its parts send one after the other
-- the first r of two lists
take-both : (r : ℕ) (xs ys : List Message) → take r xs ++ take (r - length (take r xs)) ys ≡ take r (xs ++ ys)
take-both zero xs ys = refl
take-both (suc r) [] ys = let e : suc r - 0 ≡ suc r = omega arith in rw e
take-both (suc r) (x ∷ xs) ys = let e : (n : ℕ) → suc r - suc n ≡ r - n = λ n. omega arith in rw (e (length (take r xs)))
    (ap (λ (m : List Message). x ∷ m) (take-both r xs ys))

-- once messages were sent there is room for so many less
room_less : (ms : List Message) (l : Ledger) → messages_left (sent ms l) ≡ messages_left l - length ms
room_less ms l =
    let n = length ms in
    let e = length-append l.mail.boxes ms in
    let m : mails_left (sent ms l) ≡ mails_left l - n = omega (arith, e) in
    let d : datas_left (sent ms l) ≡ datas_left l - n = omega (arith, e) in
    rw (m, d) (less (mails_left l) (datas_left l) n)
  where
    -- the lesser of two, both less by n
    less : (a b n : ℕ) → min (a - n) (b - n) ≡ min a b - n
    less a b n = omega arith

module _ (me reason : ℕ) (l : Ledger) where
  -- THE LAW: they are to all its partners, and then to all its watchers
  pub notices_are : notices l me reason ≡ partner_notes me reason l ++ watcher_notes me reason l
  unfolding notices partner_notes watcher_notes cleared end_links
  notices_are = ap (λ (m : List Message). partner_notes me reason l ++ m) (append-nil (watcher_notes me reason l))

  -- THE LAW: the first of them are sent, as many as there is room for once its hand and its mailbox are free
  pub mailed_are : mailed parts me reason l ≡ take (messages_left (cleared me l)) (notices l me reason)
  unfolding partner_notes watcher_notes cleared end_links
  mailed_are =
      let c = cleared me l in
      let ps = partner_notes me reason l in
      let ws = watcher_notes me reason l in
      ap (λ (m : List Message). take (messages_left c) ps ++ m) (append-nil _ ∙ ap (λ (r : ℕ). take r ws) (room_less (take (messages_left c) ps) c))
      ∙ take-both (messages_left c) ps ws ∙ ap (take (messages_left c)) (sym notices_are)

  -- so many are they
  pub sendings_are : sendings me reason l ≡ min (length (notices l me reason)) (messages_left (cleared me l))
  unfolding sendings
  sendings_are = omega (arith, ap (length {A = Message}) mailed_are, length-take (messages_left (cleared me l)) (notices l me reason))

  -- THE LAW: the mailboxes hold what they held, but for what was the ended actor's, and the notices that are sent
  pub departed-boxes : (departed me reason l).mail.boxes ≡ those (λ m. not (eqb m.to me)) l.mail.boxes ++ mailed parts me reason l
  unfolding departed gone cleared end_links end_monitors end_readers end_timers
  departed-boxes =
      append_assoc (those (λ m. not (eqb m.to me)) l.mail.boxes) _ _
      ∙ ap (λ (m : List Message). those (λ m. not (eqb m.to me)) l.mail.boxes ++ (unlinks.posts me reason (cleared me l) ++ m)) (sym (append-nil _))

-- ---- THE THEOREMS
module _ (k : Caps) (s : State) (l : Ledger) (g : Good k s) (a : Agrees k l s) where
  -- THE LAW: an advance that is not refused answers as many as ticks arrive, after all that was there, and as timers are due while there is room
  pub advance_arrived : (micros : ℕ) → number (step (advance micros) k s).ans ≡ 0 →
      let ms = (page (advance micros)).sends l in
      ((entered (record { call = op (advance micros); answer = (step (advance micros) k s).ans }) l).mail.boxes ≡ l.mail.boxes ++ ms)
      × (counted (step (advance micros) k s).ans ≡ length ms ∷ [])
      × (length ms ≡ firings (later micros l))
  unfolding aired entered
  advance_arrived micros n =
      let e = ticks-sent micros l (once-there k l s g.sized g.range a) in
      (rw n (fires_does (firings (later micros l)) (later micros l)).0, step_counts (advance micros) k s l g a n ∙ rw e, e)

  -- THE LAW: an exit that is not refused answers as many as notices arrive, after all that was there and was not the ended actor's, and as many lost as found no room: together all that there are
  pub exit_arrived : (reason : ℕ) → number (step (exit reason) k s).ans ≡ 0 →
      let ms = (page (exit reason)).sends l in
      ((entered (record { call = op (exit reason); answer = (step (exit reason) k s).ans }) l).mail.boxes ≡ those (λ m. not (eqb m.to l.people.running)) l.mail.boxes ++ ms)
      × (counted (step (exit reason) k s).ans ≡ length ms ∷ losses l.people.running reason l ∷ [])
      × (length ms ≡ sendings l.people.running reason l)
      × (length ms + losses l.people.running reason l ≡ length (notices l l.people.running reason))
  unfolding entered sendings
  exit_arrived reason n =
      let i = l.people.running in
      (rw n (departed-boxes i reason l), step_counts (exit reason) k s l g a n, refl, omega (arith, sendings_are i reason l))

  -- THE LAW: no timer fires twice in one advance
  pub advance_once : (micros id : ℕ) → occurs id (map (λ t. t.id) (fired_timers (firings (later micros l)) (later micros l))) ≤ 1
  advance_once micros id = fired-once (firings (later micros l)) (later micros l) (once-there k l s g.sized g.range a) id

-- ---- the same of a line
module _ (l : Ledger) (w p : List ℕ) (w' p' : List ℕ) (h : Kept l w p) where
  -- the first of a list of counts
  first_count : {xs ys : List ℕ} → xs ≡ ys → get_or xs 0 0 ≡ get_or ys 0 0
  first_count e = ap (λ (m : List ℕ). get_or m 0 0) e

  -- THE THEOREM: after an advance that answered 0 the mailboxes hold what they held and as many ticks as it answered: as many as timers were due and found room
  pub line-ticks : (micros n : ℕ) → Meets (op (advance micros)) w p (advanced 0 n) w' p' →
      ((entered (line (op (advance micros)) (advanced 0 n)) l).mail.boxes ≡ l.mail.boxes ++ (page (advance micros)).sends l) × (n ≡ length ((page (advance micros)).sends l)) × (n ≡ firings (later micros l))
  line-ticks micros n m =
      let e = line-answer (advance micros) w p (advanced 0 n) w' p' m h.sound in
      let a = advance_arrived (caps_of w) (view_of w p) l (good_view w p h.sound) h.agrees micros (ap number (sym e)) in
      let c : n ≡ length ((page (advance micros)).sends l) = first_count (ap counted e ∙ a.1) in
      (ap (λ (r : Answer). (entered (line (op (advance micros)) r) l).mail.boxes) e ∙ a.0, c, c ∙ a.2)

  -- THE THEOREM: after an exit that answered 0 they hold what was not the ended actor's and as many notices as were sent; with those that were lost, all that there are
  pub line-notices : (reason sent lost : ℕ) → Meets (op (exit reason)) w p (ended 0 sent lost) w' p' →
      ((entered (line (op (exit reason)) (ended 0 sent lost)) l).mail.boxes ≡ those (λ m. not (eqb m.to l.people.running)) l.mail.boxes ++ (page (exit reason)).sends l)
      × (sent ≡ length ((page (exit reason)).sends l))
      × (sent + lost ≡ length (notices l l.people.running reason))
  line-notices reason sent lost m =
      let e = line-answer (exit reason) w p (ended 0 sent lost) w' p' m h.sound in
      let a = exit_arrived (caps_of w) (view_of w p) l (good_view w p h.sound) h.agrees reason (ap number (sym e)) in
      let c : sent ≡ length ((page (exit reason)).sends l) = first_count (ap counted e ∙ a.1) in
      let d : lost ≡ losses l.people.running reason l = first_count (ap (drop 1) (ap counted e ∙ a.1)) in
      (ap (λ (r : Answer). (entered (line (op (exit reason)) r) l).mail.boxes) e ∙ a.0, c, rw (c, d) a.3)
