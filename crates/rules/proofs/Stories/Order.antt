-- The order of messages, in the reckoning: what is sent comes last, and taking out never swaps two that stay, through every story.
use Prim.Native.Nat.{ℕ}
use mathlib.Core.Path.{◌≡◌, refl, subst}
use mathlib.Core.Bool.{Bool, cond, ◌&&◌, ◌||◌}
use mathlib.Core.List.{List, [], ◌∷◌, ◌++◌, append_assoc}
use lib.Dec.{eqb}
use Rattle.ledger.specs.Call.{Call, Line, number, id_told}
use Rattle.ledger.specs.Call.Call.{start, op}
use Rattle.ledger.specs.Ledger.{Ledger, Message}
use Rattle.ledger.specs.Lists.{those}
use Rattle.ledger.specs.Reckon.{entered, leaf, reckon}
use Rattle.pools.proofs.BoolLaws.{split}
use Rattle.rules.proofs.Reckoned.Pages.{Within, those-both, within_all, within_end, within_more, within_none, within_of, within_then}
use Rattle.rules.proofs.Table.{proved}

-- a line: nothing where its answer is not 0
unfoldable pub posts : Line → Ledger → List Message
posts x l = cond (eqb (number x.answer) 0) ((leaf x.call).sends l) []

-- all that a list of lines sends, in the order of sending
unfoldable pub posted : List Line → Ledger → List Message
posted [] l = []
posted (x ∷ xs) l = posts x l ++ posted xs (entered x l)

-- a call that was not refused
done_order : (c : Call) (r : ℕ) (l : Ledger) → Within ((leaf c).done r l).mail.boxes (l.mail.boxes ++ (leaf c).sends l)
done_order (start z) r l = within_none (l.mail.boxes ++ [])
done_order (op o) r l = (proved o).page.order r l

-- one that found nothing
unmet_boxes : (c : Call) (n : ℕ) (l : Ledger) → ((leaf c).unmet n l).mail.boxes ≡ l.mail.boxes
unmet_boxes (start z) n l = refl
unmet_boxes (op o) n l = (proved o).page.boxes n l

-- THE LAW: after any line the mailboxes hold nothing but what they held and after it what the line sent, in this order
pub line_order : (x : Line) (l : Ledger) → Within (entered x l).mail.boxes (l.mail.boxes ++ posts x l)
unfolding entered posts
line_order x l =
    split (eqb (number x.answer) 0)
    (λ q. rw q (done_order x.call (id_told x.answer) l))
    (λ q. split (eqb (number x.answer) 5 || eqb (number x.answer) 6)
    (λ y. rw (q, y, unmet_boxes x.call (number x.answer) l) (within_end (within_all l.mail.boxes)))
    (λ y. rw (q, y) (within_end (within_all l.mail.boxes))))

-- THE THEOREM: after any lines the mailboxes hold nothing but what they held and after it all that was sent, in the order of sending: no two messages ever change places
pub story_order : (xs : List Line) (l : Ledger) → Within (reckon l xs).mail.boxes (l.mail.boxes ++ posted xs l)
unfolding reckon posted
story_order [] l = within_end (within_all l.mail.boxes)
story_order (x ∷ xs) l =
    subst (λ (m : List Message). Within (reckon (entered x l) xs).mail.boxes m) (append_assoc l.mail.boxes (posts x l) (posted xs (entered x l)))
    (within_then (story_order xs (entered x l)) (within_more (posted xs (entered x l)) (line_order x l)))

-- and so for the messages of one sender to one target
pub sender_order : (sender to : ℕ) (xs : List Line) (l : Ledger) → let q : Message → Bool = λ m. eqb m.sender sender && eqb m.to to in
    Within (those q (reckon l xs).mail.boxes) (those q l.mail.boxes ++ those q (posted xs l))
sender_order sender to xs l =
    let q : Message → Bool = λ m. eqb m.sender sender && eqb m.to to in
    subst (λ (m : List Message). Within (those q (reckon l xs).mail.boxes) m) (those-both q l.mail.boxes (posted xs l)) (within_of q (story_order xs l))
