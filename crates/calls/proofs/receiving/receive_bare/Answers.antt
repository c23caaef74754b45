-- There is a match; there is none, and the actor waits, or not.
use mathlib.Core.Path.{refl, sym, ◌∙◌}
use native.Mathlib.Omega.{arith}
use Rattle.rules.specs.Calls.{receive_bare}
use Rattle.calls.proofs.CallLaws.{below, not-below}
use Rattle.calls.proofs.WaitLaws.{wait_now}
use Rattle.calls.proofs.receiving.receive_bare.Goals as goal

pub hand_over-requires : goal.hand_over-requires
hand_over-requires c =
    let h = c.requires.0 in
    (h.0, (omega (arith, c.if-j-get.true, c.get.ensures), h.1.2, h.1.3 c.first_match-j.result))

pub returns-then-j-get : goal.returns-then-j-get
unfolding receive_bare
returns-then-j-get c =
    simp (below c.first_match-j.ensures c.get.ensures c.if-j-get.true) (rw c.first_match-j.ensures at c.hand_over.ensures)

pub deadline_at-deadline-requires : goal.deadline_at-deadline-requires
deadline_at-deadline-requires c =
    (rw c.get-2.ensures c.requires.0.1.1, c.requires.1)

pub returns-then-eq : goal.returns-then-eq
unfolding receive_bare
returns-then-eq c =
    simp (not-below c.first_match-j.ensures c.get.ensures c.if-j-get.false, sym (wait_now c.args.wait) ∙ sym c.eq.ensures ∙ c.if-eq.true) (refl, record { is = refl; room = c.requires.0.0 })

pub returns : goal.returns
unfolding receive_bare
returns c =
    simp (not-below c.first_match-j.ensures c.get.ensures c.if-j-get.false, sym (wait_now c.args.wait) ∙ sym c.eq.ensures ∙ c.if-eq.false)
    (refl, record { is = rw (c.await_in.ensures.is, c.deadline_at-deadline.ensures, c.get-2.ensures); room = c.await_in.ensures.room })
