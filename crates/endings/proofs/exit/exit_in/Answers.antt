-- Somebody runs, and the reason is one, or nothing happens.
use mathlib.Core.Path.{◌≡◌, ap, refl, ◌∙◌}
use mathlib.Core.Bool.{true, false}
use native.Mathlib.Omega.{arith}
use lib.Dec.{eqb, ltb}
use borrow.Author.Tests.{eq-eqb, ne_eqb, lt-ltb, le-ltb}
use Rattle.std.specs.Prelude.{Result, Ok, Err}
use Rattle.std.specs.Result.{IsErrAnd}
use Rattle.tables.specs.Limits.{LAST-REASON}
use Rattle.tables.specs.State.{view}
use Rattle.rules.specs.declared.refusals.Refusal.{Refusal}
use Rattle.rules.specs.declared.refusals.Refusal.TheVariants.{NotNow}
use Rattle.rules.specs.Terms.{runner}
use Rattle.rules.specs.Calls.{ruled}
use Rattle.rules.proofs.Kept.Ready.{good_ready}
use Rattle.rules.proofs.Reckoned.Ledger.{runner-alive}
use Rattle.endings.proofs.exit.exit_in.Goals as goal

-- a refusal that is known
known : {A : Type 0} (r : Result A Refusal) (e f : Refusal) → IsErrAnd r (λ x. x ≡ e) → e ≡ f → r ≡ Err f
known (Ok x) e f h q = absurd h
known (Err x) e f h q = ap Err (h ∙ q)

pub returns-in_err-runner : goal.returns-in_err-runner
unfolding ruled
returns-in_err-runner c =
    let a = c.args in
    let s = view a.k a.t.now a.p.now in
    let h = c.in_err-runner.ensures in
    let none = rw h.ok_part at c.checked_sub.ensures in
    let q : eqb (runner s) 0 ≡ true = eq-eqb (runner s) 0 (omega (arith, c.get.ensures, none)) in
    let v = rw h.ok_part at h.value in
    let e : c.in_err-runner.field-0.0 ≡ NotNow = cc in
    let r : c.from_residual.result ≡ Err NotNow = known _ _ NotNow c.from_residual.ensures.1 e in
    rw (q, r) (refl, record { is = refl; room = c.requires.room })

pub returns-in_default : goal.returns-in_default
unfolding ruled
returns-in_default c =
    let a = c.args in
    let s = view a.k a.t.now a.p.now in
    let some = rw c.in_ok-runner.ensures.ok_part at c.checked_sub.ensures in
    let q : eqb (runner s) 0 ≡ false = ne_eqb (runner s) 0 (λ z. omega (arith, c.get.ensures, some.0)) in
    let u : ltb LAST-REASON a.reason ≡ true = lt-ltb LAST-REASON a.reason (omega (arith, c.in_default.ensures)) in
    rw (q, u) (refl, record { is = refl; room = c.requires.room })

pub depart-requires : goal.depart-requires
depart-requires c =
    let a = c.args in
    let s = view a.k a.t.now a.p.now in
    let g = good_ready a.k a.t.now a.p.now c.requires in
    let some = rw c.in_ok-runner.ensures.ok_part at c.checked_sub.ensures in
    let q : eqb (runner s) 0 ≡ false = ne_eqb (runner s) 0 (λ z. omega (arith, c.get.ensures, some.0)) in
    (c.requires.room, g, rw (some.1, c.get.ensures) (runner-alive a.k s g q))

pub returns : goal.returns
unfolding ruled
returns c =
    let a = c.args in
    let s = view a.k a.t.now a.p.now in
    let some = rw c.in_ok-runner.ensures.ok_part at c.checked_sub.ensures in
    let q : eqb (runner s) 0 ≡ false = ne_eqb (runner s) 0 (λ z. omega (arith, c.get.ensures, some.0)) in
    let f = c.in-Ok.ensures in
    let u : ltb LAST-REASON a.reason ≡ false = le-ltb LAST-REASON a.reason (omega (arith, f.0)) in
    let d = rw (some.1, c.get.ensures, f.1) at c.depart.ensures in
    rw (q, u) (rw (d.sent, d.lost), d.left)
