-- There is nothing new, or there is.
use mathlib.Core.Path.{refl}
use native.Mathlib.Omega.{arith}
use borrow.Author.Tests.{le-ltb, lt-ltb}
use Rattle.rules.proofs.Kept.Clauses.{issue-fits, issue-some, length-fits, values-fit}
use Rattle.rules.proofs.Kept.Ready.{good_ready}
use Rattle.calls.proofs.buses.read_value.Goals as goal

pub returns-then-get-j : goal.returns-then-get-j
returns-then-get-j c =
    let h = c.requires.1 in
    let q = rw (h.2, c.get.ensures) at (le-ltb _ _ c.if-get-j.true) in
    simp q ((refl, record { is = refl; room = c.requires.0.room }), (omega arith, refl, refl))

pub copy_value-length-requires : goal.copy_value-length-requires
copy_value-length-requires c =
    let a = c.args in
    let g = good_ready a.k a.t.now a.p.now c.requires.0 in
    let h = c.requires.1 in
    let q = rw (h.2, c.get.ensures) at (lt-ltb _ _ c.if-get-j.false) in
    let d = c.value_at-d.result in
    let there = rw c.get.ensures at c.if-get-j.false in
    let room = rw q at h.3 in
    (c.requires.0.room, (omega (arith, c.value_at-d.ensures, issue-some g a.j there, issue-fits g a.j), length-fits g d, rw (c.value_at-d.ensures, h.2) room))

pub read_off-requires : goal.read_off-requires
read_off-requires c =
    let a = c.args in
    let g = good_ready a.k a.t.now a.p.now c.requires.0 in
    let there = rw c.get.ensures at c.if-get-j.false in
    (c.requires.0.room, (c.requires.1.0, there, values-fit g))

pub returns : goal.returns
returns c =
    let h = c.requires.1 in
    let q = rw (h.2, c.get.ensures) at (lt-ltb _ _ c.if-get-j.false) in
    let u = c.copy_value-length.ensures in
    simp q
    ((rw (u.0, c.value_at-d.ensures, h.2), record { is = rw (c.read_off.ensures.is, h.1, h.2); room = c.read_off.ensures.room }), u.1)
