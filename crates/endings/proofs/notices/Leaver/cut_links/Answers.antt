-- State and counts are those with the links to the slots below b cut.
use Prim.Native.Nat.{suc, ◌<◌}
use mathlib.Core.Path.{◌≡◌, ap, refl}
use native.Mathlib.Numerals.{add-one}
use native.Mathlib.Omega.{arith}
use lib.ListN.{get_or}
use Rattle.std.specs.Prelude.{None}
use Rattle.tables.specs.Columns.{LINK-ONE, LINK-TWO}
use Rattle.tables.specs.Limits.{MOST-ACTORS}
use Rattle.tables.specs.State.{view}
use Rattle.rules.specs.Calls.{Told, told, cut_link, cut_links}
use Rattle.rules.specs.Good.{Going}
use Rattle.endings.specs.Counted.{told_of}
use Rattle.endings.specs.Partners.{Partners, cut_entry}
use Rattle.endings.proofs.EndingLaws.{going_short, going_small, link_more, links_going, links-step, tells_told}
use Rattle.endings.proofs.PartnerLaws.{cut-row}
use Rattle.endings.proofs.notices.Leaver.cut_links.Goals as goal
use Rattle.endings.proofs.notices.Leaver.cut_links.Goals.{in-Some, in_default}

pub overflow_add-self : goal.overflow_add-self
overflow_add-self c = omega (arith, going_small c.requires.1)

pub loop-b-init : goal.loop-b-init
unfolding cut_links
loop-b-init c = let h = c.default-n.ensures in (c.requires.0, rw (h.0, h.1) refl, record { sent = omega (arith, h.0); lost = omega (arith, h.1) })

pub cut_link-n-requires : goal.cut_link-n-requires
cut_link-n-requires c =
    let l = c.loop-b in
    let a = c.args in
    let v = view a.k a.t.now a.p.now in
    let w = c.loop-b-test.true in
    let e : view a.k l.t l.p ≡ (cut_links a.k a.self.slot a.self.id a.self.reason l.b (told 0 0 v)).state = ap (λ (u : Told). u.state) l.invariant.1 in
    let g : Going a.k a.self.slot a.self.id (view a.k l.t l.p) = rw e (links_going a.k a.self.slot a.self.id v c.requires.1 a.self.reason l.b) in
    let o : l.b < MOST-ACTORS = omega (arith, w, c.requires.0.caps.few_actors) in
    (l.invariant.0, (going_short a.k a.self.slot a.self.id (view a.k l.t l.p) g, o, record { sent = omega (arith, l.invariant.2.sent); lost = omega (arith, l.invariant.2.lost) }))

pub loop-b-preserved : goal.loop-b-preserved
unfolding cut_entry
loop-b-preserved c =
    let w = c.loop-b-test.true in
    let l = c.loop-b in
    let q = c.note_partners.new.row in
    let a = c.args in
    let v = view a.k a.t.now a.p.now in
    let u = told_of l.n (view a.k l.t l.p) in
    let h : Partners (v LINK-ONE) (v LINK-TWO) (suc a.self.slot) a.k.links q = rw (add-one a.self.slot) at c.note_partners.ensures in
    let o : l.b < MOST-ACTORS = omega (arith, w, c.requires.0.caps.few_actors) in
    let r : cut_link a.k a.self.slot a.self.id a.self.reason l.b u ≡ cut_entry a.k a.self.id a.self.reason l.b (get_or q l.b None) u = rw l.invariant.1 (cut-row a.k a.self.slot a.self.id a.self.reason l.b v q c.requires.1 h o) in
    let s = links-step a.k a.self.slot a.self.id a.self.reason (told 0 0 v) l.b in
    elim c.match-row-b.branch [
      | in-Some w ↦
          let d = w.cut_link-n in
          let x = rw w.in-Some.is at r in
          let m = rw x at (link_more a.k a.self.slot a.self.id a.self.reason u l.b) in
          rw (w.t-is, w.p-is, w.n-is) (
            d.ensures.left.room,
            rw (s, ← l.invariant.1, x) (tells_told d.ensures),
            record { sent = omega (arith, d.ensures.sent, m.0, l.invariant.2.sent); lost = omega (arith, d.ensures.lost, m.1, l.invariant.2.lost) },
          )
      | in_default w ↦
          let x : cut_link a.k a.self.slot a.self.id a.self.reason l.b u ≡ u = rw w.in_default.is at r in
          rw (w.t-is, w.p-is, w.n-is) (
            l.invariant.0,
            rw (s, ← l.invariant.1, x) refl,
            record { sent = omega (arith, l.invariant.2.sent); lost = omega (arith, l.invariant.2.lost) },
          )
    ]
