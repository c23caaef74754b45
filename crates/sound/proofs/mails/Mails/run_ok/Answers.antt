-- `sound::mails::Mails::run_ok` meets its contract.
use Prim.Native.Nat.{◌+◌, ◌*◌, min}
use native.Mathlib.Omega.{arith}
use mathlib.Core.Path.{◌≡◌, ◌∙◌}
use lib.Dec.{lit<}
use Rattle.rules.proofs.Kept.Rules.{and_same}
use Rattle.sound.specs.Kinds.{kept_rule}
use Rattle.sound.proofs.MailLaws.{each_next, each-past, run-free, word-free}
use Rattle.tables.specs.Columns.{MAIL-DATA, MAIL-FREE, MAIL-OWNER}
use Rattle.tables.specs.State.{view}
use Rattle.tables.proofs.ViewLaws.{view-full}
use Rattle.sound.proofs.mails.Mails.run_ok.Goals as goal

pub bounds-self-j : goal.bounds-self-j
bounds-self-j c =
    let m = c.args.self.now in
    rw m.lent.1.free (omega (arith, c.requires, m.lent.0.caps.few_mails, view-full m.k m.t.now m.p.now m.lent.0.words MAIL-FREE (lit< tt)))

pub zero_from-owned-requires : goal.zero_from-owned-requires
zero_from-owned-requires c =
    let m = c.args.self.now in
    let e : c.min-end.result ≡ min m.k.mails (64 * c.args.j + 64) = c.min-end.ensures in
    (omega (arith, e, c.requires), rw m.lent.1.owned (omega (arith, e, view-full m.k m.t.now m.p.now m.lent.0.words MAIL-OWNER (lit< tt))))

pub zero_from-held-requires : goal.zero_from-held-requires
zero_from-held-requires c =
    let m = c.args.self.now in
    let e : c.min-end.result ≡ min m.k.mails (64 * c.args.j + 64) = c.min-end.ensures in
    (omega (arith, e, c.requires), rw m.lent.1.held (omega (arith, e, view-full m.k m.t.now m.p.now m.lent.0.words MAIL-DATA (lit< tt))))

pub returns-then-free : goal.returns-then-free
returns-then-free c =
    let m = c.args.self.now in
    let v = view m.k m.t.now m.p.now in
    let h = m.lent.1 in
    let e : c.min-end.result ≡ min m.k.mails (64 * c.args.j + 64) = c.min-end.ensures in
    and_same (rw (h.owned, e) at c.zero_from-owned.ensures) (rw (h.held, e) at c.zero_from-held.ensures)
    ∙ run-free m.k v (64 * c.args.j) (min m.k.mails (64 * c.args.j + 64))
    (λ e l n. word-free (v MAIL-FREE) c.args.j e (rw h.free at c.if-free.true) l (omega (arith, n)))

pub loop-e-init : goal.loop-e-init
loop-e-init c =
    let m = c.args.self.now in each-past (λ i. kept_rule m.k (view m.k m.t.now m.p.now) i) (64 * c.args.j)

pub loop-e-preserved : goal.loop-e-preserved
loop-e-preserved c =
    let m = c.args.self.now in
    let l = c.loop-e in
    and_same l.invariant c.kept_ok-ok.ensures ∙ each_next (λ i. kept_rule m.k (view m.k m.t.now m.p.now) i) (64 * c.args.j) l.e (omega arith)

pub returns : goal.returns
returns c =
    let l = c.loop-e in
    let e : l.e ≡ min c.args.self.now.k.mails (64 * c.args.j + 64) = omega (arith, c.min-end.ensures) in rw e at l.invariant
