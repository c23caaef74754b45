-- `sound::mails::Mails::kept_ok` meets its contract.
use Prim.Native.Nat.{◌/◌, ◌%◌}
use native.Mathlib.Omega.{arith}
use lib.Dec.{lit<}
use lib.ListN.{get_or}
use borrow.Author.Tests.{eq-eqb}
use Rattle.pools.specs.Bits.{WORD-BITS, bit}
use Rattle.sound.proofs.MailLaws.{kept_free}
use Rattle.tables.specs.Columns.{MAIL-DATA, MAIL-FREE, MAIL-OWNER}
use Rattle.tables.specs.State.{view}
use Rattle.tables.proofs.ViewLaws.{view-full}
use Rattle.sound.proofs.mails.Mails.kept_ok.Goals as goal

pub bounds-self-e : goal.bounds-self-e
bounds-self-e c =
    let m = c.args.self.now in
    rw m.lent.1.owned (omega (arith, c.requires, view-full m.k m.t.now m.p.now m.lent.0.words MAIL-OWNER (lit< tt)))

pub bounds-self-e-2 : goal.bounds-self-e-2
bounds-self-e-2 c =
    let m = c.args.self.now in
    rw m.lent.1.held (omega (arith, c.requires, view-full m.k m.t.now m.p.now m.lent.0.words MAIL-DATA (lit< tt)))

pub returns-then-bit_of-eq1 : goal.returns-then-bit_of-eq1
returns-then-bit_of-eq1 c =
    let m = c.args.self.now in
    let v = view m.k m.t.now m.p.now in
    let e = c.args.e in
    let h = m.lent.1 in
    let bits = rw h.free at c.requires.1 in
    let set = bit (get_or (v MAIL-FREE) (e / WORD-BITS) 0) (e % WORD-BITS) in
    rw (h.owned, h.held) (kept_free m.k v e (eq-eqb set 1 (rw (← bits) (omega (arith, c.bit_of.ensures, c.if-bit_of-eq1.true)))))
