-- `sound::marks::counted_ok` meets its contract.
use native.Mathlib.Omega.{arith}
use mathlib.Core.Path.{refl}
use lib.Dec.{lit<}
use Rattle.sound.proofs.MarkLaws.{arrival-below, arrived-few, bits_long, counted-told, owner_below}
use Rattle.tables.specs.Columns.{DATA-FREE, MAIL-DATA, MAIL-FREE}
use Rattle.sound.proofs.marks.counted_ok.Goals as goal

pub of-seen-requires : goal.of-seen-requires
of-seen-requires c =
    bits_long c.args.k c.args.t.now c.args.p.now c.requires.0 c.requires.1 MAIL-FREE (lit< tt) refl c.column.ensures

pub of-held-requires : goal.of-held-requires
of-held-requires c =
    bits_long c.args.k c.args.t.now c.args.p.now c.requires.0 c.requires.1 DATA-FREE (lit< tt) refl c.column-2.ensures

pub mark_mails-once-requires : goal.mark_mails-once-requires
mark_mails-once-requires c =
    let k = c.args.k in
    let t = c.args.t.now in
    let p = c.args.p.now in
    let room = c.requires.0 in
    let plain = c.requires.1 in
    let b = arrival-below k t p room plain c.get-n.ensures c.column-arrivals.ensures in
    (b.0, arrived-few k t p room plain c.get-n.ensures c.column-entries.ensures, λ i l. omega (arith, b.1 i l, room.caps.few_mails), owner_below k t p room plain MAIL-DATA refl c.column-entries.ensures)

pub returns : goal.returns
returns c =
    counted-told c.args.k c.args.t.now c.args.p.now c.requires.0 c.requires.1 c.get-n.ensures c.column-arrivals.ensures c.column.ensures c.of-seen.ensures
    c.column-entries.ensures c.column-2.ensures c.of-held.ensures
    c.mark_mails-once.ensures c.mark_others-others.ensures c.all-mails.ensures c.all-datas.ensures
