-- It had a seat, or none.
use Prim.Native.Nat.{suc}
use mathlib.Core.Path.{sym, ◌∙◌}
use native.Mathlib.Numerals.{add-one}
use Rattle.tables.specs.Columns.{BUSES}
use Rattle.tables.specs.State.{head, view}
use Rattle.actions.proofs.LeaveLaws.{forget_none, left_all}
use Rattle.actions.proofs.leaving.leave_buses.Goals as goal

pub returns-then-give_up : goal.returns-then-give_up
returns-then-give_up c =
    let a = c.args in
    let s = view a.k a.t.now a.p.now in
    let g = c.give_up.ensures in
    let d = c.forget_by.ensures in
    let row = rw (c.get-made.ensures, add-one a.a) at g.1 in
    record { is = d.is ∙ rw (g.0.1.is, c.get-made.ensures, add-one a.a) (left_all a.k a.a s (head s BUSES) c.give_up.new.seats row); room = d.room }

pub returns-else-give_up : goal.returns-else-give_up
returns-else-give_up c =
    let a = c.args in
    let s = view a.k a.t.now a.p.now in
    let u = view a.k c.give_up.new.t a.p.now in
    let seats = c.give_up.new.seats in
    let g = c.give_up.ensures in
    let row = rw (c.get-made.ensures, add-one a.a) at g.1 in
    let none = rw (c.get-made.ensures, add-one a.a) at (sym g.0.0 ∙ c.if-give_up.false) in
    record {
      is = sym (forget_none (suc a.a) s (head s BUSES) seats row none a.k.datas u)
          ∙ rw (g.0.1.is, c.get-made.ensures, add-one a.a) (left_all a.k a.a s (head s BUSES) seats row);
      room = g.0.1.room;
    }
