-- `tables::words::put` meets its contract.
use Prim.Native.Nat.{◌+◌}
use native.Mathlib.Omega.{arith}
use Rattle.tables.proofs.ViewLaws.{within, view-put, view-put_out, room_set}
use Rattle.tables.proofs.words.put.Goals as goal

-- the word lies within the table
pub overflow_add-t : goal.overflow_add-t
overflow_add-t c = omega (arith, within c.args.k c.args.t.now c.args.p.now c.args.c (c.args.i + 1) c.requires.0 (omega arith))

pub offset_bounds-t-place : goal.offset_bounds-t-place
offset_bounds-t-place c = omega (arith, within c.args.k c.args.t.now c.args.p.now c.args.c (c.args.i + 1) c.requires.0 (omega arith))

pub bounds-t-place : goal.bounds-t-place
bounds-t-place c = omega (arith, within c.args.k c.args.t.now c.args.p.now c.args.c (c.args.i + 1) c.requires.0 (omega arith))

pub returns-then-j-place : goal.returns-then-j-place
returns-then-j-place c =
    let a = c.args in
    record {
      is = view-put a.k a.t.now a.p.now a.c a.i a.v _ (omega arith) (omega arith) c.requires.1;
      room = room_set a.k a.t.now a.p.now _ a.v c.requires.0;
    }

pub returns-else-j-place : goal.returns-else-j-place
returns-else-j-place c =
    let a = c.args in
    record { is = view-put_out a.k a.t.now a.p.now a.c a.i a.v c.requires.1 (omega arith); room = c.requires.0 }
