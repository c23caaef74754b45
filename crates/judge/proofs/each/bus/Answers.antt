-- The four numbers are read where they stand, and the call is made with them.
use Rattle.std.proofs.Common.{arith}
use Rattle.trace.specs.Kinds.{encode, row_of}
use Rattle.judge.proofs.ArmLaws.{arrive_bus, kind_long}
use Rattle.judge.proofs.each.bus.Goals as goal

pub load64-entries-requires : goal.load64-entries-requires
unfolding row_of
load64-entries-requires c = let l = kind_long 34 _ c.requires in omega arith

pub load64-subscribers-requires : goal.load64-subscribers-requires
unfolding row_of
load64-subscribers-requires c = let l = kind_long 34 _ c.requires in omega arith

pub load64-reads-requires : goal.load64-reads-requires
unfolding row_of
load64-reads-requires c = let l = kind_long 34 _ c.requires in omega arith

pub load64-age-requires : goal.load64-age-requires
unfolding row_of
load64-age-requires c = let l = kind_long 34 _ c.requires in omega arith

pub returns : goal.returns
unfolding encode
returns c =
    arrive_bus _ _ _ _ c.requires c.load64-entries.ensures c.load64-subscribers.ensures c.load64-reads.ensures c.load64-age.ensures (record { ans = _; called = c.fg_bus-v.ensures; is = c.is_in.ensures })
