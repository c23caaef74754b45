-- The four numbers are read where they stand, and the call is made with them, the wait as a signed number.
use Rattle.std.proofs.Common.{◌∙◌, ◌^◌, ◌<◌, arith, rules}
use mir.Syntax.{w64}
use mir.Val.{SFits}
use mir.ValLaws.{to_z-of_z}
use Rattle.trace.specs.Kinds.{row_of}
use Rattle.judge.proofs.ArmLaws.{call_receive, kind_long}
use Rattle.judge.proofs.each.receive.Goals as goal

pub load64-sender-requires : goal.load64-sender-requires
unfolding row_of
load64-sender-requires c = let l = kind_long 21 _ c.requires in omega arith

pub load64-class-requires : goal.load64-class-requires
unfolding row_of
load64-class-requires c = let l = kind_long 21 _ c.requires in omega arith

pub load64-tag-requires : goal.load64-tag-requires
unfolding row_of
load64-tag-requires c = let l = kind_long 21 _ c.requires in omega arith

pub load64-wait-requires : goal.load64-wait-requires
unfolding row_of
load64-wait-requires c = let l = kind_long 21 _ c.requires in omega arith

pub returns : goal.returns
returns c =
    let z = c.cast_signed.result in
    let k : SFits w64 z = search rules in
    let f : c.load64-wait.result < 2 ^ 64 = search rules in
    call_receive _ _ _ _ _ c.fg_receive-v.result c.requires c.load64-sender.ensures c.load64-class.ensures c.load64-tag.ensures c.load64-wait.ensures (to_z-of_z w64 z k ∙ c.cast_signed.ensures) f
    c.fg_receive-v.ensures c.is_in.ensures
