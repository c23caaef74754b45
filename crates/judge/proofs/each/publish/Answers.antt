-- The numbers are read where they stand, and the payload stands whole in the record or is too long to be there.
use Rattle.std.proofs.Common.{◌∙◌, [], ◌∷◌, ap, refl, arith}
use Rattle.ledger.specs.Call.Op.{publish}
use Rattle.trace.specs.Codec.{bytes}
use Rattle.trace.specs.Kinds.{encode, noted, row_of}
use Rattle.trace.specs.Verdict.{same}
use Rattle.judge.proofs.ArmLaws.{arrive_payload, asked-published, kind_long, whole_length}
use Rattle.judge.proofs.BusLaws.{lengthy_meets}
use Rattle.judge.proofs.each.publish.Goals as goal

pub load64-bus-requires : goal.load64-bus-requires
unfolding row_of
load64-bus-requires c = let l = kind_long 35 _ c.requires in omega arith

pub load64-n-requires : goal.load64-n-requires
unfolding row_of
load64-n-requires c = let l = kind_long 35 _ c.requires in omega arith

pub payload-m-requires : goal.payload-m-requires
unfolding row_of
payload-m-requires c = λ h. let l = whole_length 35 _ _ c.requires (λ e. omega arith) (λ e. omega arith) c.load64-n.ensures h in omega arith

pub returns : goal.returns
unfolding encode row_of
returns c =
    let a = c.load64-bus.result in
    let n = c.load64-n.result in
    let v = c.fg_publish.result in
    arrive_payload _ _ _ _ _ _ (λ t. publish a t) 35 (λ j. a ∷ j ∷ []) 20 n v c.payload-m.result.now
    (asked-published a n _ c.requires c.load64-bus.ensures c.load64-n.ensures) (λ t. refl) (λ d e x y q. lengthy_meets a d e x y _ _ _ _ _ q)
    (λ h. let l = whole_length 35 _ _ c.requires (λ e. omega arith) (λ e. omega arith) c.load64-n.ensures h in omega arith) c.payload-m.ensures.whole c.payload-m.ensures.long c.fg_publish.ensures
    (c.is_in.ensures ∙ ap (λ t. same (bytes (noted 35 (a ∷ n ∷ []) t (v ∷ []))) c.args.r.now) c.kept.ensures)
