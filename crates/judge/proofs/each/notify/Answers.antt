-- The numbers are read where they stand, and the payload stands whole in the record or is too long to be there.
use Rattle.std.proofs.Common.{◌∙◌, [], ◌∷◌, ap, refl, arith}
use Rattle.ledger.specs.Call.Op.{notify}
use Rattle.trace.specs.Codec.{bytes}
use Rattle.trace.specs.Kinds.{encode, noted, row_of}
use Rattle.trace.specs.Verdict.{same}
use Rattle.judge.proofs.ArmLaws.{arrive_payload, asked-message, kind_long, whole_length}
use Rattle.judge.proofs.CallLaws.{long_meets}
use Rattle.judge.proofs.each.notify.Goals as goal

pub load64-to-requires : goal.load64-to-requires
unfolding row_of
load64-to-requires c = let l = kind_long 20 _ c.requires in omega arith

pub load64-tag-requires : goal.load64-tag-requires
unfolding row_of
load64-tag-requires c = let l = kind_long 20 _ c.requires in omega arith

pub load64-n-requires : goal.load64-n-requires
unfolding row_of
load64-n-requires c = let l = kind_long 20 _ c.requires in omega arith

pub payload-m-requires : goal.payload-m-requires
unfolding row_of
payload-m-requires c = λ h. let l = whole_length 20 _ _ c.requires (λ e. omega arith) (λ e. omega arith) c.load64-n.ensures h in omega arith

pub returns : goal.returns
unfolding encode row_of
returns c =
    let a = c.load64-to.result in
    let g = c.load64-tag.result in
    let n = c.load64-n.result in
    let v = c.fg_notify.result in
    arrive_payload _ _ _ _ _ _ (λ t. notify a g t) 20 (λ j. a ∷ g ∷ j ∷ []) 28 n v c.payload-m.result.now
    (asked-message a g n _ c.requires c.load64-to.ensures c.load64-tag.ensures c.load64-n.ensures) (λ t. refl) (λ d e x y q. long_meets a g d e x y _ _ _ _ _ q)
    (λ h. let l = whole_length 20 _ _ c.requires (λ e. omega arith) (λ e. omega arith) c.load64-n.ensures h in omega arith) c.payload-m.ensures.whole c.payload-m.ensures.long c.fg_notify.ensures
    (c.is_in.ensures ∙ ap (λ t. same (bytes (noted 20 (a ∷ g ∷ n ∷ []) t (v ∷ []))) c.args.r.now) c.kept.ensures)
