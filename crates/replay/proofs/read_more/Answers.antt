-- What a read gives comes behind what is in hand.
use Rattle.std.proofs.Common.{arith, rules, sym, subst, ◌∙◌}
use Rattle.replay.specs.Said.{ReadsOn}
use Rattle.replay.proofs.ReadLaws.{ReadsOn-more, take-put_mid_front, take-put_mid_more}
use Rattle.replay.proofs.read_more.Goals as goal

pub loop-end-preserved : goal.loop-end-preserved
loop-end-preserved g c =
    let i = c.loop-end.invariant in
    let r = c.in_ok-got.ensures in
    record {
      low = omega arith;
      high = search rules;
      hand = take-put_mid_front _ _ _ _ _ i.low i.high ∙ i.hand;
      bytes = subst (ReadsOn _ _ _) (sym (take-put_mid_more _ _ _ _ _ i.high r.bound.0)) (ReadsOn-more _ _ _ _ _ _ i.bytes r.bytes.0);
    }
