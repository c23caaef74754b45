-- The record is compared with the one that the writer writes of the part shown: whole, or its length alone where it is over 252.
use Rattle.std.proofs.Common.{◌∙◌, [], ◌∷◌, ap, length, refl}
use Rattle.ledger.specs.Call.Answer.{part}
use Rattle.ledger.specs.Call.Op.{show}
use Rattle.trace.specs.Codec.{bytes}
use Rattle.trace.specs.Kinds.{noted}
use Rattle.trace.specs.Verdict.{same}
use Rattle.judge.proofs.CallLaws.{judged_as}
use Rattle.judge.proofs.each.judge_show.Goals as goal

pub returns : goal.returns
returns c =
    let m = c.show-m.result.now in
    judged_as _ _ _ _ _ _ show {front = []} {text = []} (part m) refl refl refl c.show-m.ensures.meets (c.matches.ensures ∙ ap (λ t. same (bytes (noted 22 (length m ∷ []) t [])) c.args.r.now) c.kept.ensures)
