-- `judge::start::begin` meets its contract: the start is made where the recorded lengths allow it, and else it is refused and nothing changes.
use Rattle.std.proofs.Common.{◌∙◌, ap}
use Rattle.trace.specs.Verdict.{can_begin}
use Rattle.judge.proofs.StartLaws.{began_no, began_yes}
use Rattle.judge.proofs.start.begin.Goals as goal

pub returns-then-can_begin : goal.returns-then-can_begin
returns-then-can_begin c =
    began_yes _ _ _ _ _ _ _ _ (c.can_begin.ensures ∙ ap (λ k. can_begin k c.args.s.words c.args.s.bytes) c.from.ensures) c.if-can_begin.true c.fg_start.ensures

pub returns : goal.returns
returns c = began_no _ _ _ _ _ (c.can_begin.ensures ∙ ap (λ k. can_begin k c.args.s.words c.args.s.bytes) c.from.ensures) c.if-can_begin.false
