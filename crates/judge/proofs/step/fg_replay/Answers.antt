-- A record that is too short, of no kind, or not as long as its kind asks, asks for nothing; any other is judged as what it asks.
use Rattle.std.proofs.Common.{◌∙◌, ap}
use Rattle.trace.specs.Codec.{formed}
use Rattle.judge.proofs.ArmLaws.{none_formed, none_known, none_short, of_kind, still}
use Rattle.judge.proofs.step.fg_replay.Goals as goal

pub returns-then-r-lt4 : goal.returns-then-r-lt4
returns-then-r-lt4 c = rw (none_short _ c.if-r-lt4.true) still

pub whole-requires : goal.whole-requires
whole-requires c = of_kind _ _ (c.in-Ok.ensures ∙ c.load16.ensures) (c.fits.ensures ∙ ap (λ s. formed s c.args.r.now) c.of.ensures.form) c.if-fits.true

pub returns-else-fits : goal.returns-else-fits
returns-else-fits c =
    rw (none_formed _ _ (c.in-Ok.ensures ∙ c.load16.ensures) (c.fits.ensures ∙ ap (λ s. formed s c.args.r.now) c.of.ensures.form) c.if-fits.false, c.if-fits.false) still

pub returns-in-Err : goal.returns-in-Err
returns-in-Err c = rw (none_known c.load16.result _ c.load16.ensures c.in-Err.ensures.1) still
