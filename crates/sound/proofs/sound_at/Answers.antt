-- `sound::sound_at` meets its contract.
use mathlib.Core.Path.{sym, ◌∙◌}
use Rattle.rules.proofs.Kept.Rules.{reads, guard_yes, guard_no}
use Rattle.tables.specs.State.{view}
use Rattle.rules.specs.Sound.{fit_rule, sound_at}
use Rattle.rules.proofs.Kept.Sound.{room_of}
use Rattle.sound.proofs.sound_at.Goals as goal

pub rules_ok-requires : goal.rules_ok-requires
rules_ok-requires c =
    let a = c.args in
    room_of a.k a.t.now a.p.now ((reads (fit_rule a.k (view a.k a.t.now a.p.now))).0 (sym c.suffices.ensures ∙ c.if-suffices.true))

pub returns-then-suffices : goal.returns-then-suffices
unfolding sound_at
returns-then-suffices c = guard_yes c.suffices.ensures c.if-suffices.true c.rules_ok.ensures

pub returns-else-suffices : goal.returns-else-suffices
unfolding sound_at
returns-else-suffices c = c.if-suffices.false ∙ guard_no _ c.suffices.ensures c.if-suffices.false
