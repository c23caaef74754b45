-- There is room, or not.
use mathlib.Core.Path.{◌≡◌, refl, sym, ◌∙◌}
use mathlib.Core.Bool.{true, false}
use Rattle.tables.specs.State.{view}
use Rattle.rules.specs.Actions.{has_room}
use Rattle.rules.proofs.Kept.Exit.{tell_lost, tell-sent}
use Rattle.endings.specs.Counted.{told_of}
use Rattle.endings.proofs.notices.Leaver.tell.Goals as goal

pub returns-then-not-has_room : goal.returns-then-not-has_room
returns-then-not-has_room c = let a = c.args in
    let s = view a.k a.t.now a.p.now in
    let q : has_room a.k s ≡ false = sym c.has_room.ensures ∙ c.if-not-has_room.true in
    rw (tell_lost a.k (told_of a.n s) a.b a.self.id a.self.reason a.monitor q) (record { sent = refl; lost = refl; left = record { is = refl; room = c.requires.0 } })

pub returns : goal.returns
returns c = let a = c.args in
    let s = view a.k a.t.now a.p.now in
    let q : has_room a.k s ≡ true = sym c.has_room.ensures ∙ c.if-not-has_room.false in
    rw (tell-sent a.k (told_of a.n s) a.b a.self.id a.self.reason a.monitor q) (record { sent = refl; lost = refl; left = c.send.ensures })
