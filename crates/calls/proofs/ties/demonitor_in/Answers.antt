-- Nobody runs; it is not the running actor's own; it is.
use mathlib.Core.Path.{refl}
use Rattle.std.proofs.lemmas.Result.{err_from_is_err_and}
use Rattle.rules.specs.Calls.{ruled}
use Rattle.calls.proofs.CallLaws.{own_finds, own_stops}
use Rattle.tables.specs.State.{view}
use Rattle.rules.specs.Aged.{monitor_pool}
use Rattle.calls.proofs.ties.demonitor_in.Goals as goal

pub returns-in_err-i : goal.returns-in_err-i
unfolding ruled
returns-in_err-i c =
    let p = err_from_is_err_and c.from_residual.result c.from_residual.ensures.1 in
    own_stops monitor_pool (view c.args.k c.args.t.now c.args.p.now) c.args.id c.in_err-i.ensures
    (λ q r. simp (q, p.1, p.2, r) (refl, record { is = refl; room = c.requires.room }))
    (λ q u r. simp (q, u, p.1, p.2, r) (refl, record { is = refl; room = c.requires.room }))

pub returns : goal.returns
unfolding ruled
returns c =
    let i = own_finds monitor_pool (view c.args.k c.args.t.now c.args.p.now) c.args.id c.in_ok-i.ensures in
    simp (i.0, i.1) (refl, record { is = rw (c.unwatch.ensures.is, i.2); room = c.unwatch.ensures.room })
