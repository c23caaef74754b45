-- Each kind makes its call, and the record is compared with the one that the writer writes of the answer.
use Rattle.std.proofs.Common.{ap, refl, arith}
use Rattle.ledger.specs.Call.Op.{advance, after, cancel, demonitor, every, exit, link, monitor, next, report, shown, spawn, subscribe, unlink, unsubscribe, yield}
use Rattle.trace.specs.declared.kind.Kind.TheVariants.{Advance, After, Cancel, Demonitor, Every, Exit, Link, Monitor, Next, Report, Shown, Spawn, Subscribe, Unlink, Unsubscribe, Yield}
use Rattle.trace.specs.Kind.{number}
use Rattle.trace.specs.Kinds.{row_of}
use Rattle.judge.proofs.ArmLaws.{arrive_bare, arrive_read, arrive_start, call_bare, call_one, first_there, kind_is, kind_long}
use Rattle.judge.proofs.step.later.Goals as goal

pub load64-a-requires : goal.load64-a-requires
load64-a-requires c = first_there _ _ c.requires

pub judge_start-requires : goal.judge_start-requires
unfolding row_of
judge_start-requires c = let l = kind_long 16 _ (kind_is c.requires (ap number c.in-Start.is)) in omega arith

pub notify-requires : goal.notify-requires
notify-requires c = kind_is c.requires (ap number c.in-Notify.is)

pub receive-requires : goal.receive-requires
receive-requires c = kind_is c.requires (ap number c.in-Receive.is)

pub bus-requires : goal.bus-requires
bus-requires c = kind_is c.requires (ap number c.in-Bus.is)

pub publish-requires : goal.publish-requires
publish-requires c = kind_is c.requires (ap number c.in-Publish.is)

pub load64-requires : goal.load64-requires
unfolding row_of
load64-requires c = let l = kind_long 38 _ (kind_is c.requires (ap number c.in-Read.is)) in omega arith

pub returns-in-Start : goal.returns-in-Start
returns-in-Start c = arrive_start _ (kind_is c.requires (ap number c.in-Start.is)) c.judge_start.ensures

pub returns-in-Spawn : goal.returns-in-Spawn
unfolding row_of
returns-in-Spawn c =
    call_one Spawn spawn refl (λ x. refl) c.in-Spawn.is c.requires c.load64-a.ensures c.fg_spawn.ensures c.is_in.ensures

pub returns-in-Next : goal.returns-in-Next
unfolding row_of
returns-in-Next c =
    call_bare Next next refl refl c.in-Next.is c.requires c.fg_next.ensures c.is_in-in-Next.ensures

pub returns-in-Yield : goal.returns-in-Yield
unfolding row_of
returns-in-Yield c =
    call_bare Yield yield refl refl c.in-Yield.is c.requires c.fg_yield.ensures c.is_in-in-Yield.ensures

pub returns-in-Show : goal.returns-in-Show
unfolding row_of
returns-in-Show c = arrive_bare 22 refl c.requires (ap number c.in-Show.is) c.judge_show.ensures

pub returns-in-Shown : goal.returns-in-Shown
unfolding row_of
returns-in-Shown c =
    call_bare Shown shown refl refl c.in-Shown.is c.requires c.fg_shown.ensures c.is_in-in-Shown.ensures

pub returns-in-After : goal.returns-in-After
unfolding row_of
returns-in-After c =
    call_one After after refl (λ x. refl) c.in-After.is c.requires c.load64-a.ensures c.fg_after.ensures c.is_in-in-After.ensures

pub returns-in-Every : goal.returns-in-Every
unfolding row_of
returns-in-Every c =
    call_one Every every refl (λ x. refl) c.in-Every.is c.requires c.load64-a.ensures c.fg_every.ensures c.is_in-in-Every.ensures

pub returns-in-Cancel : goal.returns-in-Cancel
unfolding row_of
returns-in-Cancel c =
    call_one Cancel cancel refl (λ x. refl) c.in-Cancel.is c.requires c.load64-a.ensures c.fg_cancel.ensures c.is_in-in-Cancel.ensures

pub returns-in-Link : goal.returns-in-Link
unfolding row_of
returns-in-Link c =
    call_one Link link refl (λ x. refl) c.in-Link.is c.requires c.load64-a.ensures c.fg_link.ensures c.is_in-in-Link.ensures

pub returns-in-Unlink : goal.returns-in-Unlink
unfolding row_of
returns-in-Unlink c =
    call_one Unlink unlink refl (λ x. refl) c.in-Unlink.is c.requires c.load64-a.ensures c.fg_unlink.ensures c.is_in-in-Unlink.ensures

pub returns-in-Monitor : goal.returns-in-Monitor
unfolding row_of
returns-in-Monitor c =
    call_one Monitor monitor refl (λ x. refl) c.in-Monitor.is c.requires c.load64-a.ensures c.fg_monitor.ensures c.is_in-in-Monitor.ensures

pub returns-in-Demonitor : goal.returns-in-Demonitor
unfolding row_of
returns-in-Demonitor c =
    call_one Demonitor demonitor refl (λ x. refl) c.in-Demonitor.is c.requires c.load64-a.ensures c.fg_demonitor.ensures c.is_in-in-Demonitor.ensures

pub returns-in-Exit : goal.returns-in-Exit
unfolding row_of
returns-in-Exit c =
    call_one Exit exit refl (λ x. refl) c.in-Exit.is c.requires c.load64-a.ensures c.fg_exit.ensures c.is_in-in-Exit.ensures

pub returns-in-Advance : goal.returns-in-Advance
unfolding row_of
returns-in-Advance c =
    call_one Advance advance refl (λ x. refl) c.in-Advance.is c.requires c.load64-a.ensures c.fg_advance.ensures c.is_in-in-Advance.ensures

pub returns-in-Report : goal.returns-in-Report
unfolding row_of
returns-in-Report c =
    call_bare Report report refl refl c.in-Report.is c.requires c.fg_report.ensures c.is_in-in-Report.ensures

pub returns-in-Subscribe : goal.returns-in-Subscribe
unfolding row_of
returns-in-Subscribe c =
    call_one Subscribe subscribe refl (λ x. refl) c.in-Subscribe.is c.requires c.load64-a.ensures c.fg_subscribe.ensures c.is_in-in-Subscribe.ensures

pub returns-in-Unsubscribe : goal.returns-in-Unsubscribe
unfolding row_of
returns-in-Unsubscribe c =
    call_one Unsubscribe unsubscribe refl (λ x. refl) c.in-Unsubscribe.is c.requires c.load64-a.ensures c.fg_unsubscribe.ensures c.is_in-in-Unsubscribe.ensures

pub returns-in-Read : goal.returns-in-Read
returns-in-Read c = arrive_read _ _ c.requires (ap number c.in-Read.is) c.load64-a.ensures c.load64.ensures c.judge_read.ensures
