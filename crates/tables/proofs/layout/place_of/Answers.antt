-- `tables::layout::place_of` meets its contract: each return is a group of columns of one size.
use native.Mathlib.Omega.{arith}
use lib.ListN.{take, drop}
use Rattle.tables.specs.Columns.{ACTORS, BUS-SIZE, LINK-ONE, MAIL-FREE, MAIL-OWNER, REST, SEAT, SENDER, SPARE, STATE, TIMER-OWNER, WATCHER}
use Rattle.tables.specs.Sizes.{ALL-SEATS, BIT-WORDS, BITS, HEADS, PER-ACTOR, PER-BUS, PER-DATA, PER-LINK, PER-MAIL, PER-MONITOR, PER-TIMER, SEATINGS, SPARES}
use Rattle.tables.specs.Limits.{MOST-BUSES}
use Rattle.tables.specs.State.{sizes}
use Rattle.tables.proofs.RowLaws.{nth-place}
use Rattle.tables.proofs.layout.place_of.Goals as goal

pub returns-then-c-lt-SPARE : goal.returns-then-c-lt-SPARE
returns-then-c-lt-SPARE c =
    let s = c.args in
    let k = s.k in
    nth-place (take ACTORS (sizes k)) (drop SPARE (sizes k)) HEADS 1 s.c _ _ (omega arith) (omega arith) (omega (arith, c.nth.ensures)) c.nth.ensures.1

pub returns-then-c-lt-MAIL_FREE : goal.returns-then-c-lt-MAIL_FREE
returns-then-c-lt-MAIL_FREE c =
    let s = c.args in
    let k = s.k in
    nth-place (take SPARE (sizes k)) (drop MAIL-FREE (sizes k)) 1 SPARES s.c _ _ (omega arith) (omega arith) (omega (arith, c.nth-then-c-lt-MAIL_FREE.ensures)) c.nth-then-c-lt-MAIL_FREE.ensures.1

pub returns-then-c-lt-BUS_SIZE : goal.returns-then-c-lt-BUS_SIZE
returns-then-c-lt-BUS_SIZE c =
    let s = c.args in
    let k = s.k in
    nth-place (take MAIL-FREE (sizes k)) (drop BUS-SIZE (sizes k)) BITS BIT-WORDS s.c _ _ (omega arith) (omega arith) (omega (arith, c.nth-then-c-lt-BUS_SIZE.ensures)) c.nth-then-c-lt-BUS_SIZE.ensures.1

pub returns-then-c-lt-SEAT : goal.returns-then-c-lt-SEAT
returns-then-c-lt-SEAT c =
    let s = c.args in
    let k = s.k in
    nth-place (take BUS-SIZE (sizes k)) (drop SEAT (sizes k)) PER-BUS MOST-BUSES s.c _ _ (omega arith) (omega arith) (omega (arith, c.nth-then-c-lt-SEAT.ensures)) c.nth-then-c-lt-SEAT.ensures.1

pub returns-then-c-lt-STATE : goal.returns-then-c-lt-STATE
returns-then-c-lt-STATE c =
    let s = c.args in
    let k = s.k in
    nth-place (take SEAT (sizes k)) (drop STATE (sizes k)) SEATINGS ALL-SEATS s.c _ _ (omega arith) (omega arith) (omega (arith, c.nth-then-c-lt-STATE.ensures)) c.nth-then-c-lt-STATE.ensures.1

pub returns-then-c-lt-MAIL_OWNER : goal.returns-then-c-lt-MAIL_OWNER
returns-then-c-lt-MAIL_OWNER c =
    let s = c.args in
    let k = s.k in
    nth-place (take STATE (sizes k)) (drop MAIL-OWNER (sizes k)) PER-ACTOR k.actors s.c _ _ (omega arith) (omega arith) (omega (arith, c.nth-then-c-lt-MAIL_OWNER.ensures)) c.nth-then-c-lt-MAIL_OWNER.ensures.1

pub returns-then-c-lt-SENDER : goal.returns-then-c-lt-SENDER
returns-then-c-lt-SENDER c =
    let s = c.args in
    let k = s.k in
    nth-place (take MAIL-OWNER (sizes k)) (drop SENDER (sizes k)) PER-MAIL k.mails s.c _ _ (omega arith) (omega arith) (omega (arith, c.nth-then-c-lt-SENDER.ensures)) c.nth-then-c-lt-SENDER.ensures.1

pub returns-then-c-lt-LINK_ONE : goal.returns-then-c-lt-LINK_ONE
returns-then-c-lt-LINK_ONE c =
    let s = c.args in
    let k = s.k in
    nth-place (take SENDER (sizes k)) (drop LINK-ONE (sizes k)) PER-DATA k.datas s.c _ _ (omega arith) (omega arith) (omega (arith, c.nth-then-c-lt-LINK_ONE.ensures)) c.nth-then-c-lt-LINK_ONE.ensures.1

pub returns-then-c-lt-WATCHER : goal.returns-then-c-lt-WATCHER
returns-then-c-lt-WATCHER c =
    let s = c.args in
    let k = s.k in
    nth-place (take LINK-ONE (sizes k)) (drop WATCHER (sizes k)) PER-LINK k.links s.c _ _ (omega arith) (omega arith) (omega (arith, c.nth-then-c-lt-WATCHER.ensures)) c.nth-then-c-lt-WATCHER.ensures.1

pub returns-then-c-lt-TIMER_OWNER : goal.returns-then-c-lt-TIMER_OWNER
returns-then-c-lt-TIMER_OWNER c =
    let s = c.args in
    let k = s.k in
    nth-place (take WATCHER (sizes k)) (drop TIMER-OWNER (sizes k)) PER-MONITOR k.monitors s.c _ _ (omega arith) (omega arith) (omega (arith, c.nth-then-c-lt-TIMER_OWNER.ensures)) c.nth-then-c-lt-TIMER_OWNER.ensures.1

pub returns : goal.returns
returns c =
    let s = c.args in
    let k = s.k in
    nth-place (take TIMER-OWNER (sizes k)) (drop REST (sizes k)) PER-TIMER k.timers s.c _ _ (omega arith) (omega arith) (omega (arith, c.nth-2.ensures)) c.nth-2.ensures.1
