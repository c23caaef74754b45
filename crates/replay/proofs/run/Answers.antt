-- What was written, at each end; and what is known of the input after a piece.
use Rattle.std.proofs.Common.{◌≡◌, ◌+◌, ◌≤◌, true, length, take, drop, sym, ap, ◌∙◌, subst, arith, length-take-le}
use Rattle.std.specs.Io.KnownBytes.{Appends}
use Rattle.trace.specs.Verdict.Verdict.{bad}
use Rattle.replay.specs.Said.{end_of, line_of, meant}
use Rattle.judge.specs.Feeding.{unfinished}
use Rattle.replay.proofs.TellLaws.{Bytes-take, FollowsOn, OnOk-map, follows-fed, follows-read, tells-ended, tells-many, tells-over, tells-stopped, unfinished-short}
use Rattle.replay.proofs.run.Goals as goal

pub returns-then-got-eq0 : goal.returns-then-got-eq0
returns-then-got-eq0 g c =
    let i = c.loop-piece.invariant in
    let r = c.in_ok-got.ensures in
    let none = c.if-got-eq0.true in
    let had = length-take-le c.loop-piece.have c.loop-piece.buf i.within in
    let has = length-take-le (c.loop-piece.have + c.in_ok-got.got) c.read_more.new.buf r.room.0 in
    let contents = g.W.Write.contents in
    λ big. OnOk-map c.say.result
    (λ a. tells-ended _ _ _ _ _ _ _ _ _ _ _ i.follows r.bytes (r.end (omega arith)) (omega arith) i.part
    (subst (λ k. Appends (contents c.args.out.now) (contents c.say.new.out) (line_of (end_of k c.loop-piece.n))) (sym had)
    (subst (λ v. Appends (contents c.args.out.now) (contents c.say.new.out) (line_of v)) c.ended.ensures
    (subst (λ o. Appends (contents o) (contents c.say.new.out) (line_of (meant c.ended.result))) i.silent a))))
    c.say.ensures

pub returns-then-n-gt-MANY : goal.returns-then-n-gt-MANY
returns-then-n-gt-MANY g c = λ big. tells-many _ _ _ _ _ _ _ _ _ c.loop-piece.invariant.follows c.if-n-gt-MANY.true

pub returns-in-Err : goal.returns-in-Err
returns-in-Err g c =
    let i = c.loop-piece.invariant in
    let r = c.in_ok-got.ensures in
    let had = length-take-le c.loop-piece.have c.loop-piece.buf i.within in
    let has = length-take-le (c.loop-piece.have + c.in_ok-got.got) c.read_more.new.buf r.room.0 in
    let some = c.if-got-eq0.false in
    let now = follows-read _ _ _ _ _ _ _ _ _ i.follows r.bytes (omega arith) in
    let contents = g.W.Write.contents in
    λ big. OnOk-map c.say-in-Err.result
    (λ a. tells-stopped _ _ _ _ _ _ _ _ _ c.in-Err.wrong now c.in-Err.ensures.stopped (subst (λ o. Appends (contents o) (contents c.say-in-Err.new.out) (line_of (bad c.in-Err.wrong.0))) i.silent a))
    c.say-in-Err.ensures

pub loop-piece-preserved : goal.loop-piece-preserved
loop-piece-preserved g c =
    let i = c.loop-piece.invariant in
    let r = c.in_ok-got.ensures in
    let f = c.in-Ok.ensures.going in
    let k = c.keep-have.ensures in
    let had = length-take-le c.loop-piece.have c.loop-piece.buf i.within in
    let has = length-take-le (c.loop-piece.have + c.in_ok-got.got) c.read_more.new.buf r.room.0 in
    let some = c.if-got-eq0.false in
    let used = f.part in
    let left : take c.keep-have.result c.keep-have.new.buf ≡ drop c.in-Ok.fed.used (take (c.loop-piece.have + c.in_ok-got.got) c.read_more.new.buf)
    = ap (λ n. take n c.keep-have.new.buf) k.count ∙ k.moved in
    let part = subst (λ l. unfinished l ≡ true) (sym left) f.left in
    let fits = c.keep-have.auto.buf in
    let within : c.keep-have.result ≤ length c.keep-have.new.buf = omega arith in
    let now = length-take-le c.keep-have.result c.keep-have.new.buf within in
    let short = unfinished-short _ (Bytes-take c.keep-have.result c.keep-have.new.buf (λ k. let h = c.type_inv.buf k in omega arith)) part in
    record {
      bench = f.bench;
      within = within;
      short = omega arith;
      silent = i.silent;
      part = part;
      follows = subst (FollowsOn _ _ _ _ _ _) (sym left) (follows-fed _ _ _ _ _ _ _ _ _ _ (follows-read _ _ _ _ _ _ _ _ _ i.follows r.bytes (omega arith)) f);
    }

pub returns-after-loop-piece : goal.returns-after-loop-piece
returns-after-loop-piece g c = λ big. tells-over _ _ _ _ _ _ _ _ _ c.loop-piece.invariant.follows (omega arith)
