-- A start is judged as one; any other record is wrong if it is the first, and else judged by its kind.
use Rattle.std.proofs.Common.{ap, arith, eq-eqb}
use Rattle.std.proofs.lemmas.Bool.{ne_eqb}
use Rattle.trace.specs.Kind.{number}
use Rattle.trace.specs.Kinds.{row_of}
use Rattle.trace.proofs.ReadLaws.{plain_kind}
use Rattle.judge.proofs.ArmLaws.{arrive_start, kind_is, kind_long, not_start, plain-first}
use Rattle.judge.proofs.step.whole.Goals as goal

pub returns-then-n-ne0 : goal.returns-then-n-ne0
returns-then-n-ne0 c = rw (ne_eqb c.args.n 0 c.if-n-ne0.true) c.later.ensures

pub judge_start-requires : goal.judge_start-requires
unfolding row_of
judge_start-requires c = let l = kind_long 16 _ (kind_is c.requires (ap number c.in-Start.is)) in omega arith

pub returns-in-Start : goal.returns-in-Start
returns-in-Start c = rw (eq-eqb c.args.n 0 c.if-n-ne0.false) (arrive_start _ (kind_is c.requires (ap number c.in-Start.is)) c.judge_start.ensures)

pub returns-in_default : goal.returns-in_default
returns-in_default c =
    rw (eq-eqb c.args.n 0 c.if-n-ne0.false)
    (plain-first c.args.t.now c.args.p.now c.args.r.now (plain_kind c.args.r.now (number c.args.kind) c.requires.right c.requires.is (not_start c.args.kind c.in_default.not-Start)))
