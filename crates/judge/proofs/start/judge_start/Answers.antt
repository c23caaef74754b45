-- The start is made, and its record compared with the one that the writer writes of it; a first one that was refused is wrong.
use Rattle.std.proofs.Common.{◌≡◌, ◌&&◌, false, refl, eqb, eq-eqb}
use Rattle.std.proofs.lemmas.Bool.{ne_eqb}
use mathlib.Core.Bool.{not}
use Rattle.trace.specs.Kinds.{encode}
use Rattle.judge.proofs.StartLaws.{begun-not, begun_on}
use Rattle.judge.proofs.start.judge_start.Goals as goal
use Rattle.judge.proofs.start.judge_start.Goals.{else-first-via-then-first+else-v-ne0, else-first-via-else-first}

pub returns-then-v-ne0 : goal.returns-then-v-ne0
unfolding encode
returns-then-v-ne0 c = begun-not c.read_start-s.ensures _ _ _ _ _ _ _ c.begin-v.ensures (rw (c.if-first.true, ne_eqb c.begin-v.result 0 c.if-v-ne0.true) refl)

pub returns : goal.returns
unfolding encode
returns c =
    let t : c.args.first && not (eqb c.begin-v.result 0) ≡ false =
    elim c.else-first.branch [
      | else-first-via-then-first+else-v-ne0 w ↦ rw (w.if-first.true, eq-eqb c.begin-v.result 0 w.if-v-ne0.false) refl
      | else-first-via-else-first w ↦ rw w.if-first.false refl
    ] in
    begun_on c.read_start-s.ensures _ _ _ _ _ _ _ c.begin-v.ensures _ t c.is_in.ensures
