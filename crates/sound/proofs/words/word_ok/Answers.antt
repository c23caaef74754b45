-- `sound::words::word_ok` meets its contract.
use native.Mathlib.Omega.{arith}
use Rattle.sound.proofs.WordLaws.{clear-word, zero_word, whole_word}
use Rattle.tables.specs.State.{view}
use Rattle.sound.proofs.words.word_ok.Goals as goal

pub returns-then-n-from : goal.returns-then-n-from
returns-then-n-from c =
    let a = c.args in let g = c.get-word in
    zero_word a.n (view a.k a.t.now a.p.now a.c) a.j g.result g.ensures (omega arith) (omega (arith, g.type_inv))

pub returns-then-few-lt-WORD_BITS : goal.returns-then-few-lt-WORD_BITS
returns-then-few-lt-WORD_BITS c =
    let a = c.args in let g = c.get-word in
    clear-word a.n (view a.k a.t.now a.p.now a.c) a.j g.result _ g.ensures (omega arith) (omega (arith, g.type_inv))

pub returns : goal.returns
returns c =
    let a = c.args in
    whole_word a.n (view a.k a.t.now a.p.now a.c) a.j (omega arith)
