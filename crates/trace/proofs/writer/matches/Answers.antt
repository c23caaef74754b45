-- The header, the numbers, the text and the numbers after it are compared one after the other, and that is the comparison of the whole.
use Rattle.std.proofs.Common.{◌∙◌, ◌+◌, ◌-◌, ◌*◌, length, sym, arith, tests}
use Rattle.trace.proofs.MatchLaws.{ands_last, ands_third, leads_there, note-same}
use Rattle.trace.proofs.writer.matches.Goals as goal
use Rattle.trace.proofs.writer.matches.Goals.{then-is_record, else-is_record, then-words_at, else-words_at}

pub returns-then-starts_with : goal.returns-then-starts_with
returns-then-starts_with c =
    let a = c.args in
    let f = 4 + 8 * length a.front.now in
    let size = f + length a.text.now + 8 * length a.back.now - 2 in
    let s = note-same a.kind a.front.now a.text.now a.back.now a.r.now size (omega arith) (omega arith) c.ranges.kind.fits (λ i. (c.type_inv.r i).fits) in
    let t = leads_there a.text.now a.r.now f in
    elim c.if-is_record.branch [
      | then-is_record w ↦ elim c.if-words_at.branch [
        | then-words_at v ↦
            c.words_at-then-starts_with.ensures
            ∙ sym (s ∙ ands_last _ _ _ _ (sym c.is_record.ensures ∙ w.if-is_record.true) (sym w.words_at.ensures ∙ sym w.value-is ∙ v.if-words_at.true) (sym t ∙ sym v.starts_with.ensures.value ∙ sym v.value-is ∙ c.if-starts_with.true))
        | else-words_at v ↦ grind (arith, tests)
      ]
      | else-is_record w ↦ elim c.if-words_at.branch [ then-words_at v ↦ grind (arith, tests) | else-words_at v ↦ grind (arith, tests) ]
    ]

pub returns-else-starts_with : goal.returns-else-starts_with
returns-else-starts_with c =
    let a = c.args in
    let f = 4 + 8 * length a.front.now in
    let size = f + length a.text.now + 8 * length a.back.now - 2 in
    let s = note-same a.kind a.front.now a.text.now a.back.now a.r.now size (omega arith) (omega arith) c.ranges.kind.fits (λ i. (c.type_inv.r i).fits) in
    let t = leads_there a.text.now a.r.now f in
    elim c.if-is_record.branch [
      | then-is_record w ↦ elim c.if-words_at.branch [
        | then-words_at v ↦
            c.if-starts_with.false
            ∙ sym (s ∙ ands_third _ _ _ _ (sym c.is_record.ensures ∙ w.if-is_record.true) (sym w.words_at.ensures ∙ sym w.value-is ∙ v.if-words_at.true) (sym t ∙ sym v.starts_with.ensures.value ∙ sym v.value-is ∙ c.if-starts_with.false))
        | else-words_at v ↦ grind (arith, tests)
      ]
      | else-is_record w ↦ elim c.if-words_at.branch [ then-words_at v ↦ grind (arith, tests) | else-words_at v ↦ grind (arith, tests) ]
    ]
