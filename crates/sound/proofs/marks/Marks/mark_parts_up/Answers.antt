-- The parts so far are marked.
use Prim.Native.Nat.{suc}
use mathlib.Core.Path.{sym, ap, ◌∙◌}
use mathlib.Core.List.{[], ◌++◌, append_assoc}
use Rattle.std.specs.Slice.Iter.{chunks_rest}
use Rattle.sound.proofs.MarkLaws.{marks_none, part_below, part_more}
use Rattle.tables.specs.Sizes.{COLUMN-BITS}
use Rattle.sound.proofs.marks.Marks.mark_parts_up.Goals as goal

pub loop-part-init : goal.loop-part-init
loop-part-init c =
    ([], sym (ap (λ x. chunks_rest x) c.into_iter-part-iterator.ensures.into_iter_gives ∙ c.chunks-part-items.ensures.rest), marks_none [] (λ e. suc e) c.args.self.now.bits)

pub mark_part_up-ok-requires : goal.mark_part_up-ok-requires
mark_part_up-ok-requires c =
    let (done, e, _) = c.loop-part.invariant in
    part_below c.args.list.now done c.in-Some.part.now _ (suc COLUMN-BITS) (e ∙ ap (λ x. done ++ x) c.in-Some.ensures.steps.1.0) c.requires

pub loop-part-preserved : goal.loop-part-preserved
loop-part-preserved c =
    let (done, e, marked) = c.loop-part.invariant in
    let part = c.in-Some.part.now in
    (done ++ part, e ∙ ap (λ x. done ++ x) c.in-Some.ensures.steps.1.0 ∙ sym (append_assoc done part _), part_more done part marked c.mark_part_up-ok.ensures)
