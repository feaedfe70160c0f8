-- Answers to the goals of `put_head` in `src/write.rt`.
use Rattle.std.proofs.Common.{refl}
use Rattle.mpw_text.proofs.Adding.{adds_more, adds_same}
use Rattle.mpw_firm_picture.specs.Text.{head_text}
use Rattle.mpw_firm_picture.proofs.write.put_head.Goals as goal

pub returns : goal.returns
unfolding head_text
returns g c =
    adds_same _ _ _ _ _ (rw (c.as_slice.ensures.value, c.row_count.ensures.count) refl)
    (adds_more _ _ _ _ _ _ _ _ c.in_ok-put_patterns.was
    (adds_more _ _ _ _ _ _ _ _ c.in_ok-put_part-5.was
    (adds_more _ _ _ _ _ _ _ _ c.in_ok-put_part-4.was
    (adds_more _ _ _ _ _ _ _ _ c.in_ok-put_part-3.was
    (adds_more _ _ _ _ _ _ _ _ c.in_ok-put_name.was
    (adds_more _ _ _ _ _ _ _ _ c.in_ok-put_part-2.was
    (adds_more _ _ _ _ _ _ _ _ c.in_ok-put_paper.was
    (adds_more _ _ _ _ _ _ _ _ c.in_ok-put_part.was
    c.put_part.ensures c.put_paper.ensures) c.put_part-2.ensures) c.put_name.ensures) c.put_part-3.ensures) c.put_part-4.ensures) c.put_part-5.ensures) c.put_patterns.ensures) c.put_part-6.ensures)
