-- Answers to the goals of `put_row` in `src/legend.rt`.
use Rattle.std.proofs.Common.{refl}
use Rattle.mpw_text.proofs.Adding.{adds_more, adds_same}
use Rattle.mpw_firm_picture.specs.Rows.{row_text}
use Rattle.mpw_firm_picture.proofs.legend.put_row.Goals as goal

pub returns : goal.returns
unfolding row_text
returns g c =
    adds_same _ _ _ _ _ (rw (c.as_slice.ensures.value, c.count_of-count.ensures, c.as_slice-2.ensures.value, c.limit_of.ensures) refl)
    (adds_more _ _ _ _ _ _ _ _ c.in_ok-put_rule.was
    (adds_more _ _ _ _ _ _ _ _ c.in_ok-put.was
    (adds_more _ _ _ _ _ _ _ _ c.in_ok-put_swatches.was
    (adds_more _ _ _ _ _ _ _ _ c.in_ok-put_row_head.was
    c.put_row_head.ensures c.put_swatches.ensures) c.put.ensures) c.put_rule.ensures) c.put_row_end.ensures)
