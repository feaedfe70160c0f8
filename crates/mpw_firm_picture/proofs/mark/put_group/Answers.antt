-- Answers to the goals of `put_group` in `src/mark.rt`.
use Rattle.std.proofs.Common.{refl}
use Rattle.mpw_text.proofs.Adding.{adds_more, adds_same}
use Rattle.mpw_firm_picture.specs.Marked.{group_text}
use Rattle.mpw_firm_picture.proofs.mark.put_group.Goals as goal

pub returns : goal.returns
unfolding group_text
returns g c =
    adds_same _ _ _ _ _ (rw c.as_slice.ensures.value refl)
    (adds_more _ _ _ _ _ _ _ _ c.in_ok-put_first.was
    (adds_more _ _ _ _ _ _ _ _ c.in_ok-put.was
    (adds_more _ _ _ _ _ _ _ _ c.in_ok-put_name.was
    (adds_more _ _ _ _ _ _ _ _ c.in_ok-put_group_head.was
    c.put_group_head.ensures c.put_name.ensures) c.put.ensures) c.put_first.ensures) c.put-2.ensures)
