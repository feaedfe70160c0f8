-- Answers to the goals of `put_wanted_mark` in `src/wanted.rt`.
use Rattle.std.proofs.Common.{refl}
use Rattle.mpw_text.proofs.Adding.{adds_more, adds_same}
use Rattle.mpw_firm_picture.specs.Marked.{wanted_mark}
use Rattle.mpw_firm_picture.proofs.wanted.put_wanted_mark.Goals as goal

pub returns : goal.returns
unfolding wanted_mark
returns g c =
    adds_same _ _ _ _ _ (rw (c.corners_of.ensures, c.closed_box-area.ensures) refl)
    (adds_more _ _ _ _ _ _ _ _ c.in_ok-put.was
    (adds_more _ _ _ _ _ _ _ _ c.in_ok-put_outline.was
    (adds_more _ _ _ _ _ _ _ _ c.in_ok-put_wanted_head.was
    c.put_wanted_head.ensures c.put_outline.ensures) c.put.ensures) c.put_pointers.ensures)
