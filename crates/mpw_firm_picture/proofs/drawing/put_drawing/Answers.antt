-- Answers to the goals of `put_drawing` in `src/drawing.rt`.
use Rattle.std.proofs.Common.{refl}
use Rattle.mpw_text.proofs.Adding.{adds_more, adds_same}
use Rattle.mpw_firm_picture.specs.Text.{drawing_text}
use Rattle.mpw_firm_picture.proofs.drawing.put_drawing.Goals as goal

pub returns : goal.returns
unfolding drawing_text
returns g c =
    adds_same _ _ _ _ _ (rw c.as_slice.ensures.value refl)
    (adds_more _ _ _ _ _ _ _ _ c.in_ok-put_left.was
    (adds_more _ _ _ _ _ _ _ _ c.in_ok-put_layers.was
    (adds_more _ _ _ _ _ _ _ _ c.in_ok-put_frame.was
    c.put_frame.ensures c.put_layers.ensures) c.put_left.ensures) c.put_marks.ensures)
