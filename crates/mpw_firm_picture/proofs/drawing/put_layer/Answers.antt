-- Answers to the goals of `put_layer` in `src/drawing.rt`.
use Rattle.std.proofs.Common.{refl}
use Rattle.mpw_text.proofs.Adding.{adds_more, adds_same}
use Rattle.mpw_firm_picture.specs.Text.{layer_text}
use Rattle.mpw_firm_picture.proofs.drawing.put_layer.Goals as goal

pub returns : goal.returns
unfolding layer_text
returns g c =
    adds_same _ _ _ _ _ (rw c.as_slice.ensures.value refl)
    (adds_more _ _ _ _ _ _ _ _ c.in_ok-put_rectangles.was
    (adds_more _ _ _ _ _ _ _ _ c.in_ok-put-2.was
    (adds_more _ _ _ _ _ _ _ _ c.in_ok-put_look.was
    (adds_more _ _ _ _ _ _ _ _ c.in_ok-put.was
    c.put.ensures c.put_look.ensures) c.put-2.ensures) c.put_rectangles.ensures) c.put-3.ensures)
