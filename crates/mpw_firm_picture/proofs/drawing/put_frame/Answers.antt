-- Answers to the goals of `put_frame` in `src/drawing.rt`.
use Rattle.std.proofs.Common.{refl}
use Rattle.mpw_text.proofs.Adding.{adds_same}
use Rattle.mpw_firm_picture.specs.Text.{frame_text}
use Rattle.mpw_firm_picture.proofs.drawing.put_frame.Goals as goal

pub returns : goal.returns
unfolding frame_text
returns g c =
    adds_same _ _ _ _ _ (rw (
      c.format.ensures.text,
      c.format-2.ensures.text,
      c.format-3.ensures.text,
      c.format-4.ensures.text,
      c.drawing_breadth.ensures,
      c.drawing_height.ensures.height,
      c.breadth.ensures.breadth,
      c.height.ensures.height,
    ) refl)
    c.put.ensures
