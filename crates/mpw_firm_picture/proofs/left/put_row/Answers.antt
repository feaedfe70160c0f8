-- Answers to the goals of `put_row` in `src/left.rt`.
use Rattle.std.proofs.Common.{refl}
use Rattle.mpw_text.proofs.Adding.{adds_same}
use Rattle.mpw_firm_picture.specs.Left.{left_row_text}
use Rattle.mpw_firm_picture.proofs.left.put_row.Goals as goal

pub returns : goal.returns
unfolding left_row_text
returns g c =
    adds_same _ _ _ _ _ (rw (
      c.format.ensures.text,
      c.format-2.ensures.text,
      c.format-3.ensures.text,
    ) refl)
    c.put.ensures
