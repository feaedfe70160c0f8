-- Answers to the goals of `put_head` in `src/left.rt`.
use Rattle.std.proofs.Common.{refl}
use Rattle.mpw_text.proofs.Adding.{adds_same}
use Rattle.mpw_firm_picture.specs.Left.{left_head}
use Rattle.mpw_firm_picture.proofs.left.put_head.Goals as goal

pub returns : goal.returns
unfolding left_head
returns g c =
    adds_same _ _ _ _ _ (rw (
      c.format.ensures.text,
      c.line_breadth.ensures,
    ) refl)
    c.put.ensures
