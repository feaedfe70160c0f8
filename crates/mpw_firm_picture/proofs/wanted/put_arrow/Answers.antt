-- Answers to the goals of `put_arrow` in `src/wanted.rt`.
use Rattle.std.proofs.Common.{refl}
use Rattle.mpw_text.proofs.Adding.{adds_same}
use Rattle.mpw_firm_picture.specs.Marked.{arrow_text}
use Rattle.mpw_firm_picture.proofs.wanted.put_arrow.Goals as goal

pub returns : goal.returns
unfolding arrow_text
returns g c =
    adds_same _ _ _ _ _ (rw (
      c.corners_of.ensures,
      c.corners_of-2.ensures,
      c.corners_of-3.ensures,
      c.wider_box-tail.ensures,
      c.wider_box-head.ensures,
      c.wider_box-tip.ensures,
      c.ring_margin-margin.ensures.margin,
    ) refl)
    c.put_arrow_at.ensures
