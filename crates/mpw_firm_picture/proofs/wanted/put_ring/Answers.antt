-- Answers to the goals of `put_ring` in `src/wanted.rt`.
use Rattle.std.proofs.Common.{refl}
use Rattle.mpw_text.proofs.Adding.{adds_same}
use Rattle.mpw_firm_picture.specs.Marked.{ring_text}
use Rattle.mpw_firm_picture.proofs.wanted.put_ring.Goals as goal

pub returns : goal.returns
unfolding ring_text
returns g c =
    adds_same _ _ _ _ _ (rw (
      c.corners_of.ensures,
      c.wider_box-ring.ensures,
      c.ring_margin-margin.ensures.margin,
    ) refl)
    c.put_ring_at.ensures
