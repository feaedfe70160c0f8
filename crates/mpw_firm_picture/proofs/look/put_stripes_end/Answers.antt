-- Answers to the goals of `put_stripes_end` in `src/look.rt`.
use Rattle.std.proofs.Common.{refl}
use Rattle.mpw_text.proofs.Adding.{adds_same}
use Rattle.mpw_firm_picture.specs.Patterns.{stripes_end}
use Rattle.mpw_firm_picture.proofs.look.put_stripes_end.Goals as goal

pub returns : goal.returns
unfolding stripes_end
returns g c =
    adds_same _ _ _ _ _ (rw (
      c.format.ensures.text,
      c.format-2.ensures.text,
      c.format-3.ensures.text,
      c.format-4.ensures.text,
      c.angle_of.ensures,
      c.colour_of.ensures,
      c.period_of.ensures,
      c.period_of-2.ensures,
      c.hatch_of-hatch.ensures,
    ) refl)
    c.put.ensures
