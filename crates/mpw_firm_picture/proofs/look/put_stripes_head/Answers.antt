-- Answers to the goals of `put_stripes_head` in `src/look.rt`.
use Rattle.std.proofs.Common.{refl}
use Rattle.mpw_text.proofs.Adding.{adds_same}
use Rattle.mpw_firm_picture.specs.Patterns.{stripes_head}
use Rattle.mpw_firm_picture.proofs.look.put_stripes_head.Goals as goal

pub returns : goal.returns
unfolding stripes_head
returns g c =
    adds_same _ _ _ _ _ (rw (
      c.format-period.ensures.text,
      c.format.ensures.text,
      c.period_of.ensures,
      c.hatch_of.ensures,
    ) refl)
    c.put.ensures
