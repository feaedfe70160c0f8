-- Answers to the goals of `put_legend_head` in `src/legend.rt`.
use Rattle.std.proofs.Common.{refl}
use Rattle.mpw_text.proofs.Adding.{adds_same}
use Rattle.mpw_firm_picture.specs.Rows.{legend_head}
use Rattle.mpw_firm_picture.proofs.legend.put_legend_head.Goals as goal

pub returns : goal.returns
unfolding legend_head
returns g c =
    adds_same _ _ _ _ _ (rw (
      c.format.ensures.text,
      c.drawing_height.ensures.height,
    ) refl)
    c.put.ensures
