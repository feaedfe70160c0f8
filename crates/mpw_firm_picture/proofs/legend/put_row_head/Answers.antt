-- Answers to the goals of `put_row_head` in `src/legend.rt`.
use Rattle.std.proofs.Common.{refl}
use Rattle.mpw_text.proofs.Adding.{adds_same}
use Rattle.mpw_firm_picture.specs.Rows.{row_head}
use Rattle.mpw_firm_picture.proofs.legend.put_row_head.Goals as goal

pub returns : goal.returns
unfolding row_head
returns g c =
    adds_same _ _ _ _ _ (rw (
      c.format.ensures.text,
      c.format-2.ensures.text,
      c.rule_colour.ensures,
    ) refl)
    c.put.ensures
