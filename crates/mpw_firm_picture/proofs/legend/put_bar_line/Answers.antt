-- Answers to the goals of `put_bar_line` in `src/legend.rt`.
use Rattle.std.proofs.Common.{refl}
use Rattle.mpw_text.proofs.Adding.{adds_same}
use Rattle.mpw_firm_picture.specs.Rows.{bar_line}
use Rattle.mpw_firm_picture.proofs.legend.put_bar_line.Goals as goal

pub returns : goal.returns
unfolding bar_line
returns g c =
    adds_same _ _ _ _ _ (rw (
      c.format.ensures.text,
      c.format-2.ensures.text,
      c.longer_side.ensures.longer,
      c.bar_length.ensures,
    ) refl)
    c.put.ensures
