-- Answers to the goals of `put_paper` in `src/write.rt`.
use Rattle.std.proofs.Common.{refl}
use Rattle.mpw_text.proofs.Adding.{adds_same}
use Rattle.mpw_firm_picture.specs.Text.{paper_text}
use Rattle.mpw_firm_picture.proofs.write.put_paper.Goals as goal

pub returns : goal.returns
unfolding paper_text
returns g c =
    adds_same _ _ _ _ _ (rw (
      c.format.ensures.text,
      c.drawing_height.ensures.height,
    ) refl)
    c.put.ensures
