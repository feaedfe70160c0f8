-- Answers to the goals of `put_density_head` in `src/squares.rt`.
use Rattle.std.proofs.Common.{refl}
use Rattle.mpw_text.proofs.Adding.{adds_same}
use Rattle.mpw_firm_picture.specs.Marked.{density_head}
use Rattle.mpw_firm_picture.proofs.squares.put_density_head.Goals as goal

pub returns : goal.returns
unfolding density_head
returns g c =
    adds_same _ _ _ _ _ (rw (
      c.format.ensures.text,
      c.height.ensures.height,
    ) refl)
    c.put.ensures
