-- Answers to the goals of `put_density` in `src/squares.rt`.
use Rattle.std.proofs.Common.{refl}
use Rattle.mpw_text.proofs.Adding.{adds_more, adds_same}
use Rattle.mpw_firm_picture.specs.Marked.{density_text}
use Rattle.mpw_firm_picture.proofs.squares.put_density.Goals as goal

pub returns : goal.returns
unfolding density_text
returns g c =
    adds_same _ _ _ _ _ (rw c.as_slice.ensures.value refl)
    (adds_more _ _ _ _ _ _ _ _ c.in_ok-put_cells.was
    (adds_more _ _ _ _ _ _ _ _ c.in_ok-put_density_head.was
    c.put_density_head.ensures c.put_cells.ensures) c.put.ensures)
