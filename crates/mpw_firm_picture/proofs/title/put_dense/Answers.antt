-- Answers to the goals of `put_dense` in `src/title.rt`.
use Rattle.std.proofs.Common.{refl}
use Rattle.mpw_text.proofs.Adding.{adds_more, adds_same}
use Rattle.mpw_firm_picture.specs.Titles.{dense_text}
use Rattle.mpw_firm_picture.proofs.title.put_dense.Goals as goal

pub returns : goal.returns
unfolding dense_text
returns g c =
    adds_same _ _ _ _ _ (rw c.format.ensures.text refl)
    (adds_more _ _ _ _ _ _ _ _ c.in_ok-put.was
    c.put.ensures c.put_part.ensures)
