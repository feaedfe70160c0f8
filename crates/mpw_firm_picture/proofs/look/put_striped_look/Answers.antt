-- Answers to the goals of `put_striped_look` in `src/look.rt`.
use Rattle.std.proofs.Common.{refl}
use Rattle.mpw_text.proofs.Adding.{adds_more, adds_same}
use Rattle.mpw_firm_picture.specs.Patterns.{striped_look}
use Rattle.mpw_firm_picture.proofs.look.put_striped_look.Goals as goal

pub returns : goal.returns
unfolding striped_look
returns g c =
    adds_same _ _ _ _ _ (rw c.format.ensures.text refl)
    (adds_more _ _ _ _ _ _ _ _ c.in_ok-put_letter.was
    (adds_more _ _ _ _ _ _ _ _ c.in_ok-put.was
    c.put.ensures c.put_letter.ensures) c.put-2.ensures)
