-- Answers to the goals of `put_swatch` in `src/legend.rt`.
use Rattle.std.proofs.Common.{refl}
use Rattle.mpw_text.proofs.Adding.{adds_more, adds_same}
use Rattle.mpw_firm_picture.specs.Rows.{swatch}
use Rattle.mpw_firm_picture.proofs.legend.put_swatch.Goals as goal

pub returns : goal.returns
unfolding swatch
returns g c =
    adds_same _ _ _ _ _ (rw (c.format.ensures.text, c.place_of.ensures) refl)
    (adds_more _ _ _ _ _ _ _ _ c.in_ok-put_look.was
    (adds_more _ _ _ _ _ _ _ _ c.in_ok-put.was
    c.put.ensures c.put_look.ensures) c.put-2.ensures)
