-- Answers to the goals of `put_pattern` in `src/look.rt`.
use Rattle.mpw_text.proofs.Adding.{adds_more}
use Rattle.mpw_firm_picture.specs.Patterns.{pattern_text}
use Rattle.mpw_firm_picture.proofs.look.put_pattern.Goals as goal

pub returns : goal.returns
unfolding pattern_text
returns g c =
    adds_more _ _ _ _ _ _ _ _ c.in_ok-put_scale.was
    (adds_more _ _ _ _ _ _ _ _ c.in_ok-put_stripes_head.was
    (adds_more _ _ _ _ _ _ _ _ c.in_ok-put_letter.was
    (adds_more _ _ _ _ _ _ _ _ c.in_ok-put.was
    c.put.ensures c.put_letter.ensures) c.put_stripes_head.ensures) c.put_scale.ensures) c.put_stripes_end.ensures
