-- Answers to the goals of `put_key_title` in `src/title.rt`.
use Rattle.mpw_text.proofs.Adding.{adds_more}
use Rattle.mpw_firm_picture.specs.Titles.{key_title}
use Rattle.mpw_firm_picture.proofs.title.put_key_title.Goals as goal

pub returns : goal.returns
unfolding key_title
returns g c =
    adds_more _ _ _ _ _ _ _ _ c.in_ok-put_rule.was
    (adds_more _ _ _ _ _ _ _ _ c.in_ok-put_places.was
    (adds_more _ _ _ _ _ _ _ _ c.in_ok-put_axis.was
    (adds_more _ _ _ _ _ _ _ _ c.in_ok-put_name.was
    (adds_more _ _ _ _ _ _ _ _ c.in_ok-put.was
    c.put.ensures c.put_name.ensures) c.put_axis.ensures) c.put_places.ensures) c.put_rule.ensures) c.put-2.ensures
