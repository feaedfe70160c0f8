-- Answers to the goals of `put_titles` in `src/title.rt`.
use Rattle.mpw_text.proofs.Adding.{adds_more}
use Rattle.mpw_firm_picture.specs.Titles.{titles_text}
use Rattle.mpw_firm_picture.proofs.title.put_titles.Goals as goal

pub returns : goal.returns
unfolding titles_text
returns g c =
    adds_more _ _ _ _ _ _ _ _ c.in_ok-put_wanted_title.was
    (adds_more _ _ _ _ _ _ _ _ c.in_ok-put-2.was
    (adds_more _ _ _ _ _ _ _ _ c.in_ok-put_name.was
    (adds_more _ _ _ _ _ _ _ _ c.in_ok-put.was
    c.put.ensures c.put_name.ensures) c.put-2.ensures) c.put_wanted_title.ensures) c.put_dense_title.ensures
