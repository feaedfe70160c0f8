-- Answers to the goals of `put_all` in `src/write.rt`.
use Rattle.mpw_text.proofs.Adding.{adds_more}
use Rattle.mpw_firm_picture.specs.Text.{picture_text}
use Rattle.mpw_firm_picture.proofs.write.put_all.Goals as goal

pub returns : goal.returns
unfolding picture_text
returns g c =
    adds_more _ _ _ _ _ _ _ _ c.in_ok-put_left_row.was
    (adds_more _ _ _ _ _ _ _ _ c.in_ok-put_legend.was
    (adds_more _ _ _ _ _ _ _ _ c.in_ok-put_edges.was
    (adds_more _ _ _ _ _ _ _ _ c.in_ok-put_drawing.was
    (adds_more _ _ _ _ _ _ _ _ c.in_ok-put_titles.was
    (adds_more _ _ _ _ _ _ _ _ c.in_ok-put_head.was
    c.put_head.ensures c.put_titles.ensures) c.put_drawing.ensures) c.put_edges.ensures) c.put_legend.ensures) c.put_left_row.ensures) c.put_part.ensures
