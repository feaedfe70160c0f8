-- Answers to the goals of `put_legend` in `src/legend.rt`.
use Rattle.mpw_text.proofs.Adding.{adds_more}
use Rattle.mpw_firm_picture.specs.Rows.{legend_text}
use Rattle.mpw_firm_picture.proofs.legend.put_legend.Goals as goal

pub returns : goal.returns
unfolding legend_text
returns g c =
    adds_more _ _ _ _ _ _ _ _ c.in_ok-put_bar.was
    (adds_more _ _ _ _ _ _ _ _ c.in_ok-put_legend_head.was
    c.put_legend_head.ensures c.put_bar.ensures) c.put_rows.ensures
