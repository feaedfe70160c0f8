-- Answers to the goals of `put_bar` in `src/legend.rt`.
use Rattle.std.proofs.Common.{refl, rules, w64}
use Rattle.std.proofs.lemmas.Int.{to_z-of_z}
use Rattle.mpw_text.proofs.Adding.{adds_more, adds_same}
use Rattle.mpw_firm_picture.specs.Rows.{bar_text}
use Rattle.mpw_firm_picture.proofs.legend.put_bar.Goals as goal

pub returns : goal.returns
unfolding bar_text
returns g c =
    adds_same _ _ _ _ _ (rw (
      to_z-of_z w64 c.from.result (search rules),
      c.from.ensures,
      c.bar_length.ensures,
    ) refl)
    (adds_more _ _ _ _ _ _ _ _ c.in_ok-put_micrometres.was
    (adds_more _ _ _ _ _ _ _ _ c.in_ok-put.was
    c.put.ensures c.put_micrometres.ensures) c.put_bar_line.ensures)
