-- Answers to the goals of `put_row_labels` in `src/title.rt`.
use Rattle.std.proofs.Common.{refl, rules, w64}
use Rattle.std.proofs.lemmas.Int.{to_z-of_z}
use Rattle.mpw_text.proofs.Adding.{adds_same}
use Rattle.mpw_firm_picture.specs.Titles.{rows_text}
use Rattle.mpw_firm_picture.proofs.title.put_row_labels.Goals as goal

pub returns : goal.returns
unfolding rows_text
returns g c =
    adds_same _ _ _ _ _ (rw (
      c.format.ensures.text,
      c.format-2.ensures.text,
      c.format-3.ensures.text,
      c.drawing_height.ensures.height,
      to_z-of_z w64 c.args.window.now.y1 (search rules),
      to_z-of_z w64 c.args.window.now.y0 (search rules),
    ) refl)
    c.put.ensures
