-- Answers to the goals of `put_column_labels` in `src/title.rt`.
use Rattle.std.proofs.Common.{refl, rules, w64}
use Rattle.std.proofs.lemmas.Int.{to_z-of_z}
use Rattle.mpw_text.proofs.Adding.{adds_same}
use Rattle.mpw_firm_picture.specs.Titles.{columns_text}
use Rattle.mpw_firm_picture.proofs.title.put_column_labels.Goals as goal

pub returns : goal.returns
unfolding columns_text
returns g c =
    adds_same _ _ _ _ _ (rw (
      c.format-down.ensures.text,
      c.format.ensures.text,
      c.format-2.ensures.text,
      c.format-3.ensures.text,
      c.drawing_breadth.ensures,
      c.drawing_height.ensures.height,
      to_z-of_z w64 c.args.window.now.x0 (search rules),
      to_z-of_z w64 c.args.window.now.x1 (search rules),
    ) refl)
    c.put.ensures
