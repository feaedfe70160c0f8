-- Answers to the goals of `is_on_line_of` in `src/pieces.rt`.
use Rattle.std.proofs.Common.{◌∙◌, sym}
use Rattle.mpw_markers.proofs.Order.{same_lines_test}
use Rattle.mpw_columns_keys.proofs.pieces.is_on_line_of.Goals as goal

pub returns : goal.returns
returns c =
    let t = same_lines_test c.line.result c.line-2.result c.eq.result c.eq.ensures in (
      λ h. sym c.line.ensures ∙ t.0 h ∙ c.line-2.ensures,
      λ e. t.1 (c.line.ensures ∙ e ∙ sym c.line-2.ensures),
    )
