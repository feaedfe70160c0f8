-- Answers to the goals of `Key::is_on_line_of` in `src/stitching.rt`.
use Rattle.std.proofs.Common.{◌∙◌, sym}
use Rattle.mpw_markers.proofs.Order.{same_lines_test}
use Rattle.mpw_markers.proofs.marker.Key.is_on_line_of.Goals as goal

pub returns : goal.returns
returns c =
    let t = same_lines_test c.line.result c.line-2.result c.eq.result c.eq.ensures in (
      λ h. sym c.line.ensures ∙ t.0 h ∙ c.line-2.ensures,
      λ e. t.1 (c.line.ensures ∙ e ∙ sym c.line-2.ensures),
    )
