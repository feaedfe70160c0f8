-- Answers to the goals of `draw_view` in `src/picture.rt`.
use Rattle.std.proofs.Common.{◌≡◌, ℕ, List, length, refl, ap, ◌∙◌}
use Rattle.mpw_deck.specs.declared.rule.Rule.{Rule}
use Rattle.mpw_tiles.specs.declared.listing.Rectangle.{Rectangle}
use Rattle.mpw_firm_picture.specs.declared.picture.Mark.{Mark}
use Rattle.mpw_firm_picture.specs.Density.{counts_of}
use Rattle.mpw_firm_picture.specs.Looks.{layers_of}
use Rattle.mpw_firm_picture.proofs.picture.draw_view.Goals as goal

pub returns-clause-drawn : goal.returns-clause-drawn
returns-clause-drawn c =
    let s = c.args.snapshot.now in
    let w = c.args.view.window in
    let limit = c.args.view.limit in
    let rules_are : c.as_slice-rules.result.now ≡ s.deck.rules = cc in
    record {
      window_is = refl;
      shapes = c.in_ok-rectangles.ensures;
      layers_are =
          c.in_ok-layers.ensures
          ∙ ap (λ (rs : List Rule). layers_of rs c.as_slice.result.now) rules_are
          ∙ ap (λ (xs : List Rectangle). layers_of s.deck.rules xs) c.as_slice.ensures.value;
      marks_are = c.in_ok-marks.ensures;
      counts_are =
          c.in_ok-counts.ensures
          ∙ ap (λ (rs : List Rule). counts_of w limit (length rs) c.as_slice-2.result.now) rules_are
          ∙ ap (λ (ms : List Mark). counts_of w limit (length s.deck.rules) ms)
          (c.as_slice-2.ensures.value ∙ c.in_ok-marks.ensures);
      wanted_is = refl;
      limit_is = refl;
    }
