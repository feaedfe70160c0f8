-- Answers to the goals of `are_columns_of` in `src/whole.rt`.
use Rattle.std.proofs.Common.{◌∙◌, sym}
use Rattle.std.proofs.lemmas.Bool.{false≢true}
use Rattle.mpw_firm_parts.proofs.Covered.{too_high}
use Rattle.mpw_firm_parts.proofs.whole.are_columns_of.Goals as goal

pub returns-in-None : goal.returns-in-None
returns-in-None c = (
  λ none. absurd (false≢true none),
  λ are. absurd (too_high c.args.axis c.args.extent.now c.args.columns.now
      (sym c.places_along-places.ensures.high ∙ c.in-None.ensures) c.places_along-places.ensures.low
      c.places_along-places.ensures.below c.end_below.ensures are),
)
