-- Answers to the goals of `Content::goes_on` in `src/front.rt`.
use Rattle.mpw_firm_sources.proofs.Fronts.{place_first, place_if_known}
use Rattle.mpw_firm_sources.proofs.front.Content.goes_on.Goals as goal

pub returns-in-Library-clause-place : goal.returns-in-Library-clause-place
returns-in-Library-clause-place c =
    place_if_known _ _ _ c.args.first.now c.place_if.ensures (place_first c.args.first.now)
