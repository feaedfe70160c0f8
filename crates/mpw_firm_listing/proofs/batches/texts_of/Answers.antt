-- Answers to the goals of `texts_of` in `src/batches.rt`.
use Rattle.std.proofs.Common.{ap, ◌∙◌}
use Rattle.std.specs.List.{flat_map}
use Rattle.std.proofs.lemmas.Result.{MatchResult-weaker}
use Rattle.mpw_firm_listing.specs.Listing.{lines_of, marker_line}
use Rattle.mpw_firm_listing.proofs.Joined.{joined}
use Rattle.mpw_firm_listing.proofs.batches.texts_of.Goals as goal

pub returns : goal.returns
returns g c =
    let listing = c.args.listing.now in
    let slice = ap (λ it. it.slice.now) c.map.ensures.base ∙ c.par_chunks.ensures.slice in
    let results = c.in_ok-collect.ensures.0 in
    let chain = rw c.map.ensures.f at c.in_ok-collect.ensures.1 in
    MatchResult-weaker c.in_ok-collect.field-0 c.in_ok-collect.ensures.2 (λ texts made.
    ap (flat_map (λ text. text.items)) made.2
    ∙ joined _ (marker_line listing.parts.now listing.top.now listing.rules.now) (λ text. text.items)
    _ _ chain.0 results made.0 chain.1 made.1 chain.2
    ∙ ap (lines_of listing) slice) (λ _ _. tt)
