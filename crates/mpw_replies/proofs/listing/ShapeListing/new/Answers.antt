-- Answers to the goals of `ShapeListing::new` in `src/listing.rt`.
use Rattle.std.proofs.Common.{◌∙◌, ap}
use Rattle.mpw_hier.specs.Values.{flat}
use Rattle.mpw_seen.specs.Seen.{seen_items}
use Rattle.mpw_replies.proofs.ListingLemmas.{listing_is}
use Rattle.mpw_replies.proofs.listing.ShapeListing.new.Goals as goal

pub invariant_of-result : goal.invariant_of-result
invariant_of-result c =
    listing_is c.args.shelf c.args.seen.items c.args.number c.in_ok-count.count
    c.at_origin-root.result c.at_origin-root.ensures.root c.at_origin-root.ensures.shapes
    c.shelves_have_their_numbers.ensures.origins
    (c.in_ok-count.ensures ∙ ap (λ seen. seen_items seen (flat c.args.shelf c.args.number))
    c.deref.ensures.value)
