-- The texts that a command writes, and where.
use Rattle.std.specs.Prelude.{ℕ, List, [], ◌∷◌, Option, None, Some}
use Rattle.mpw_firm_outputs.specs.declared.outputs.Place.{Place}
use Rattle.mpw_firm_outputs.specs.declared.outputs.Place.TheVariants as place
use Rattle.mpw_firm_outputs.specs.declared.texts.Text.{Text}
use Rattle.mpw_firm_outputs.specs.declared.texts.Text.TheVariants as text
use Rattle.mpw_firm_outputs.specs.Counted.{counts_text}
use Rattle.mpw_firm_outputs.specs.Outputs.{Kept}
use Rattle.mpw_firm_listing.specs.Limited.{limited_of, limited_text}
use Rattle.mpw_firm_listing.specs.Listing.{listing_of}
use Rattle.mpw_firm_listing.specs.declared.listing.Listing.{Listing}
use Rattle.mpw_firm_parts.specs.Text.{part_text}
use Rattle.mpw_firm_picture.specs.Text.{picture_text}
use Rattle.mpw_firm_report.specs.Content.{content_of}
use Rattle.mpw_firm_report.specs.Report.{full_text}

-- The name of a place's file; none is the standard output's.
abbrev pub place_of : Place → Option (List ℕ)
place_of place.Standard = None
place_of (place.File name) = Some name.now

abbrev pub text_of : Text → List ℕ
text_of (text.Limited listing) = limited_text (limited_of listing.now)
text_of (text.Counts rules counts) = counts_text rules.now counts.now.rules.now counts.now.all
text_of (text.Report report) = full_text (content_of report.now)
text_of (text.Picture rules top picture) = picture_text rules.now top.now picture.now
text_of (text.Part part) = part_text part.now
text_of (text.Told told) = told.now

-- The text in its place.
abbrev pub kept_of : Place → Text → List Kept
kept_of to t = record { place = place_of to; text = text_of t } ∷ []

-- The listing of all markers in its place.
abbrev pub listed_at : Place → Listing → List Kept
listed_at to listing = record { place = place_of to; text = listing_of listing } ∷ []
