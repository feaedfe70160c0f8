-- The lines that are written, of what a reply stores.
use Rattle.std.specs.Prelude.{List, map}
use Rattle.mpw_replies.specs.declared.lines.Told.{Told}
use Rattle.mpw_replies.specs.declared.lines.Told.TheVariants as told
use Rattle.mpw_replies.specs.declared.lines.Kept.{Kept}
use Rattle.mpw_replies.specs.declared.lines.Kept.TheVariants as kept
use Rattle.mpw_replies.specs.Listing.{Listed, stored}
use Rattle.mpw_replies.specs.Trail.{trail_lines}

abbrev pub told_lines : Told → List Listed
told_lines (told.Stored lines) = map stored lines.items
told_lines (told.Shapes listing) = listing
told_lines (told.Markers listing) = listing
told_lines (told.Trail listing) = trail_lines listing

abbrev pub kept_lines : Kept → List Listed
kept_lines (kept.Stored lines) = map stored lines.now
kept_lines (kept.Shapes listing) = listing.now
kept_lines (kept.Markers listing) = listing.now
kept_lines (kept.Trail listing) = trail_lines listing.now
