-- Definitions for private functions and proofs: a shape of a listing, as it is given, and its line.
use Rattle.std.specs.Prelude.{List, [], ◌∷◌, Option, None, Some}
use Rattle.mpw_replies.specs.declared.listing.ShapeView.{ShapeView}
use Rattle.mpw_replies.specs.Listing.{Listed}
use Rattle.mpw_replies.specs.Shapes.{line_of}

abbrev pub lines_of : Option ShapeView → List Listed
lines_of None = []
lines_of (Some v) = line_of v ∷ []
