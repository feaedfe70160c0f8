-- Answers to the goals of `Book::find` in `src/book.rt`.
use Rattle.std.proofs.Common.{◌∙◌, ap, slice_get, sym}
use Rattle.std.specs.Option.{option_copied}
use Rattle.mpw_markers.proofs.Found.{found_some, found_none}
use Rattle.mpw_markers.proofs.book.Book.find.Goals as goal

pub returns-in-Some : goal.returns-in-Some
returns-in-Some c =
    found_some c.args.self.now c.args.key.now c.in-Some.place (option_copied c.marker_at.result)
    c.as_slice-markers.ensures.book (sym c.place.ensures ∙ c.in-Some.is)
    (c.marker_at.ensures ∙ ap (λ markers. slice_get markers c.in-Some.place)
    c.as_slice-markers.ensures.markers)

pub returns-in-None : goal.returns-in-None
returns-in-None c = found_none c.args.self.now c.args.key.now (sym c.place.ensures ∙ c.in-None.is)
