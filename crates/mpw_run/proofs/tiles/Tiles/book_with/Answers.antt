-- Answers to the goals of `Tiles::book_with` in `src/tiles.rt`.
use Rattle.std.proofs.Common.{◌≡◌, List, subst, ◌∙◌}
use Rattle.mpw_markers.specs.declared.marker.Marker.{Marker}
use Rattle.mpw_markers.specs.Stitched.{IsStitched}
use Rattle.mpw_run.specs.Internal.Prepared.{answers_with}
use Rattle.mpw_run.specs.Stitching.{stitched}
use Rattle.mpw_run.proofs.tiles.Tiles.book_with.Goals as goal

pub returns : goal.returns
returns c =
    let lists = answers_with c.args.markers.now c.args.tile c.args.self.now in
    let same : c.as_slice.result.now ≡ lists = c.as_slice.ensures.value ∙ c.in_ok-lists.ensures in
    let made : IsStitched lists c.in_ok-book.book =
    subst (λ (ls : List (List Marker)). IsStitched ls c.in_ok-book.book) same
    c.in_ok-book.ensures in
    c.lists_determine_the_book.ensures lists c.in_ok-book.book (stitched lists) made
    (c.stitched_computes.ensures lists c.requires.filled)
