-- Answers to the goals of `tiles_make_the_layout` in `src/laws.rt`.
use Rattle.mpw_check.proofs.ListLemmas.{make_the_layout}
use Rattle.mpw_check.proofs.laws.tiles_make_the_layout.Goals as goal

pub returns : goal.returns
returns c =
    make_the_layout c.answers_make_the_layout.ensures c.lists_determine_the_book.ensures
    c.no_shapes_no_markers.ensures
