-- Answers to the goals of `lists_determine_the_book` in `src/laws.rt`.
use Rattle.mpw_markers.specs.Stitched.{IsListed}
use Rattle.mpw_markers.proofs.Unique.{same_books}
use Rattle.mpw_markers.proofs.laws.lists_determine_the_book.Goals as goal

pub returns : goal.returns
returns c = λ lists first second h k. same_books (IsListed lists) first second h k
