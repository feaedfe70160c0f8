-- Answers to the goals of `read_breadth` in `src/path.rt`.
use Rattle.mpw_structures.specs.Element.{IsWithinReach}
use Rattle.mpw_elements.specs.Internal.Element.{IsWidth}
use Rattle.mpw_elements.proofs.Shapes.{kept}
use Rattle.mpw_elements.proofs.path.read_breadth.Goals as goal

pub returns-clause-shape : goal.returns-clause-shape
returns-clause-shape c =
    let width : IsWidth c.in_ok-width.width = c.in_ok-width.ensures.even in
    let begin : IsWithinReach c.in_ok-begin.begin = c.in_ok-begin.ensures.reach in
    let end : IsWithinReach c.in_ok-end.end = c.in_ok-end.ensures.reach in
    let given = kept IsWidth c.in_ok-width.width width.within_reach width in
    let first =
    c.lengthening.ensures.reach given (kept IsWithinReach c.in_ok-begin.begin begin begin) in
    let last = c.lengthening-2.ensures.reach given (kept IsWithinReach c.in_ok-end.end end end) in
    record {
      width = given;
      begin = kept IsWithinReach c.lengthening.result first first;
      end = kept IsWithinReach c.lengthening-2.result last last;
    }
