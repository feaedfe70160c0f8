-- The invariants of the loops of `put_boxes` in `src/left.rt`.
use Rattle.std.proofs.Common.{take}
use Rattle.std.specs.Io.KnownBytes.{Appends}
use Rattle.mpw_firm_picture.specs.Left.{left_boxes}
use Rattle.mpw_firm_picture.proofs.left.put_boxes.Given as goal

abbrev pub invariant-loop-area : goal.invariant-loop-area
invariant-loop-area g l =
    Appends (g.W.Write.contents l.initial.writer) (g.W.Write.contents l.writer)
    (left_boxes l.window (take l.area-index l.boxes))
