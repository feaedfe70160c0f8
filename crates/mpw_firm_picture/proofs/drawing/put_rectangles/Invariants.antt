-- The invariants of the loops of `put_rectangles` in `src/drawing.rt`.
use Rattle.std.proofs.Common.{take}
use Rattle.std.specs.List.{flat_map}
use Rattle.std.specs.Io.KnownBytes.{Appends}
use Rattle.mpw_firm_picture.specs.Text.{rectangle_of}
use Rattle.mpw_firm_picture.proofs.drawing.put_rectangles.Given as goal

abbrev pub invariant-loop-rectangle : goal.invariant-loop-rectangle
invariant-loop-rectangle g l =
    Appends (g.W.Write.contents l.initial.writer) (g.W.Write.contents l.writer)
    (flat_map (rectangle_of l.window l.layer) (take l.rectangle-index l.rectangles))
