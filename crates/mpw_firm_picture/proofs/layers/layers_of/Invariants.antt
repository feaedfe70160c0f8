-- The invariants of the loops of `layers_of` in `src/layers.rt`.
use Rattle.std.proofs.Common.{◌≡◌, take}
use Rattle.mpw_firm_picture.specs.Looks.{layers_of}
use Rattle.mpw_firm_picture.proofs.layers.layers_of.Given as goal

abbrev pub invariant-loop-rectangle : goal.invariant-loop-rectangle
invariant-loop-rectangle l = l.layers.items ≡ layers_of l.rules (take l.rectangle-index l.rectangles)
