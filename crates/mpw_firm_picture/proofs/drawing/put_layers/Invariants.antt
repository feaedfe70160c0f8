-- The invariants of the loops of `put_layers` in `src/drawing.rt`.
use Rattle.std.proofs.Common.{take}
use Rattle.std.specs.List.{flat_map, enumerate_from}
use Rattle.std.specs.Io.KnownBytes.{Appends}
use Rattle.mpw_firm_picture.specs.Text.{layer_text}
use Rattle.mpw_firm_picture.proofs.drawing.put_layers.Given as goal

abbrev pub invariant-loop-place : goal.invariant-loop-place
invariant-loop-place g l =
    Appends (g.W.Write.contents l.initial.writer) (g.W.Write.contents l.writer)
    (flat_map (layer_text l.picture) (take l.place (enumerate_from 0 l.layers)))
