-- The invariants of the loops of `put_rows` in `src/legend.rt`.
use Rattle.std.proofs.Common.{take}
use Rattle.std.specs.List.{flat_map, enumerate_from}
use Rattle.std.specs.Io.KnownBytes.{Appends}
use Rattle.mpw_firm_picture.specs.Rows.{row_text}
use Rattle.mpw_firm_picture.proofs.legend.put_rows.Given as goal

abbrev pub invariant-loop-place : goal.invariant-loop-place
invariant-loop-place g l =
    Appends (g.W.Write.contents l.initial.writer) (g.W.Write.contents l.writer)
    (flat_map (row_text l.picture) (take l.place (enumerate_from 0 l.rules)))
