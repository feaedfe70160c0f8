-- The invariants of the loops of `put_columns` in `src/write.rt`.
use Rattle.std.proofs.Common.{take}
use Rattle.std.specs.Io.KnownBytes.{Appends}
use Rattle.mpw_firm_parts.specs.Internal.Writing.{Takes}
use Rattle.mpw_firm_parts.specs.Text.{columns_text}
use Rattle.mpw_firm_parts.proofs.write.put_columns.Given as goal

abbrev pub invariant-loop-place : goal.invariant-loop-place
invariant-loop-place g l =
    Appends (g.W.Write.contents l.initial.writer) (g.W.Write.contents l.writer)
    (columns_text (take l.place l.columns) (take l.place l.lists))
    × Takes l.initial.hasher l.hasher (columns_text (take l.place l.columns) (take l.place l.lists))
