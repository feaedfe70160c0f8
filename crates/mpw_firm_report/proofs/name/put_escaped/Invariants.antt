-- The invariants of the loops of `put_escaped` in `src/name.rt`.
use Rattle.std.proofs.Common.{take}
use Rattle.std.specs.List.{flat_map}
use Rattle.std.specs.Io.KnownBytes.{Appends}
use Rattle.mpw_firm_report.specs.Escapes.{character}
use Rattle.mpw_firm_report.proofs.name.put_escaped.Given as goal

abbrev pub invariant-loop-byte : goal.invariant-loop-byte
invariant-loop-byte g l =
    Appends (g.W.Write.contents l.initial.writer) (g.W.Write.contents l.writer)
    (flat_map character (take l.byte-index l.bytes))
