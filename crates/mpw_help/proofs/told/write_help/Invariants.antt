-- The invariants of the loops of `write_help` in `src/told.rt`.
use Rattle.std.proofs.Common.{take}
use Rattle.std.specs.List.{flat_map}
use Rattle.std.specs.Io.KnownBytes.{Appends}
use Rattle.mpw_help.specs.Help.{help_text}
use Rattle.mpw_help.proofs.told.write_help.Given as goal

abbrev pub invariant-loop-entry : goal.invariant-loop-entry
invariant-loop-entry g l =
    Appends (g.W.Write.contents l.initial.writer) (g.W.Write.contents l.writer)
    (flat_map (help_text l.word) (take l.entry-index l.entries))
