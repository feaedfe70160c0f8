-- The invariants of the loops of `put_notes` in `src/notes.rt`.
use Rattle.std.proofs.Common.{take, map}
use Rattle.std.specs.List.{flat_map}
use Rattle.std.specs.Io.KnownBytes.{Appends}
use Rattle.mpw_firm_report.specs.Content.{note_of}
use Rattle.mpw_firm_report.specs.Report.{note_text}
use Rattle.mpw_firm_report.proofs.notes.put_notes.Given as goal

abbrev pub invariant-loop-note : goal.invariant-loop-note
invariant-loop-note g l =
    Appends (g.W.Write.contents l.initial.writer) (g.W.Write.contents l.writer)
    (flat_map note_text (map note_of (take l.note-index l.notes)))
