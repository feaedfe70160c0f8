-- The invariants of the loops of `idle_notes` in `src/notes.rt`.
use Rattle.std.proofs.Common.{◌≡◌, map, take}
use Rattle.std.specs.List.{flat_map}
use Rattle.mpw_firm_report.specs.Content.{note_of}
use Rattle.mpw_firm_sources.specs.Notes.{idle_notes}
use Rattle.mpw_firm_sources.proofs.notes.idle_notes.Given as goal

abbrev pub invariant-loop-rule : goal.invariant-loop-rule
invariant-loop-rule l =
    map note_of l.notes.items ≡ flat_map (idle_notes l.snapshot) (take l.rule-index l.rules)
