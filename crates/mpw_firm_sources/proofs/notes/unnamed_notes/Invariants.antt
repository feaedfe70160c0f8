-- The invariants of the loops of `unnamed_notes` in `src/notes.rt`.
use Rattle.std.proofs.Common.{◌≡◌, map, take}
use Rattle.mpw_firm_report.specs.Content.{note_of}
use Rattle.mpw_firm_sources.specs.Notes.{unnamed_note}
use Rattle.mpw_firm_sources.proofs.notes.unnamed_notes.Given as goal

abbrev pub invariant-loop-layer : goal.invariant-loop-layer
invariant-loop-layer l =
    map note_of l.notes.items ≡ map (unnamed_note l.snapshot) (take l.layer-index l.layers)
