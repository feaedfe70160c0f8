-- Answers to the goals of `write_markers` in `src/markers.rt`.
use Rattle.std.proofs.Common.{ap, sym, ◌∙◌, ◌++◌}
use Rattle.std.specs.List.{flat_map}
use Rattle.std.proofs.lemmas.Grind.{flat_map-append}
use Rattle.mpw_reply_text.specs.Reply.{listed_text}
use Rattle.mpw_wire.specs.Writing.{fault_of}
use Rattle.mpw_reply_text.proofs.WritingLemmas.{Writes_first, Writes_both, Writes_same, handed_on}
use Rattle.mpw_reply_text.proofs.markers.write_markers.Goals as goal

pub returns-in_err-write_full : goal.returns-in_err-write_full
returns-in_err-write_full g c =
    let fault = c.in_err-write_full.field-0.0 in
    let lines = c.lines-lines.result in
    Writes_same _ _ _ _ _ (flat_map listed_text lines.full ++ flat_map listed_text lines.masked) _
    (sym (flat_map-append listed_text lines.full lines.masked)
    ∙ ap (flat_map listed_text) (sym c.lines-lines.ensures))
    (Writes_first _ _ _ _ fault _ _ (flat_map listed_text lines.full)
    (flat_map listed_text lines.masked)
    (ap fault_of c.in_err-write_full.was)
    (handed_on c.from_residual.result fault c.from_residual.ensures.1) c.write_full.ensures)

pub returns : goal.returns
returns g c =
    let lines = c.lines-lines.result in
    Writes_same _ _ _ _ _ (flat_map listed_text lines.full ++ flat_map listed_text lines.masked) _
    (sym (flat_map-append listed_text lines.full lines.masked)
    ∙ ap (flat_map listed_text) (sym c.lines-lines.ensures))
    (Writes_both _ _ _ _ _ _ _ _ (flat_map listed_text lines.full)
    (flat_map listed_text lines.masked)
    (ap fault_of c.in_ok-write_full.was) c.write_full.ensures c.write_masked.ensures)
