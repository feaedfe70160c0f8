-- Answers to the goals of `Lines::len` in `src/lines.rt`.
use Rattle.std.proofs.Common.{◌∙◌, sym, ap, length}
use Rattle.mpw_replies.specs.Told.{kept_lines}
use Rattle.mpw_replies.proofs.TrailLemmas.{numbered_length}
use Rattle.mpw_replies.proofs.lines.Lines.len.Goals as goal

pub returns-in-Trail : goal.returns-in-Trail
returns-in-Trail c =
    c.len-in-Trail.ensures
    ∙ sym (numbered_length 1 c.in-Trail.listing.now)
    ∙ ap (λ k. length (kept_lines k)) (sym c.in-Trail.is)
    ∙ ap length c.contents.ensures
