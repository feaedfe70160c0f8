-- Answers to the goals of `structures_of` in `src/standing.rt`.
use Rattle.std.proofs.Common.{◌∙◌, ◌++◌, sym, ap, append-nil}
use Rattle.mpw_firm_skipping.proofs.Finding.{structures_none}
use Rattle.mpw_firm_skipping.proofs.standing.structures_of.Goals as goal

pub returns : goal.returns
returns c =
    sym (append-nil c.loop-found.spans.items)
    ∙ ap (λ more. c.loop-found.spans.items ++ more)
    (sym (structures_none c.loop-found.standing c.loop-found.finds c.in_default.ensures.none))
    ∙ c.loop-found.invariant
