-- Answers to the goals of `elements_of` in `src/elements.rt`.
use Rattle.std.proofs.Common.{◌∙◌, ◌++◌, sym, ap, append-nil}
use Rattle.mpw_firm_skipping.proofs.Finding.{in_none}
use Rattle.mpw_firm_skipping.proofs.elements.elements_of.Goals as goal

pub returns : goal.returns
returns c =
    sym (append-nil c.loop-found.spans.items)
    ∙ ap (λ more. c.loop-found.spans.items ++ more)
    (sym (in_none c.loop-found.opened c.loop-found.finds c.in_default.ensures.none))
    ∙ c.loop-found.invariant
