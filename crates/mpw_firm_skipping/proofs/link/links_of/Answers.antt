-- Answers to the goals of `links_of` in `src/link.rt`.
use Rattle.std.proofs.Common.{◌∙◌, ◌++◌, map, sym, ap, append-nil}
use Rattle.mpw_firm_skipping.specs.Internal.Passes.{link_of}
use Rattle.mpw_firm_skipping.proofs.Finding.{links_none}
use Rattle.mpw_firm_skipping.proofs.link.links_of.Goals as goal

pub returns : goal.returns
returns c =
    let links = map link_of c.loop-found.links.items in
    sym (append-nil links)
    ∙ ap (λ more. links ++ more)
    (sym (links_none c.args.text.now c.loop-found.standing c.loop-found.finds
    c.in_default.ensures.none))
    ∙ c.loop-found.invariant
