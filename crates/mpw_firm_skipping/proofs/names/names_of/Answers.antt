-- Answers to the goals of `names_of` in `src/names.rt`.
use Rattle.std.proofs.Common.{◌∙◌, ◌++◌, map, sym, ap, append-nil}
use Rattle.mpw_firm_skipping.proofs.Finding.{names_none}
use Rattle.mpw_firm_skipping.proofs.names.names_of.Goals as goal

pub returns : goal.returns
returns c =
    let names = map (λ n. n.now) c.loop-found.names.items in
    sym (append-nil names)
    ∙ ap (λ more. names ++ more)
    (sym (names_none c.args.kind c.loop-found.opened c.loop-found.finds c.in_default.ensures.none))
    ∙ c.loop-found.invariant
